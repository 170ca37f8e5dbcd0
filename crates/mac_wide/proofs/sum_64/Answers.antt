-- `sum_64` meets its contract: after i turns each row has the last i bytes of the message word.
use borrow.Author.Rules.{rules}
use mathlib.Core.Path.{◌≡◌, refl, ap, ap₂, sym, ◌∙◌}
use mathlib.Core.List.{List, [], ◌∷◌, ◌++◌}
use Prim.Native.Nat.{ℕ, ◌+◌, ◌-◌, ◌*◌, ◌<◌}
use lib.Bits.{bit_xor}
use lib.ListN.{get_or-eq_default, length}
use native.Mathlib.Omega.{arith}
use Rattle.standard.specs.Notation.{◌⊕◌, ◌⟨◌⟩, listed}
use Rattle.standard.specs.Bits.{M, bit_at, window}
use Rattle.standard.proofs.Linear.{M-lt}
use Rattle.standard.proofs.Listed.{is-listed}
use Rattle.standard.proofs.Register.{sum-window}
use Rattle.standard.proofs.Window.{bit_at_lt}
use Rattle.mac_wide.specs.InnerRows.{four_on, multiples_of, over, stream_of}
use Rattle.mac_wide.proofs.Rows.{gathered-is, looked, looked-lt, row, row_more, turned}
use Rattle.mac_wide.proofs.Tables.{word_more, word_none}
use Rattle.mac_wide.proofs.sum_64.Invariants.{row_of}
use Rattle.mac_wide.proofs.sum_64.Goals as goal

module _ (key : List ℕ) (full : length key ≡ 2) (m : ℕ → ℕ) (bits : (i : ℕ) → m i < 2) where
  abbrev word : ℕ → ℕ
  word j = key ⟨ j ⟩

  more : (i n : ℕ) (a b x r : List ℕ) → a ≡ multiples_of (key ⟨ 0 ⟩) (key ⟨ 1 ⟩) → b ≡ multiples_of (key ⟨ 1 ⟩) 0 → (n ≡ window m ((7 - i) * 8) 4) × (n < 16)
      → x ≡ row_of key m i → r ≡ over 8 (a ⟨ n ⟩ ∷ b ⟨ n ⟩ ∷ []) (x ++ (0 ∷ [])) → r ≡ row_of key m (i + 1)
  more i n a b x r ea eb en =
      row_more (looked (bit_at 64 word) m 1) (looked-lt (bit_at 64 word) (bit_at_lt 64 word) m 1) 2 i (a ⟨ n ⟩ ∷ b ⟨ n ⟩ ∷ []) x r
      (rw (ea, eb ∙ ap (multiples_of (key ⟨ 1 ⟩)) end) (ap₂ (λ (u v : ℕ). u ∷ v ∷ []) (looks 0) (looks 1)))
    where
      end : 0 ≡ key ⟨ 2 ⟩
      end = sym (get_or-eq_default key 0 (omega (arith, full)))

      looks : (q : ℕ) → 0 ⊕ multiples_of (word (0 + q)) (word (0 + q + 1)) ⟨ n ⟩ ≡ window (looked (bit_at 64 word) m 1 i) (q * 64) 64
      looks q = word_more word m bits 0 q i 0 n (word_none word m bits i (q * 64)) en

pub loop-i-init : goal.loop-i-init
unfolding row turned window
loop-i-init c = (omega arith, refl, refl)

pub loop-i-preserved : goal.loop-i-preserved
loop-i-preserved c =
    let first = c in
    let turn_low = first in
    let last = turn_low in
    let test = last in
    let loop = test in
    let l = loop.loop-i in
    let tables = loop in
    let a = tables.args in
    let m : ℕ → ℕ = M a.block.now in
    let bits : (i : ℕ) → m i < 2 = M-lt a.block.now in (
      omega (arith, test.loop-i-test.true),
      more a.key (search rules) m bits l.i _ _ _ _ _ tables.multiples-a.ensures tables.multiples-b.ensures first.first_four-n.ensures l.invariant.1 c.turn-high.ensures,
      more a.key (search rules) (four_on m) (λ i. bits (4 + i)) l.i _ _ _ _ _ tables.multiples-a.ensures tables.multiples-b.ensures last.last_four-n.ensures
          l.invariant.2 turn_low.turn-low.ensures,
    )

pub returns : goal.returns
unfolding listed
returns c =
    let loop = c in
    let l = loop.loop-i in
    let a = loop.args in
    let listed-high = sym (is-listed (λ k. l.high ⟨ k ⟩) l.high 2 (ap length l.invariant.1) (λ k h. refl)) in
    let listed-low = sym (is-listed (λ k. l.low ⟨ k ⟩) l.low 2 (ap length l.invariant.2) (λ k h. refl)) in
    let m : ℕ → ℕ = M a.block.now in
    let s : ℕ → ℕ = stream_of a.key in
    let bits : (i : ℕ) → s i < 2 = bit_at_lt 64 (λ j. a.key ⟨ j ⟩) in
    ap (bit_xor (l.high ⟨ 0 ⟩)) c.up.ensures
    ∙ ap (λ (x : List ℕ). x ⟨ 0 ⟩) (gathered-is s bits m 1 1 l.i _ _ (omega (arith, l.invariant.0)) (listed-high ∙ l.invariant.1) (listed-low ∙ l.invariant.2))
    ∙ sym (sum-window s bits m 64 0 64)
