-- `sum_128` meets its contract: after i turns each row has the last i bytes of both message words.
use borrow.Author.Rules.{rules}
use mathlib.Core.Path.{◌≡◌, refl, ap, ap₂, sym, ◌∙◌}
use mathlib.Core.List.{List, [], ◌∷◌, ◌++◌}
use Prim.Native.Nat.{ℕ, ◌+◌, ◌-◌, ◌*◌, ◌<◌}
use lib.Bits.{bit_xor}
use lib.ListN.{get_or-eq_default, length}
use native.Mathlib.Omega.{arith}
use Rattle.standard.specs.Notation.{◌⊕◌, ◌⟨◌⟩, listed}
use Rattle.standard.specs.Bits.{M, bit_at, window}
use Rattle.standard.proofs.Linear.{M-lt}
use Rattle.standard.proofs.Listed.{is-listed}
use Rattle.standard.proofs.Register.{sum-window}
use Rattle.standard.proofs.Window.{bit_at_lt}
use Rattle.mac_wide.specs.InnerRows.{four_on, multiples_of, over, stream_of}
use Rattle.mac_wide.proofs.Rows.{gathered-is, looked, looked-lt, row, row_more, turned}
use Rattle.mac_wide.proofs.Tables.{word_more, word_none}
use Rattle.mac_wide.proofs.sum_128.Invariants.{row_of}
use Rattle.mac_wide.proofs.sum_128.Goals as goal

module _ (key : List ℕ) (full : length key ≡ 4) (m : ℕ → ℕ) (bits : (i : ℕ) → m i < 2) where
  abbrev word : ℕ → ℕ
  word j = key ⟨ j ⟩

  more : (i n p : ℕ) (a b c d x r : List ℕ) → a ≡ multiples_of (key ⟨ 0 ⟩) (key ⟨ 1 ⟩) → b ≡ multiples_of (key ⟨ 1 ⟩) (key ⟨ 2 ⟩) → c ≡ multiples_of (key ⟨ 2 ⟩) (key ⟨ 3 ⟩) → d ≡ multiples_of (key ⟨ 3 ⟩) 0
      → (n ≡ window m ((7 - i) * 8) 4) × (n < 16) → (p ≡ window m ((15 - i) * 8) 4) × (p < 16) → x ≡ row_of key m i
      → r ≡ over 8 ((a ⟨ n ⟩ ⊕ b ⟨ p ⟩) ∷ (b ⟨ n ⟩ ⊕ c ⟨ p ⟩) ∷ (c ⟨ n ⟩ ⊕ d ⟨ p ⟩) ∷ []) (x ++ (0 ∷ [])) → r ≡ row_of key m (i + 1)
  more i n p a b c d x r ea eb ec ed en ep =
      row_more (looked (bit_at 64 word) m 2) (looked-lt (bit_at 64 word) (bit_at_lt 64 word) m 2) 3 i ((a ⟨ n ⟩ ⊕ b ⟨ p ⟩) ∷ (b ⟨ n ⟩ ⊕ c ⟨ p ⟩) ∷ (c ⟨ n ⟩ ⊕ d ⟨ p ⟩) ∷ []) x r
      (rw (ea, eb, ec, ed ∙ ap (multiples_of (key ⟨ 3 ⟩)) end) (ap₂ (λ (u : ℕ) (v : List ℕ). u ∷ v) (looks 0) (ap₂ (λ (u v : ℕ). u ∷ v ∷ []) (looks 1) (looks 2))))
    where
      end : 0 ≡ key ⟨ 4 ⟩
      end = sym (get_or-eq_default key 0 (omega (arith, full)))

      looks : (q : ℕ) → 0 ⊕ multiples_of (word (0 + q)) (word (0 + q + 1)) ⟨ n ⟩ ⊕ multiples_of (word (1 + q)) (word (1 + q + 1)) ⟨ p ⟩
          ≡ window (looked (bit_at 64 word) m 2 i) (q * 64) 64
      looks q = word_more word m bits 1 q i _ p (word_more word m bits 0 q i 0 n (word_none word m bits i (q * 64)) en) ep

pub loop-i-init : goal.loop-i-init
unfolding row turned window
loop-i-init c = (omega arith, refl, refl)

pub loop-i-preserved : goal.loop-i-preserved
loop-i-preserved c =
    let first-p = c in
    let first-n = first-p in
    let turn_low = first-n in
    let last-p = turn_low in
    let last-n = last-p in
    let test = last-n in
    let loop = test in
    let l = loop.loop-i in
    let t₃ = loop in
    let t₂ = t₃ in
    let t₁ = t₂ in
    let t₀ = t₁ in
    let a = t₀.args in
    let m : ℕ → ℕ = M a.block.now in
    let bits : (i : ℕ) → m i < 2 = M-lt a.block.now in (
      omega (arith, test.loop-i-test.true),
      more a.key (search rules) m bits l.i _ _ _ _ _ _ _ _ t₀.multiples-a.ensures t₁.multiples-b.ensures t₂.multiples-c.ensures t₃.multiples-d.ensures
          first-n.first_four-n.ensures first-p.first_four-m.ensures l.invariant.1 c.turn-high.ensures,
      more a.key (search rules) (four_on m) (λ i. bits (4 + i)) l.i _ _ _ _ _ _ _ _ t₀.multiples-a.ensures t₁.multiples-b.ensures t₂.multiples-c.ensures
          t₃.multiples-d.ensures last-n.last_four-n.ensures last-p.last_four-m.ensures l.invariant.2 turn_low.turn-low.ensures,
    )

pub returns : goal.returns
unfolding listed
returns c =
    let second = c in
    let first = second in
    let loop = first in
    let l = loop.loop-i in
    let a = loop.args in
    let listed-high = sym (is-listed (λ k. l.high ⟨ k ⟩) l.high 3 (ap length l.invariant.1) (λ k h. refl)) in
    let listed-low = sym (is-listed (λ k. l.low ⟨ k ⟩) l.low 3 (ap length l.invariant.2) (λ k h. refl)) in
    let m : ℕ → ℕ = M a.block.now in
    let key : List ℕ = a.key in
    let s : ℕ → ℕ = stream_of key in
    let bits : (i : ℕ) → s i < 2 = bit_at_lt 64 (λ j. key ⟨ j ⟩) in
    let both = gathered-is s bits m 2 2 l.i _ _ (omega (arith, l.invariant.0)) (listed-high ∙ l.invariant.1) (listed-low ∙ l.invariant.2) in (
      ap (bit_xor (l.high ⟨ 0 ⟩)) first.up.ensures ∙ ap (λ (x : List ℕ). x ⟨ 0 ⟩) both ∙ sym (sum-window s bits m 128 0 64),
      ap (bit_xor (l.high ⟨ 1 ⟩)) second.up-2.ensures ∙ ap (λ (x : List ℕ). x ⟨ 1 ⟩) both ∙ sym (sum-window s bits m 128 64 64),
    )
