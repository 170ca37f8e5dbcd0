-- A body of L bits: the test says just that its bytes are as many as the bits reach into and that no bit past L is set; a masked body is one,
-- and masked twice a body is itself. Byte by byte, by the bits that clean mode keeps.
use mathlib.Core.Bool.{true}
use mathlib.Core.List.{List}
use mathlib.Core.Logic.{◌↔◌, ⊎_elim}
use mathlib.Core.Path.{◌≡◌, refl, sym, ap, ap₂, ◌∙◌}
use Prim.Native.Nat.{ℕ, zero, suc, ◌+◌, ◌-◌, ◌*◌, ◌/◌, ◌%◌, ◌^◌, ◌<◌, ◌≤◌}
use native.Mathlib.Nat.{eq-zero-or-pos, zero-add, zero-div}
use native.Mathlib.Omega.{arith}
use borrow.Author.Tests.{eq-eqb, eqb-true}
use lib.Dec.{eqb}
use lib.ListN.{length, get_or-eq_default}
use lib.Pow.{mod-pow-add, split}
use Rattle.standard.specs.Bits.{M, bit_at, bit_of}
use Rattle.standard.specs.Confidentiality.{cleared_past, keep_high, kept_by_clean}
use Rattle.standard.specs.Frame.{Fields, body_fits, masked_body}
use Rattle.standard.specs.Notation.{◌⟨◌⟩, ceil}
use Rattle.standard.proofs.Each.{get_or-each, is-each}
use Rattle.standard.proofs.Kept.{keep_all, keep-le, lost-bit}
use Rattle.standard.proofs.Masking.{length-masked, twice-clean, zero-clean}
use Rattle.standard.proofs.Table.{and_left, and_right}
use Rattle.frame_laws.specs.Taken.{NoBitPast}

-- a number whose m lowest bits are zeros, and a byte whose bits from place k on are
low_clear : (x m : ℕ) → ((j : ℕ) → j < m → x / 2 ^ j % 2 ≡ 0) → x % 2 ^ m ≡ 0
low_clear x zero clear = omega arith
low_clear x (suc m) clear =
    let e : suc m ≡ 1 + m = omega arith in
    ap (λ (n : ℕ). x % 2 ^ n) e
    ∙ mod-pow-add x 1 m
    ∙ ap₂ (λ (a b : ℕ). a * 2 ^ m + b) (clear m (omega arith)) (low_clear x m (λ j h. clear j (omega arith)))
    ∙ omega arith

keeps-clear : (k x : ℕ) → ((p : ℕ) → k ≤ p → p < 8 → bit_of 8 x p ≡ 0) → x ≡ keep_high k x
unfolding keep_high bit_of
keeps-clear k x clear =
    omega (arith, split x (8 - k), low_clear x (8 - k) (λ j h. ap (λ (n : ℕ). x / 2 ^ n % 2) (omega arith) ∙ clear (7 - j) (omega arith) (omega arith)))

module _ (L : ℕ) (body : List ℕ) where
  -- the body is its own clearing past L
  past-cleared : NoBitPast L body → body ≡ cleared_past L body
  unfolding M bit_at kept_by_clean
  past-cleared clear =
      is-each (λ j. keep_high (kept_by_clean L j)) 0 body body refl
      (λ j h. ap (λ (n : ℕ). body ⟨ n ⟩) (sym (zero-add j)) ∙ keeps-clear (kept_by_clean L (0 + j)) (body ⟨ 0 + j ⟩) (at (0 + j)) ∙ ap (λ (n : ℕ). keep_high (kept_by_clean L (0 + j)) (body ⟨ n ⟩)) (zero-add j))
    where
      at : (j p : ℕ) → kept_by_clean L j ≤ p → p < 8 → bit_of 8 (body ⟨ j ⟩) p ≡ 0
      at j p k h = ap₂ (λ (n q : ℕ). bit_of 8 (body ⟨ n ⟩) q) (omega arith) (omega arith) ∙ clear (j * 8 + p) (omega arith)

  cleared-past : body ≡ cleared_past L body → NoBitPast L body
  unfolding M bit_at kept_by_clean bit_of
  cleared-past is i h =
      ⊎_elim
      (λ e. ap (λ (x : ℕ). bit_of 8 x (i % 8)) (get_or-eq_default body 0 (omega arith)) ∙ ap (λ (x : ℕ). x % 2) (zero-div (2 ^ (8 - suc (i % 8)))))
      (λ p. ap (λ (x : ℕ). bit_of 8 x (i % 8))
      (ap (λ (l : List ℕ). l ⟨ i / 8 ⟩) is ∙ get_or-each (λ j. keep_high (kept_by_clean L j)) 0 body (i / 8) (omega arith) ∙ ap (λ (j : ℕ). keep_high (kept_by_clean L j) (body ⟨ i / 8 ⟩)) (zero-add (i / 8)))
      ∙ lost-bit (kept_by_clean L (i / 8)) (body ⟨ i / 8 ⟩) (i % 8) (omega arith) (omega arith))
      (eq-zero-or-pos (length body - i / 8))

  -- what the test asks of the last byte, every byte before it has
  last-cleared : ceil L 8 ≡ length body → keep_high (kept_by_clean L (length body - 1)) (body ⟨ length body - 1 ⟩) ≡ body ⟨ length body - 1 ⟩ → body ≡ cleared_past L body
  unfolding kept_by_clean
  last-cleared e last =
      is-each (λ j. keep_high (kept_by_clean L j)) 0 body body refl
      (λ j h. ⊎_elim (λ z. at_last j (omega arith)) (λ p. before j (omega arith)) (eq-zero-or-pos (length body - 1 - j)) ∙ ap (λ (n : ℕ). keep_high (kept_by_clean L n) (body ⟨ j ⟩)) (sym (zero-add j)))
    where
      at_last : (j : ℕ) → j ≡ length body - 1 → body ⟨ j ⟩ ≡ keep_high (kept_by_clean L j) (body ⟨ j ⟩)
      at_last j is = rw is (sym last)

      before : (j : ℕ) → j < length body - 1 → body ⟨ j ⟩ ≡ keep_high (kept_by_clean L j) (body ⟨ j ⟩)
      before j h = let all : kept_by_clean L j ≡ 8 = omega arith in sym (ap (λ (k : ℕ). keep_high k (body ⟨ j ⟩)) all ∙ keep_all (body ⟨ j ⟩))

  cleared-last : body ≡ cleared_past L body → keep_high (kept_by_clean L (length body - 1)) (body ⟨ length body - 1 ⟩) ≡ body ⟨ length body - 1 ⟩
  cleared-last is =
      ⊎_elim
      (λ z. let none : body ⟨ length body - 1 ⟩ ≡ 0 = get_or-eq_default body 0 (omega arith) in
      omega (arith, none, keep-le (kept_by_clean L (length body - 1)) (body ⟨ length body - 1 ⟩)))
      (λ p. sym
      (ap (λ (l : List ℕ). l ⟨ length body - 1 ⟩) is
      ∙ get_or-each (λ j. keep_high (kept_by_clean L j)) 0 body (length body - 1) (omega arith)
      ∙ ap (λ (j : ℕ). keep_high (kept_by_clean L j) (body ⟨ length body - 1 ⟩)) (zero-add (length body - 1))))
      (eq-zero-or-pos (length body))

  pub fits-exactly : (body_fits L body ≡ true) ↔ ((ceil L 8 ≡ length body) × NoBitPast L body)
  unfolding body_fits
  fits-exactly = (
    λ e. let long = eqb-true (ceil L 8) (length body) (and_left (eqb (ceil L 8) (length body)) _ e) in
        (long, cleared-past (last-cleared long (eqb-true _ (body ⟨ length body - 1 ⟩) (and_right (eqb (ceil L 8) (length body)) _ e)))),
    λ h. rw (eq-eqb (ceil L 8) (length body) h.0, eq-eqb _ (body ⟨ length body - 1 ⟩) (cleared-last (past-cleared h.1))) refl,
  )

-- a masked body is as long, has no bit past L, and masked again it is plain
module _ (CK : List ℕ) (f : Fields) (body : List ℕ) where
  pub masked-length : length (masked_body CK f body) ≡ length body
  unfolding masked_body
  masked-length = length-masked (kept_by_clean f.L) _ body

  pub masked-clear : NoBitPast f.L (masked_body CK f body)
  unfolding masked_body
  masked-clear = zero-clean _ f.L body

  pub masked-twice : NoBitPast f.L body → masked_body CK f (masked_body CK f body) ≡ body
  unfolding masked_body
  masked-twice clear = twice-clean _ f.L body ∙ sym (past-cleared f.L body clear)
