-- When a body fits its bit length: the bytes are as many as the bits reach into, and the last one has no bit past them; by cases of the tests.
use mathlib.Core.Bool.{true, false}
use mathlib.Core.List.{List}
use mathlib.Core.Logic.{⊎_elim}
use mathlib.Core.Path.{◌≡◌, refl, ap, ◌∙◌}
use Prim.Native.Nat.{ℕ, ◌-◌, ◌%◌}
use native.Mathlib.Nat.{eq-zero-or-pos}
use native.Mathlib.Omega.{arith}
use lib.Dec.{eqb}
use lib.ListN.{drop, length, take, get_or-eq_default}
use borrow.Author.Tests.{eq-eqb, eqb-true, ne_eqb}
use Rattle.standard.specs.Confidentiality.{keep_high, kept_by_clean}
use Rattle.standard.specs.Frame.{body_fits, body_in}
use Rattle.standard.specs.Notation.{◌⟨◌⟩, ceil}
use Rattle.standard.proofs.Kept.{keep_all, keep-le}
use Rattle.standard.proofs.Table.{and_left}

-- the part of a frame from byte 13 to the last four is its body
pub lent-body : (frame : List ℕ) → take (length frame - 4 - 13) (drop 13 frame) ≡ body_in frame
lent-body frame = let same : length frame - 4 - 13 ≡ length frame - 17 = omega arith in ap (λ (k : ℕ). take k (drop 13 frame)) same

module _ (L : ℕ) (body : List ℕ) where
  pub bytes-differ : (ceil L 8 ≡ length body → ⊥) → false ≡ body_fits L body
  unfolding body_fits
  bytes-differ n = rw (ne_eqb (ceil L 8) (length body) n) refl

  abbrev last : ℕ
  last = body ⟨ length body - 1 ⟩

  -- where the last byte is full, or there is none, no bit is past
  full-last : ceil L 8 ≡ length body → L % 8 ≡ 0 → keep_high (kept_by_clean L (length body - 1)) last ≡ last
  unfolding kept_by_clean
  full-last e m =
      ⊎_elim
      (λ z. let none : last ≡ 0 = get_or-eq_default body 0 (omega arith) in omega (arith, none, keep-le (kept_by_clean L (length body - 1)) last))
      (λ p. let all : kept_by_clean L (length body - 1) ≡ 8 = omega arith in ap (λ (k : ℕ). keep_high k last) all ∙ keep_all last)
      (eq-zero-or-pos (length body))

  pub full-bytes : ceil L 8 ≡ length body → L % 8 ≡ 0 → true ≡ body_fits L body
  unfolding body_fits
  full-bytes e m = rw (eq-eqb (ceil L 8) (length body) e, eq-eqb _ last (full-last e m)) refl

  pub last-byte : (k : ℕ) → ceil L 8 ≡ length body → (L % 8 ≡ 0 → ⊥) → k ≡ keep_high (L % 8) last → eqb k last ≡ body_fits L body
  unfolding body_fits kept_by_clean
  last-byte k e m is =
      let part : L % 8 ≡ kept_by_clean L (length body - 1) = omega (arith, m) in
      rw (eq-eqb (ceil L 8) (length body) e) (ap (λ (x : ℕ). eqb x last) (is ∙ ap (λ (x : ℕ). keep_high x last) part))

  pub fits-bytes : body_fits L body ≡ true → ceil L 8 ≡ length body
  unfolding body_fits
  fits-bytes e = eqb-true (ceil L 8) (length body) (and_left (eqb (ceil L 8) (length body)) _ e)
