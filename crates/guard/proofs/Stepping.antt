-- One link and a COUNT: the outcome of a step in each case of the code, by the standard's laws of links.
use borrow.Author.Tests.{le-leb, lt-leb}
use lib.Pow.{shl_exact}
use mathlib.Core.Bool.{true, false}
use mathlib.Core.Path.{◌≡◌, ap, refl, subst, sym, ◌∙◌}
use native.Mathlib.Nat.{one-mul, pow-succ'}
use native.Mathlib.Omega.{arith}
use Prim.Native.Nat.{ℕ, suc, ◌+◌, ◌-◌, ◌*◌, ◌%◌, ◌^◌, ◌<◌, ◌≤◌}
use Rattle.guard.specs.Inner.{standing_bits, step_outcome}
use Rattle.standard.proofs.Guard.{accepting-above, accepting-inside, accepting-lt, knows-above, standing-knows}
use Rattle.standard.specs.Guard.{Link, accepting, is_set, knows}
use Rattle.standard.specs.Refusals.{accepted, bad_age, bad_reuse, tested}

-- a power of two as the code makes it
pub two-shifted : (k : ℕ) → k < 63 → 2 * 2 ^ k % 2 ^ 64 ≡ 2 ^ suc k
two-shifted k h = shl_exact {a = 2} 2 k 64 (omega arith) (omega arith) ∙ sym (pow-succ' 2 k)

pub one_shifted : (k : ℕ) → k < 64 → 1 * 2 ^ k % 2 ^ 64 ≡ 2 ^ k
one_shifted k h = shl_exact {a = 1} 1 k 64 (omega arith) (omega arith) ∙ one-mul (2 ^ k)

module _ (link : Link) (COUNT : ℕ) where
  abbrev top : ℕ
  top = link.highest

  -- both tests pass
  passing : link.highest ≤ COUNT + 63 → knows link COUNT ≡ false → (after : Link) → accepting link COUNT ≡ after
      → record { number = accepted; link = after } ≡ step_outcome link COUNT
  unfolding step_outcome tested
  passing age new after is = rw (le-leb top (COUNT + 63) age, new) (ap (λ (l : Link). record { number = accepted; link = l }) (sym is))

  pub above-is : top < COUNT
      → record { number = accepted; link = record { highest = COUNT; accepted = standing_bits link * 2 ^ (COUNT - top) % 2 ^ 64 + 1 } } ≡ step_outcome link COUNT
  above-is h = passing (omega arith) (knows-above link COUNT h) _ (accepting-above link COUNT h)

  pub above-fits : top < COUNT → standing_bits link * 2 ^ (COUNT - top) % 2 ^ 64 + 1 < 2 ^ 64
  above-fits h = subst (λ (l : Link). l.accepted < 2 ^ 64) (accepting-above link COUNT h) (accepting-lt link COUNT)

  pub inside_is : COUNT ≤ top → top - COUNT < 64 → is_set (standing_bits link) (top - COUNT) ≡ false
      → record { number = accepted; link = record { highest = top; accepted = standing_bits link + 2 ^ (top - COUNT) } } ≡ step_outcome link COUNT
  inside_is h w new =
      let off : knows link COUNT ≡ false = sym (standing-knows link COUNT h w) ∙ new in
      passing (omega arith) off _ (accepting-inside link COUNT h w off)

  pub inside-fits : COUNT ≤ top → top - COUNT < 64 → is_set (standing_bits link) (top - COUNT) ≡ false → standing_bits link + 2 ^ (top - COUNT) < 2 ^ 64
  inside-fits h w new =
      subst (λ (l : Link). l.accepted < 2 ^ 64) (accepting-inside link COUNT h w (sym (standing-knows link COUNT h w) ∙ new)) (accepting-lt link COUNT)

  pub old_is : 63 < top - COUNT → record { number = bad_age; link = link } ≡ step_outcome link COUNT
  unfolding step_outcome tested
  old_is h = rw (lt-leb top (COUNT + 63) (omega arith)) refl

  pub again-is : COUNT ≤ top → top - COUNT < 64 → is_set (standing_bits link) (top - COUNT) ≡ true
      → record { number = bad_reuse; link = link } ≡ step_outcome link COUNT
  unfolding step_outcome tested
  again-is h w on =
      let known : knows link COUNT ≡ true = sym (standing-knows link COUNT h w) ∙ on in
      rw (le-leb top (COUNT + 63) (omega arith), known) refl
