-- Digits from a place on: one more is a digit or none, and adds to ten times the value before it; by what a list is from that place on.
use mathlib.Core.Bool.{Bool, true, ◌&&◌}
use mathlib.Core.List.{List, [], ◌∷◌}
use mathlib.Core.Path.{◌≡◌, ap, refl}
use Prim.Native.Nat.{ℕ, ◌+◌, ◌-◌, ◌*◌, ◌<◌, ◌≤◌}
use native.Mathlib.Numerals.{add-one}
use native.Mathlib.Omega.{arith}
use borrow.Author.Tests.{leb-true}
use lib.Dec.{leb}
use lib.ListN.{drop, get_or, length}
use lib.Seq.{drop-cons}
use Rattle.std.specs.List.{list_all}
use Rattle.standard.proofs.Table.{and_left, and_right}
use Rattle.frame_files.specs.Decimal.{all_digits, value_after}

-- the library's name for the test of each, and the definition's
pub all_digits-is : (l : List ℕ) → list_all (λ c. leb 48 c && leb c 57) l ≡ all_digits l
unfolding all_digits
all_digits-is [] = refl
all_digits-is (c ∷ l) = ap (λ (b : Bool). (leb 48 c && leb c 57) && b) (all_digits-is l)

pub value_grows : (v : ℕ) (digits : List ℕ) → v ≤ value_after v digits
unfolding value_after
value_grows v [] = omega arith
value_grows v (c ∷ rest) = omega (arith, value_grows (v * 10 + (c - 48)) rest)

module _ (text : List ℕ) (i : ℕ) (h : i < length text) where
  from-here : drop i text ≡ get_or text i 0 ∷ drop (i + 1) text
  from-here = rw (add-one, drop-cons text i 0)

  pub digit-here : all_digits (drop i text) ≡ true → (48 ≤ get_or text i 0) × (get_or text i 0 ≤ 57) × (all_digits (drop (i + 1) text) ≡ true)
  unfolding all_digits
  digit-here e =
      let all : (leb 48 (get_or text i 0) && leb (get_or text i 0) 57) && all_digits (drop (i + 1) text) ≡ true = rw from-here at e in
      let one = and_left (leb 48 (get_or text i 0) && leb (get_or text i 0) 57) (all_digits (drop (i + 1) text)) all in (
        leb-true 48 (get_or text i 0) (and_left (leb 48 (get_or text i 0)) (leb (get_or text i 0) 57) one),
        leb-true (get_or text i 0) 57 (and_right (leb 48 (get_or text i 0)) (leb (get_or text i 0) 57) one),
        and_right (leb 48 (get_or text i 0) && leb (get_or text i 0) 57) (all_digits (drop (i + 1) text)) all,
      )

  pub value_on : (v : ℕ) → value_after v (drop i text) ≡ value_after (v * 10 + (get_or text i 0 - 48)) (drop (i + 1) text)
  unfolding value_after
  value_on v = rw from-here
