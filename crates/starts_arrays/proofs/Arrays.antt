-- The same of C's arrays: the array of a state that stands behind a start is read as that state, so two arrays that are equal are of one start.
use mathlib.Core.List.{List}
use mathlib.Core.Path.{◌≡◌, sym, ap, ◌∙◌, subst}
use Prim.Native.Nat.{ℕ}
use Rattle.standard.specs.States.{Counted, Held}
use Rattle.zuc_apart.specs.Given.{Given}
use Rattle.capi_arrays.specs.Arrays.{array_of, held_in}
use Rattle.capi_arrays.proofs.Packing.{array-held}
use Rattle.starts.specs.Stands.{Stands}
use Rattle.starts.proofs.Theorems.{full, no-two-alike}

pub array-reads : {a : Given} {g : Counted Held} → Stands a g → held_in (array_of g) ≡ g
array-reads {g = g} s = array-held g (full s)

pub array-stands : {a : Given} {g : Counted Held} → Stands a g → {array : List ℕ} → array ≡ array_of g → Stands a (held_in array)
array-stands {a} s e = subst (Stands a) (sym (ap held_in e ∙ array-reads s)) s

pub arrays-apart : {a b : Given} {g k : Counted Held} → Stands a g → Stands b k → array_of g ≡ array_of k → a ≡ b
arrays-apart s t e =
    let same = sym (array-reads s) ∙ ap held_in e ∙ array-reads t in
    no-two-alike s t (record { count = ap (λ (x : Counted Held). x.count) same; meaning = ap (λ (x : Counted Held). x.held.meaning) same })
