-- An array that passes the test holds a state that is ready to draw from.
use lib.ListN.{length, take}
use lib.Seq.{length-take-le}
use mathlib.Core.Bool.{true}
use mathlib.Core.List.{List}
use mathlib.Core.Path.{◌≡◌, ◌∙◌}
use native.Mathlib.Omega.{arith}
use Prim.Native.Nat.{ℕ}
use Rattle.capi_arrays.specs.Arrays.{held_from, held_in}
use Rattle.standard.proofs.Held.{Ready, generator_formed-ready}
use Rattle.standard.specs.Notation.{◌⟨◌⟩}
use Rattle.standard.specs.States.{generator_formed}
use Rattle.zuc.proofs.Turning.{length_from}

pub ready-in : (a : List ℕ) → length a ≡ 20 → generator_formed (held_in a) ≡ true → Ready (held_in a).held
unfolding held_in held_from
ready-in a long e = (generator_formed-ready (held_in a) (length_from (a ⟨ 18 ⟩) (take 16 a) ∙ length-take-le 16 a (omega arith)) e).0
