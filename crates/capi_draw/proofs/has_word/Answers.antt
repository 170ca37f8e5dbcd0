-- `has_word`: a word is left exactly if the count is below the limit.
use mathlib.Core.Path.{refl}
use native.Mathlib.Numerals.{add-one}
use Rattle.capi_arrays.specs.Arrays.{held_in}
use Rattle.capi_draw.proofs.has_word.Goals as goal

pub returns : goal.returns
unfolding held_in
returns c = rw add-one refl
