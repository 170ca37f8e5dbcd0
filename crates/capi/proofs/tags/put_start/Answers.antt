-- `put_start`: the array of the state, or zeros, which are the array of the zeros that a refused start is read as.
use mathlib.Core.Path.{◌≡◌, refl}
use Rattle.std.specs.Prelude.{replicate}
use Rattle.capi_arrays.specs.Arrays.{placed, regrouped, tag_array_of}
use Rattle.standard.specs.Bits.{bit_at, bit_of, window}
use Rattle.standard.specs.Notation.{listed}
use Rattle.standard.specs.States.{from_start, zero_stored, zeros}
use Rattle.zuc.specs.Reading.{places_of}
use Rattle.capi.proofs.tags.put_start.Goals as goal

zero-array : replicate 21 0 ≡ tag_array_of (from_start zero_stored)
unfolding tag_array_of placed places_of zero_stored zeros regrouped listed window bit_at bit_of
zero-array = refl

pub returns-in-Err : goal.returns-in-Err
returns-in-Err c = rw c.in-Err.is (λ i. record { number = c.from.ensures i; array = zero-array i })
