-- `put_start`: the array of the state, or zeros, which are the array of the zeros that a refused start is read as.
use mathlib.Core.Path.{◌≡◌, refl}
use Rattle.std.specs.Prelude.{replicate}
use Rattle.capi_arrays.specs.Arrays.{array_of, placed}
use Rattle.standard.specs.States.{from_start, zeros}
use Rattle.zuc.specs.Reading.{places_of}
use Rattle.capi.proofs.generators.put_start.Goals as goal

zero-array : replicate 20 0 ≡ array_of (from_start zeros)
unfolding array_of placed places_of zeros
zero-array = refl

pub returns-in-Ok : goal.returns-in-Ok
returns-in-Ok c = rw c.in-Ok.is (λ i. record { number = 0; array = c.array_of.ensures.is i })

pub returns-in-Err : goal.returns-in-Err
returns-in-Err c = rw c.in-Err.is (λ i. record { number = c.from.ensures i; array = zero-array i })
