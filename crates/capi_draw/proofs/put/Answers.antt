-- `put` leaves the array of the state after a draw, by the law of one place written over.
use lib.ListN.{length-set}
use native.Mathlib.Omega.{arith}
use Rattle.capi_draw.proofs.Putting.{put-array}
use Rattle.capi_draw.proofs.put.Goals as goal

pub bounds-a-19-2 : goal.bounds-a-19-2
bounds-a-19-2 c =
    simp length-set (omega arith)

pub returns : goal.returns
returns c =
    let a = c.args in
    put-array a.a.now a.i a.t c.requires.0 c.requires.1
