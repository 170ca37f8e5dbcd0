-- `s0` is the standard's box, entry by entry.
use Rattle.std.proofs.Common.{refl}
use Rattle.standard.specs.Boxes.{S₀, S₀-table}
use Rattle.zuc.proofs.boxes.s0.Goals as goal

pub returns : goal.returns
unfolding S₀ S₀-table
returns c = refl
