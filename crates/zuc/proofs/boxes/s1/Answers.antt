-- `s1` is the standard's box, entry by entry.
use Rattle.std.proofs.Common.{refl}
use Rattle.standard.specs.Boxes.{S₁, S₁-table}
use Rattle.zuc.proofs.boxes.s1.Goals as goal

pub returns : goal.returns
unfolding S₁ S₁-table
returns c = refl
