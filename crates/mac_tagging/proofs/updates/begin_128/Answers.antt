-- `begin_128` meets its contract: the first two words are the key pair.
use mathlib.Core.Path.{◌≡◌, ap, ◌∙◌}
use native.Mathlib.Omega.{arith}
use lib.ListN.{length}
use lib.Seq.{take_all}
use Rattle.standard.proofs.Listed.{length-listed}
use Rattle.mac_registers.specs.InnerOpen.{held_on}
use Rattle.mac_tagging.proofs.Starts.{begun-128}
use Rattle.mac_tagging.proofs.updates.begin_128.Goals as goal

pub returns : goal.returns
returns c =
    let drew = c.draw-g.ensures in
    let two : length c.draw-g.new.out ≡ 2 =
    ap length drew.words ∙ length-listed _ 0 2 in
    record {
      rest = drew.rest;
      stored =
          begun-128 (held_on c.args.run.now.cells c.args.start) _ c.draw-g.new.out _ drew.held
          (take_all 2 _ (omega (arith, two)) ∙ drew.words)
          c.key_at-key.ensures;
    }
