-- `last_block` meets its contract: the closing byte stands at the first free place.
use mathlib.Core.Path.{◌≡◌, ap, ◌∙◌}
use lib.ListN.{drop, set}
use Rattle.mac_registers.specs.Inner.{last_byte}
use Rattle.mac_tagging.proofs.Last.{last-byte-none, last-byte-some}
use Rattle.mac_tagging.proofs.closing.last_block.Goals as goal
use Rattle.mac_tagging.proofs.closing.last_block.Goals.{then-r-ne0, else-r-ne0}

pub returns : goal.returns
returns c =
    let a = c.args in
    let last : c.if-r-ne0.last ≡ last_byte (drop a.q a.tail.now) a.r =
    elim c.if-r-ne0.branch [
      | then-r-ne0 w ↦ w.last-is ∙ w.marked-last.ensures ∙ last-byte-some a.tail.now a.q a.r w.if-r-ne0.true
      | else-r-ne0 w ↦ w.last-is ∙ last-byte-none (drop a.q a.tail.now) a.r w.if-r-ne0.false
    ] in
    ap (set a.waiting a.cnt) last
