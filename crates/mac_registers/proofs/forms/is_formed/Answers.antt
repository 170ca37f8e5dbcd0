-- `registers::forms::is_formed`: the answer is the definition's, and the struct's types keep what else a tag in the making asks.
use Rattle.std.proofs.Common.{◌≡◌, ◌∙◌, sym, rules}
use Rattle.zuc.proofs.Turning.{length_from}
use Rattle.mac_registers.specs.Stored.{stored_of}
use Rattle.standard.specs.States.{formed}
use Rattle.mac_registers.proofs.Packed.{Typed, formed-held}
use Rattle.mac_registers.proofs.forms.is_formed.Goals as goal

pub returns-then-s-clause-holds : goal.returns-then-s-clause-holds
unfolding formed
returns-then-s-clause-holds c =
    let s = stored_of c.args.s in
    let typed : Typed s = record {
      cells = length_from c.args.s.g.start c.args.s.g.s ∙ search rules;
      keys = search rules;
      tags = search rules;
      rems = search rules;
      key-small = λ i. search rules;
      tag_small = λ i. search rules;
    } in
    let same : c.zero_from.result ≡ formed s = search rules in
    λ t. formed-held s typed (sym same ∙ t)
