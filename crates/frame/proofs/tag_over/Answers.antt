-- `tag_over`: EIA3's strict one-shot refuses nothing here, and its tag is the standard's.
use mathlib.Core.Path.{ap, ◌∙◌}
use Prim.Native.Nat.{ℕ}
use Rattle.mac.specs.Calls.{Once}
use Rattle.frame.specs.Outcome.{fields_of}
use Rattle.frame.proofs.Sealed.{tag_is}
use Rattle.frame.proofs.tag_over.Goals as goal

pub returns : goal.returns
returns c =
    c.unwrap_or.ensures ∙ ap (λ (x : Once ℕ). x.tag) (c.compute_strict.ensures ∙ tag_is c.args.ik.now (fields_of c.args.f) c.args.body.now c.requires)
