-- `extra` meets its contract: the low half of the key pair where no bit is left over, and else the next word of the run.
use lib.ListN.{get_or}
use mathlib.Core.List.{List}
use mathlib.Core.Path.{refl, ap, ◌∙◌}
use native.Mathlib.Omega.{arith}
use Prim.Native.Nat.{ℕ}
use borrow.Author.Tests.{eq-eqb, ne_eqb}
use Rattle.standard.specs.Generator.{word, word_at}
use Rattle.standard.proofs.Generator.{after_none}
use Rattle.standard.proofs.Listed.{get_or-listed}
use Rattle.mac_registers.specs.Stored.{key_of, tagging_of}
use Rattle.mac_registers.specs.Tagging.{extra_word}
use Rattle.mac_tagging.proofs.closing.extra.Goals as goal

pub returns-then-n-eq0 : goal.returns-then-n-eq0
unfolding extra_word tagging_of key_of
returns-then-n-eq0 c =
    rw (eq-eqb c.args.n 0 c.if-n-eq0.true, c.requires.width_is) refl

pub draw-requires-clause-start_fits : goal.draw-requires-clause-start_fits
unfolding tagging_of
draw-requires-clause-start_fits c = c.requires.opened.holds.good.sound.start

pub returns : goal.returns
unfolding extra_word tagging_of word_at
returns c =
    rw (ne_eqb c.args.n 0 c.if-n-eq0.false)
    (ap (λ (l : List ℕ). get_or l 0 0) c.draw.ensures.words ∙ get_or-listed _ 0 1 0 (omega arith) ∙ ap word (after_none _))
