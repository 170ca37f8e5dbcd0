-- `mask`: the tests decide the outcome; past them the mask is the mode's.
use mathlib.Core.Path.{◌∙◌, ap, refl, sym}
use Prim.Native.Nat.{ℕ, ◌+◌}
use borrow.Author.Tests.{leb-true}
use Rattle.standard.specs.Generator.{word_at}
use Rattle.standard.specs.Refusals.{accepted, state_test}
use Rattle.standard.specs.States.{generator_formed, moved}
use Rattle.zuc.specs.Reading.{counted_of, held_of}
use Rattle.mask.specs.Modes.{mode_mask, mode_words}
use Rattle.mask.specs.Outcome.{Outcome, drawn, mask_tested, refused}
use Rattle.mask.proofs.Outcomes.{Call, bad-bits, bad-first, done, mode-mask, too_many}
use mathlib.Core.Bool.{Bool}
use mathlib.Core.List.{List}
use Rattle.standard.specs.States.{Counted, Held}
use Rattle.mask.proofs.mask.Goals as goal

-- what a mask is told by: its tests in their order, and what each end hands back
abbrev call : (clean : Bool) (g : Counted Held) (bits : ℕ) (buf : List ℕ) → Call Outcome
call clean g bits buf =
    let n = mode_words clean bits buf in
    record {
      first = state_test (generator_formed g);
      L = bits;
      buffer = buf;
      count = g.count;
      words = n;
      refused = refused g buf;
      answer = drawn n g (mode_mask clean (word_at g.held.meaning) bits buf);
    }

pub returns-then-not-is_formed : goal.returns-then-not-is_formed
unfolding mask_tested
returns-then-not-is_formed c =
    bad-first (call c.args.clean (counted_of c.args.state.now) c.args.bits c.args.buf.now) (sym c.if-not-is_formed.ensures.formed)

pub returns-then-not-bits_fit : goal.returns-then-not-bits_fit
unfolding mask_tested
returns-then-not-bits_fit c =
    bad-bits (call c.args.clean (counted_of c.args.state.now) c.args.bits c.args.buf.now) (sym c.if-not-is_formed.ensures.formed) (sym c.if-not-bits_fit.ensures)

pub returns-then-not-has_left : goal.returns-then-not-has_left
unfolding mask_tested
returns-then-not-has_left c =
    too_many (call c.args.clean (counted_of c.args.state.now) c.args.bits c.args.buf.now) (sym c.if-not-is_formed.ensures.formed) (sym c.if-not-bits_fit.ensures)
    c.reach_of-reach.ensures.words (sym c.if-not-has_left.ensures)

pub mask_held-state-requires : goal.mask_held-state-requires
mask_held-state-requires c =
    record { ready = (c.if-not-is_formed.ensures.ready refl).0; enough = c.reach_of-reach.ensures.enough (leb-true _ _ (sym c.if-not-bits_fit.ensures)) }

pub returns : goal.returns
unfolding mask_tested
returns c =
    let a = c.args in
    let reaches = c.reach_of-reach.ensures in
    let m = c.mask_held-state.ensures in
    let state = m.state ∙ ap (λ (n : ℕ). moved n (held_of a.state.now.z)) reaches.words in
    let masked = m.bytes ∙ mode-mask a.clean _ a.bits a.buf.now reaches.end in
    done (call c.args.clean (counted_of c.args.state.now) c.args.bits c.args.buf.now) (sym c.if-not-is_formed.ensures.formed) (sym c.if-not-bits_fit.ensures)
    reaches.words (sym c.if-not-has_left.ensures)
    (λ i. record { number = accepted; count = reaches.words i; state = record { held = state i; count = a.state.now.count + reaches.words i }; buffer = masked i })
