-- `words_32` takes in a block a turn: after j turns the run and the halves stand for the state after j draws, and 4 j bytes are in the tag.
use lib.ListN.{length}
use lib.Seq.{take_all}
use mathlib.Core.Path.{◌≡◌, ◌∙◌, ap, subst, sym}
use native.Mathlib.Omega.{arith}
use Prim.Native.Nat.{ℕ, ◌+◌, ◌*◌, ◌/◌}
use Rattle.standard.proofs.Generator.{after_none}
use Rattle.standard.proofs.Held.{moved-is, moved_none}
use Rattle.standard.specs.Generator.{State, after}
use Rattle.standard.specs.States.{Held, moved}
use Rattle.standard.specs.Notation.{◌⊕◌}
use Rattle.zuc_turn.proofs.Runs.{turn-standing, turn-word}
use Rattle.zuc_turn.specs.InnerRun.{Standing, state_at}
use Rattle.mac_registers.specs.Tagging.{Tagging, updated}
use Rattle.mac_narrow.proofs.Bulk.{fed-part, idle}
use Rattle.mac_narrow.proofs.words_32.Invariants.{at}
use Rattle.mac_narrow.proofs.words_32.Goals as goal

pub loop-j-init : goal.loop-j-init
unfolding updated
loop-j-init c =
    let pre = c.requires in (
      omega arith,
      omega (arith, pre.part_fits),
      omega (arith, pre.part_fits),
      record { laid = pre.laid; low = pre.halves.0; state = sym (after_none _) },
      ap (λ (k : Held). idle k c.args.start.key c.args.start.tag) (moved_none _),
    )

pub overflow_step-j : goal.overflow_step-j
overflow_step-j c =
    omega (arith, c.loop-j-test.true, c.loop-j.invariant.1)

pub loop-j-preserved : goal.loop-j-preserved
loop-j-preserved c =
    let l = c.loop-j in
    let a = c.args in
    let σ : State = state_at a.run.now.cells 0 a.start.g.h in
    let k : Held = at a.run.now.cells a.start.g.h a.start in
    let st : Tagging = idle k a.start.key a.start.tag in
    let turned = c.turn-t.ensures in (
      omega (arith, c.loop-j-test.true),
      l.invariant.1,
      l.invariant.2,
      turn-standing σ _ _ l.j _ l.invariant.3 _ _ _ turned,
      ap (λ (x : ℕ). idle (moved (l.j + 1) k) x (l.tag ⊕ c.sum_32-tag.result)) c.joined-key.ensures
          ∙ fed-part k st a.part.now l.j l.key l.tag _ _ (omega (arith, c.loop-j-test.true, l.invariant.2)) l.invariant.4
          c.sum_32-tag.ensures
          (turn-word σ _ _ l.j _ l.invariant.3 _ _ _ turned),
    )

pub returns : goal.returns
returns c =
    let l = c.loop-j in
    let a = c.args in
    let σ : State = state_at a.run.now.cells 0 a.start.g.h in
    let k : Held = at a.run.now.cells a.start.g.h a.start in
    let n : ℕ = length a.part.now / 4 in
    let end : l.j ≡ n = omega (arith, l.invariant.0) in
    let standing = c.rest.ensures l.h (after n σ) (subst (λ (j : ℕ). Standing l.run.cells l.run.pairs j l.h (after j σ)) end l.invariant.3) in
    record {
      laid = standing.laid;
      low = standing.low;
      start = omega (arith, c.index_after.ensures);
      tagging =
          ap (λ (m : Held). idle m l.key l.tag) (moved-is n k c.requires.halves.1 standing.state c.index_after.ensures)
          ∙ ap (λ (m : ℕ). idle (moved m k) l.key l.tag) (sym end)
          ∙ l.invariant.4
          ∙ ap (updated 32 (idle k a.start.key a.start.tag)) (take_all (4 * l.j) a.part.now (omega (arith, end, l.invariant.2)));
    }
