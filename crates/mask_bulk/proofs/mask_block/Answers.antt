-- `mask_block` draws a word a turn, as bulk's `block`, and masks its four bytes: after j turns the mask is left to do from byte 4j on.
use lib.ListN.{length}
use mathlib.Core.Path.{◌≡◌, refl, ◌∙◌, subst, sym}
use native.Mathlib.Omega.{arith}
use Prim.Native.Nat.{ℕ, ◌+◌, ◌*◌, ◌/◌, ◌<◌}
use Rattle.standard.proofs.Each.{from_end, from-start}
use Rattle.standard.proofs.Generator.{after_none}
use Rattle.standard.specs.Confidentiality.{masked}
use Rattle.standard.specs.Generator.{State, after, word_at}
use Rattle.zuc_turn.proofs.Runs.{turn-standing, turn-word}
use Rattle.zuc_turn.specs.InnerRun.{Standing, state_at}
use Rattle.mask_bulk.proofs.Words.{alone, turn-masked}
use Rattle.mask_bulk.proofs.mask_block.Goals as goal

pub loop-j-init : goal.loop-j-init
loop-j-init c =
    let pre = c.requires in
    (omega arith, omega (arith, pre.part_fits.0), refl, record { laid = pre.laid; low = pre.halves; state = sym (after_none _) }, refl)

pub loop-j-preserved : goal.loop-j-preserved
loop-j-preserved c =
    let l = c.loop-j in
    let σ : State = state_at c.args.run.now.cells 0 c.args.start in
    let j : ℕ = l.j in
    let turned = c.turn-t.ensures in
    let drawn = turn-word σ _ _ j _ l.invariant.3 _ _ _ turned in
    let same : length l.part ≡ length c.args.part.now = l.invariant.2 in
    let room : j < length c.args.part.now / 4 = c.loop-j-test.true in (
      omega arith,
      l.invariant.1,
      omega (arith, same, c.part-1.given),
      turn-standing σ _ _ j _ l.invariant.3 _ _ _ turned,
      turn-masked σ j (4 * j) (4 * j + 4) refl _ l.part _ (4 * (j + 1)) (omega arith) (omega (arith, same, room))
          (alone σ j (4 * j) (4 * j + 4) refl drawn (omega arith)) c.xor_word.ensures
          ∙ l.invariant.4,
    )

pub returns : goal.returns
returns c =
    let l = c.loop-j in
    let σ : State = state_at c.args.run.now.cells 0 c.args.start in
    let end : l.j ≡ length c.args.part.now / 4 = omega arith in
    let whole = c.requires.part_fits.1 in
    record { state = c.rest.ensures _ _ (subst (λ (k : ℕ). Standing l.run.cells l.run.pairs k l.h (after k σ)) end l.invariant.3); bytes = sym (from_end (masked (word_at σ)) (4 * l.j) l.part (omega (arith, whole))) ∙ l.invariant.4 ∙ from-start _ _ }
