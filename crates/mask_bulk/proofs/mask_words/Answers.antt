-- `mask_words`: at place i, a multiple of 4, the run stands for the state after i/4 words and the mask is left to do from i on; a lent part does its places.
use lib.ListN.{drop, length, length-drop, length-take, take}
use mathlib.Core.List.{List, ◌++◌}
use mathlib.Core.Path.{◌≡◌, refl, sym, ap, ◌∙◌, subst}
use native.Mathlib.Omega.{arith}
use Prim.Native.Nat.{ℕ, ◌+◌, ◌*◌, ◌-◌, ◌/◌}
use Rattle.standard.proofs.Each.{from_end, from-start}
use Rattle.standard.proofs.Generator.{after_none, word_at-after}
use Rattle.standard.specs.Confidentiality.{masked}
use Rattle.standard.specs.Generator.{State, after, word_at}
use Rattle.zuc_bulk.proofs.Filling.{turn_on}
use Rattle.zuc_turn.specs.InnerRun.{Standing, state_at}
use Rattle.mask_bulk.proofs.Words.{turn-masked}
use Rattle.mask_bulk.proofs.mask_words.Goals as goal

pub loop-i-init : goal.loop-i-init
loop-i-init c =
    let pre = c.requires in
    (omega arith, refl, refl, record { laid = pre.laid; low = pre.halves; state = sym (after_none _) }, refl)

pub loop-i-preserved : goal.loop-i-preserved
loop-i-preserved c =
    let l = c.loop-i in
    let i : ℕ = l.i in
    let e : ℕ = i + c.min.result in
    let f = c.mask_block-h.ensures in
    let far : i / 4 + length (take (e - i) (drop i l.part)) / 4 ≡ (i + 256) / 4 = simp (length-take, length-drop) (omega arith) in (
      omega arith,
      omega arith,
      omega arith,
      turn_on _ (i / 4) _ ((i + 256) / 4) l.invariant.3 f.state far,
      turn-masked _ (i / 4) i e (omega arith) _ l.part _ (i + 256) (omega arith) (omega arith)
          (λ n h. ap (λ (τ : State). word_at τ n) l.invariant.3.state ∙ word_at-after (i / 4) n _) f.bytes
          ∙ l.invariant.4,
    )

-- the last block
pub returns-2 : goal.returns-2
returns-2 c =
    let l = c.loop-i in
    let i : ℕ = l.i in
    let σ : State = state_at c.args.run.now.cells 0 c.args.start in
    let n : ℕ = length l.part in
    let e : ℕ = i + c.min.result in
    let f = c.mask_block-h.ensures in
    let far : i / 4 + length (take (e - i) (drop i l.part)) / 4 ≡ length c.args.part.now / 4 = simp (length-take, length-drop) (omega arith) in
    record {
      state = turn_on σ (i / 4) _ _ l.invariant.3 f.state far;
      bytes = sym (from_end (masked (word_at σ)) n _ (omega arith))
          ∙ turn-masked _ (i / 4) i e (omega arith) _ l.part _ n (omega arith) (omega arith)
          (λ n h. ap (λ (τ : State). word_at τ n) l.invariant.3.state ∙ word_at-after (i / 4) n _) f.bytes
          ∙ l.invariant.4
          ∙ from-start _ _;
    }

pub returns : goal.returns
returns c =
    let l = c.loop-i in
    let σ : State = state_at c.args.run.now.cells 0 c.args.start in
    let all : l.i ≡ length c.args.part.now = omega arith in
    record {
      state = subst (λ (n : ℕ). Standing l.run.cells l.run.pairs 0 l.h (after (n / 4) σ)) all l.invariant.3;
      bytes = sym (from_end _ l.i l.part (omega arith)) ∙ l.invariant.4 ∙ from-start _ _;
    }
