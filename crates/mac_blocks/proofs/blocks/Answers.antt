-- `blocks::blocks` meets its contract: after each turn whole blocks more have been taken in.
use mathlib.Core.Logic.{⊎_elim}
use mathlib.Core.Path.{◌≡◌, sym, ap, ap₂, ◌∙◌, subst}
use Prim.Native.Nat.{ℕ, ◌+◌, ◌*◌, ◌-◌, ◌/◌, ◌%◌, ◌<◌, ◌≤◌, min}
use native.Mathlib.Nat.{add_assoc, add-mul}
use native.Mathlib.Omega.{arith}
use lib.ListN.{drop, length, length-drop, take}
use lib.Seq.{length-take-le}
use Rattle.mac_registers.specs.Inner.{Width}
use Rattle.mac_registers.specs.Stored.{packed, tagging_of}
use Rattle.mac_registers.specs.InnerOpen.{stored_at}
use Rattle.standard.specs.States.{Stored}
use Rattle.mac_registers.specs.Tagging.{updated}
use Rattle.mac_registers.proofs.Cutting.{updated-from}
use Rattle.mac_registers.proofs.Packed.{at_packed, good-updated}
use Rattle.mac_registers.proofs.AtRest.{opened-as}
use Rattle.mac_blocks.proofs.blocks.Goals as goal

-- where whole blocks end: so many from a place on, and no block more behind it
record Ends (width from long at : ℕ) : Type 0 where
  some : 0 < width
  less : (long - from) % width ≤ long
  count : ℕ
  is : at ≡ from + count * width
  within : at ≤ long
  all : long < at + width

ends-at : {w : ℕ} → Width w → (from long : ℕ) → from ≤ long → Ends w from long (long - (long - from) % w)
ends-at v from long h =
    ⊎_elim
    (λ e. rw e (record { some = omega arith; less = omega arith; count = (long - from) / 4; is = omega arith; within = omega arith; all = omega arith }))
    (λ o. ⊎_elim
    (λ e. rw e (record { some = omega arith; less = omega arith; count = (long - from) / 8; is = omega arith; within = omega arith; all = omega arith }))
    (λ e. rw e (record { some = omega arith; less = omega arith; count = (long - from) / 16; is = omega arith; within = omega arith; all = omega arith }))
    o) v

-- at most 256 bytes of whole blocks are whole blocks
abbrev Part : ℕ → Type 0
Part w = (from at i n k : ℕ) → at ≡ from + k * w → i ≡ from + n * w → i ≤ at → (q : ℕ) × (min (at - i) 256 ≡ q * w)

whole-part : {w : ℕ} → Width w → Part w
whole-part v =
    ⊎_elim
    (λ e. subst Part (sym e) (λ from at i n k p q h. (min (at - i) 256 / 4, omega arith)))
    (λ o. ⊎_elim
    (λ e. subst Part (sym e) (λ from at i n k p q h. (min (at - i) 256 / 8, omega arith)))
    (λ e. subst Part (sym e) (λ from at i n k p q h. (min (at - i) 256 / 16, omega arith)))
    o) v

pub nonzero_rem-at : goal.nonzero_rem-at
nonzero_rem-at c = (ends-at c.requires.opened.holds.good.a-width c.args.from (length c.args.message.now) c.requires.aligned.1).some

pub overflow_sub-at-2 : goal.overflow_sub-at-2
overflow_sub-at-2 c = (ends-at c.requires.opened.holds.good.a-width c.args.from (length c.args.message.now) c.requires.aligned.1).less

pub loop-i-init : goal.loop-i-init
unfolding updated
loop-i-init c =
    let opened = c.requires.opened in
    let ends = ends-at opened.holds.good.a-width c.args.from (length c.args.message.now) c.requires.aligned.1 in
    let none : c.args.from - c.args.from ≡ 0 = omega arith in
    (omega (arith, ends.is), c.requires.aligned.0, (0, omega arith), record { rest = opened.rest; stored = rw none (sym opened.holds.packs) })

pub slice_bounds-feed-end : goal.slice_bounds-feed-end
slice_bounds-feed-end c =
    omega (arith, (ends-at c.requires.opened.holds.good.a-width c.args.from (length c.args.message.now) c.requires.aligned.1).within)

pub feed-o-requires : goal.feed-o-requires
unfolding packed
feed-o-requires c =
    let a = c.args in
    let i = c.loop-i.i in
    let v = c.requires.opened.holds.good.a-width in
    let ends = ends-at v a.from (length a.message.now) c.requires.aligned.1 in
    let part = whole-part v a.from _ i _ _ ends.is c.loop-i.invariant.2.1 c.loop-i.invariant.0 in
    let same_width : c.loop-i.o.width ≡ a.start.width = ap (λ (x : Stored). x.width) c.loop-i.invariant.3.stored in
    let n : i + c.min.result - i ≡ c.min.result = omega arith in
    let long : length (take (i + c.min.result - i) (drop i a.message.now)) ≡ c.min.result =
    length-take-le _ (drop i a.message.now) (omega (arith, ends.within, length-drop i a.message.now)) ∙ n in
    record { opened = opened-as c.loop-i.invariant.3 (good-updated _ c.requires.opened.holds.good); blocks = (c.loop-i.invariant.1, omega (arith, long), (part.0, long ∙ c.min.ensures ∙ part.1 ∙ ap (λ (w : ℕ). part.0 * w) (sym same_width))) }

pub loop-i-preserved : goal.loop-i-preserved
loop-i-preserved c =
    let a = c.args in
    let w = a.start.width in
    let m = a.message.now in
    let i = c.loop-i.i in
    let v = c.requires.opened.holds.good.a-width in
    let ends = ends-at v a.from (length m) c.requires.aligned.1 in
    let part = whole-part v a.from _ i _ _ ends.is c.loop-i.invariant.2.1 c.loop-i.invariant.0 in
    let e : ℕ = i + c.min.result in
    let full : 256 ≡ c.min.result = omega arith in
    let bytes = take (e - i) (drop i m) in
    let n = c.loop-i.invariant.2.0 in
    let fed = c.feed-o.ensures in
    let from_le : a.from ≤ i = omega (arith, c.loop-i.invariant.2.1) in (
      omega arith,
      fed.1,
      (n + part.0, ap₂ ◌+◌ c.loop-i.invariant.2.1 (full ∙ c.min.ensures ∙ part.1) ∙ add_assoc a.from (n * w) (part.0 * w) ∙ ap (λ (x : ℕ). a.from + x) (sym (add-mul n part.0 w))),
      record {
        rest = fed.0.rest;
        stored =
            fed.0.stored
            ∙ at_packed (λ x y. packed x (updated (x * 8) y bytes)) c.loop-i.invariant.3.stored (good-updated (take (i - a.from) (drop a.from m)) c.requires.opened.holds.good)
            ∙ ap (packed w) (updated-from (w * 8) (tagging_of (stored_at a.run.now.cells a.start)) m a.from i e from_le (omega arith)
            ∙ ap (λ (k : ℕ). updated (w * 8) (tagging_of (stored_at a.run.now.cells a.start)) (take (i + k - a.from) (drop a.from m))) (sym full));
      },
    )

-- the last part
pub returns-2 : goal.returns-2
returns-2 c =
    let a = c.args in
    let w = a.start.width in
    let m = a.message.now in
    let i = c.loop-i.i in
    let ends = ends-at c.requires.opened.holds.good.a-width a.from (length m) c.requires.aligned.1 in
    let e : ℕ = i + c.min.result in
    let end : e ≡ length m - (length m - a.from) % w = omega arith in
    let bytes = take (e - i) (drop i m) in
    let fed = c.feed-o.ensures in
    let from_le : a.from ≤ i = omega (arith, c.loop-i.invariant.2.1) in (
      fed.0.rest,
      record {
        count = ends.count;
        at-is = ends.is;
        within = ends.within;
        all = ends.all;
        none = fed.1;
        held =
            fed.0.stored
            ∙ at_packed (λ x y. packed x (updated (x * 8) y bytes)) c.loop-i.invariant.3.stored (good-updated (take (i - a.from) (drop a.from m)) c.requires.opened.holds.good)
            ∙ ap (packed w) (updated-from (w * 8) (tagging_of (stored_at a.run.now.cells a.start)) m a.from i e from_le (omega arith)
            ∙ ap (λ (k : ℕ). updated (w * 8) (tagging_of (stored_at a.run.now.cells a.start)) (take (k - a.from) (drop a.from m))) end);
      },
    )

pub returns : goal.returns
returns c =
    let a = c.args in
    let w = a.start.width in
    let m = a.message.now in
    let inv = c.loop-i.invariant in
    let ends = ends-at c.requires.opened.holds.good.a-width a.from (length m) c.requires.aligned.1 in
    let end : c.loop-i.i ≡ length m - (length m - a.from) % w = omega arith in (
      inv.3.rest,
      record {
        count = ends.count;
        at-is = ends.is;
        within = ends.within;
        all = ends.all;
        none = inv.1;
        held = inv.3.stored ∙ ap (λ (k : ℕ). packed w (updated (w * 8) (tagging_of (stored_at a.run.now.cells a.start)) (take (k - a.from) (drop a.from m)))) end;
      },
    )
