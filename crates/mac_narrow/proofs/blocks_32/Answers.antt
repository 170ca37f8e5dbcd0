-- `blocks_32`: what is open is taken out, takes in its blocks, and is put back.
use lib.ListN.{drop, length, length-drop, length-take, take}
use mathlib.Core.List.{List}
use mathlib.Core.Path.{◌≡◌, refl, ◌∙◌, ap, sym}
use native.Mathlib.Omega.{arith}
use Prim.Native.Nat.{ℕ, ◌+◌, ◌*◌, ◌-◌, ◌/◌}
use Rattle.mac_registers.specs.InnerOpen.{stored_at}
use Rattle.mac_registers.specs.Stored.{packed, tag_of, tagging_of}
use Rattle.mac_registers.specs.Tagging.{Tagging, updated}
use Rattle.mac_narrow.proofs.Bulk.{put_back, taken_out}
use Rattle.mac_narrow.proofs.blocks_32.Goals as goal

pub overflow_cast-first : goal.overflow_cast-first
unfolding tagging_of tag_of
overflow_cast-first c = let pre = c.requires in record { fits = rw pre.width_is at pre.opened.holds.good.tag-lt }

pub parts_32-s-requires : goal.parts_32-s-requires
unfolding tagging_of
parts_32-s-requires c =
    let opened = c.requires.opened in
    record { laid = opened.rest.laid; halves = (opened.rest.low, opened.holds.good.sound.start); whole = simp (length-take, length-drop) (omega arith) }

pub returns : goal.returns
returns c =
    let a = c.args in
    let pre = c.requires in
    let t = c.parts_32-s in
    let width : a.start.width ≡ 4 = pre.width_is in
    let s = stored_at a.run.now.cells a.start in
    let n : ℕ = (length a.message.now - a.from) / 4 in
    let at : ℕ = a.from + n * 4 in
    let part : List ℕ = take (at - a.from) (drop a.from a.message.now) in (
      record { laid = t.ensures.laid; low = t.ensures.low; state = refl },
      record {
        count = n;
        at-is = ap (λ (w : ℕ). a.from + n * w) (sym width);
        within = omega (arith, pre.aligned.1);
        all = omega (arith, pre.aligned.1, width);
        none = refl;
        held =
            put_back _ t.result.key t.result.tag
            ∙ ap (packed 4) (t.ensures.tagging ∙ ap (λ (st : Tagging). updated 32 st part) (taken_out s width pre.aligned.0))
            ∙ ap (λ (w : ℕ). packed w (updated (w * 8) (tagging_of s) part)) (sym width);
      },
    )
