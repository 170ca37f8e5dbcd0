-- `feed` meets its contract: the words that the generator draws next are those of the part's blocks.
use mathlib.Core.List.{List, ◌++◌}
use mathlib.Core.Path.{◌≡◌, refl, sym, ap, ◌∙◌}
use Prim.Native.Nat.{ℕ, ◌*◌, ◌/◌}
use native.Mathlib.Omega.{arith}
use lib.ListN.{drop, length, length-append, length-drop, replicate, take}
use lib.Seq.{length-take-le}
use Rattle.standard.specs.Generator.{word_at}
use Rattle.standard.specs.States.{Held, moved}
use Rattle.standard.proofs.Listed.{length-listed}
use Rattle.mac_registers.specs.Stored.{packed, tagging_of}
use Rattle.mac_registers.specs.InnerOpen.{held_on, stored_at}
use Rattle.mac_registers.specs.Tagging.{Tagging, updated}
use Rattle.mac_registers.proofs.Fresh.{filled}
use Rattle.mac_blocks.specs.InnerWhole.{empty_of}
use Rattle.mac_blocks.proofs.Ahead.{emptied-is}
use Rattle.mac_blocks.proofs.Moves.{emptied-held}
use Rattle.mac_blocks.proofs.feed.Goals as goal

-- the array before the words
abbrev zeros : List ℕ
zeros = replicate 64 0

pub slice_bounds-draw-end : goal.slice_bounds-draw-end
slice_bounds-draw-end c =
    let room : length (take (length c.args.part.now / 4) zeros) ≡ length c.args.part.now / 4 =
    length-take-le _ zeros (omega (arith, c.requires.blocks.1)) in
    sym room

pub slice_bounds-feed_all-end : goal.slice_bounds-feed_all-end
slice_bounds-feed_all-end c =
    let room : length (take (length c.args.part.now / 4) zeros) ≡ length c.args.part.now / 4 =
    length-take-le _ zeros (omega (arith, c.requires.blocks.1)) in
    let long : length (c.draw-g.new.out ++ drop (length c.args.part.now / 4) zeros) ≡ 64 =
    let n : ℕ = length c.args.part.now / 4 in
    let ys = c.draw-g.new.out in
    let drawn : length ys ≡ n = ap length c.draw-g.ensures.words ∙ length-listed _ 0 _ ∙ room in
    omega (arith, length-append ys (drop n zeros), drawn, length-drop n zeros, c.requires.blocks.1) in
    sym long

pub draw-g-requires : goal.draw-g-requires
unfolding tagging_of
draw-g-requires c = record { rest = c.requires.opened.rest; start_fits = c.requires.opened.holds.good.sound.start }

pub returns : goal.returns
unfolding tagging_of
returns c =
    let room : length (take (length c.args.part.now / 4) zeros) ≡ length c.args.part.now / 4 =
    length-take-le _ zeros (omega (arith, c.requires.blocks.1)) in
    let a = c.args in
    let o = a.o in
    let w : ℕ = o.width in
    let n : ℕ = length a.part.now / 4 in
    let σ : Held = held_on a.run.now.cells o.g in
    let holds = c.requires.opened.holds in
    let drew = c.draw-g.ensures in
    let f = c.feed_all in (
      record {
        rest = drew.rest;
        stored =
            ap (λ (τ : Held). empty_of w τ f.result.key f.result.tag)
            (drew.held ∙ ap (λ (k : ℕ). moved k σ) room)
            ∙ f.ensures σ (emptied-held (stored_at a.run.now.cells o) holds) (filled (word_at σ.meaning) n _ zeros _ drew.words (omega (arith, c.requires.blocks.1)))
            ∙ ap (λ (st : Tagging). packed w (updated (w * 8) st a.part.now)) (emptied-is (stored_at a.run.now.cells o) c.requires.blocks.0);
      },
      refl,
    )
