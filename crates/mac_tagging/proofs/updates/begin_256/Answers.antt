-- `begin_256` meets its contract: of the first words a third is the tag, and the others are the key pair.
use mathlib.Core.List.{List, ◌++◌}
use mathlib.Core.Path.{◌≡◌, sym, ap, ◌∙◌}
use Prim.Native.Nat.{ℕ, ◌*◌, ◌/◌, ◌≤◌}
use native.Mathlib.Omega.{arith}
use lib.ListN.{drop, length, length-append, length-drop, replicate, take}
use lib.Seq.{length-take-le}
use Rattle.standard.specs.Generator.{word_at}
use Rattle.standard.specs.States.{Held, moved}
use Rattle.standard.proofs.Listed.{length-listed}
use Rattle.mac_registers.specs.Inner.{Width}
use Rattle.mac_registers.specs.InnerOpen.{held_on}
use Rattle.mac_registers.proofs.Fresh.{filled}
use Rattle.mac_registers.proofs.Packed.{width-most}
use Rattle.mac_tagging.proofs.Starts.{begun-256}
use Rattle.mac_tagging.proofs.updates.begin_256.Goals as goal

-- the array before the words
abbrev zeros : List ℕ
zeros = replicate 12 0

-- three words for each word of a tag fit in it, and what is taken of it for them is as long
most : (w : ℕ) → Width w → w / 4 * 3 ≤ 12
most w v = omega (arith, width-most v)

room : (w : ℕ) → Width w → length (take (w / 4 * 3) zeros) ≡ w / 4 * 3
room w v = length-take-le _ zeros (most w v)

-- and with these words drawn it is as long as before
long : (w : ℕ) → Width w → (ys : List ℕ) → length ys ≡ length (take (w / 4 * 3) zeros) → 12 ≡ length (ys ++ drop (w / 4 * 3) zeros)
long w v ys e = omega (arith, length-append ys (drop (w / 4 * 3) zeros), e, room w v, length-drop (w / 4 * 3) zeros, most w v)

pub slice_bounds-words-end : goal.slice_bounds-words-end
slice_bounds-words-end c = most c.args.width c.requires.width_fits

pub slice_bounds-draw-end : goal.slice_bounds-draw-end
slice_bounds-draw-end c = sym (room c.args.width c.requires.width_fits)

pub slice_bounds-fresh_at-end : goal.slice_bounds-fresh_at-end
slice_bounds-fresh_at-end c =
    long c.args.width c.requires.width_fits c.draw-g.new.out (ap length c.draw-g.ensures.words ∙ length-listed _ 0 _)

pub slice_bounds-key_at-end : goal.slice_bounds-key_at-end
slice_bounds-key_at-end c =
    long c.args.width c.requires.width_fits c.draw-g.new.out (ap length c.draw-g.ensures.words ∙ length-listed _ 0 _)

pub returns : goal.returns
returns c =
    let drew = c.draw-g.ensures in
    let n : ℕ = c.args.width / 4 * 3 in
    let σ : Held = held_on c.args.run.now.cells c.args.start in
    record {
      rest = drew.rest;
      stored =
          begun-256 σ _ _ _ c.requires.width_fits _ (drew.held ∙ ap (λ (k : ℕ). moved k σ) (room c.args.width c.requires.width_fits))
          (filled (word_at σ.meaning) n c.draw-g.new.out zeros (drop n zeros) drew.words (most c.args.width c.requires.width_fits))
          c.fresh_at-tag.ensures
          c.key_at-key.ensures;
    }
