-- `mask_on`: the whole words, and then at most three bytes with a word of their own.
use borrow.Author.Rules.{rules}
use lib.ListN.{drop, length, length-append, length-drop, length-take, take}
use mathlib.Core.List.{List, ◌++◌}
use mathlib.Core.Path.{◌≡◌, sym, ap, ◌∙◌, subst}
use native.Mathlib.Nat.{zero-add}
use native.Mathlib.Omega.{arith}
use Prim.Native.Nat.{ℕ, ◌+◌, ◌*◌, ◌-◌, ◌/◌, ◌≤◌}
use Rattle.standard.proofs.Each.{done_from, from_end, from-lent, from-start}
use Rattle.standard.proofs.Generator.{word_after}
use Rattle.standard.specs.Confidentiality.{masked}
use Rattle.standard.specs.Notation.{each_from}
use Rattle.standard.specs.Generator.{State, after, word, word_at}
use Rattle.zuc_bulk.proofs.Filling.{turn_on}
use Rattle.zuc_turn.specs.InnerRun.{Standing, state_at}
use Rattle.mask_bulk.proofs.Words.{alone, turn-masked}
use Rattle.mask_bulk.proofs.mask_on.Goals as goal

-- what is left to do behind the whole words is the mask from there on
done : (f : ℕ → ℕ → ℕ) (n : ℕ) (l ys : List ℕ) → n ≤ length l → ys ≡ each_from f 0 (take n l) → done_from f n (ys ++ drop n l) ≡ each_from f 0 l
done f n l ys h e = ap (λ (k : ℕ). done_from f k (ys ++ drop n l)) (sym (zero-add n)) ∙ from-lent f 0 n l ys (omega (arith, zero-add n)) e ∙ from-start f l

pub returns-then-whole-drawn : goal.returns-then-whole-drawn
returns-then-whole-drawn c =
    let l = c.args.buf.now in
    let n : ℕ = length l / 4 * 4 in
    let f = c.mask_words-h.ensures in
    let σ : State = state_at c.args.run.now.cells 0 c.args.start in
    let all : length (take n l) / 4 ≡ c.args.drawn = simp length-take (omega (arith, c.if-whole-drawn.true)) in
    record {
      state = subst (λ (k : ℕ). Standing c.mask_words-h.new.run.cells c.mask_words-h.new.run.pairs 0 c.mask_words-h.result (after k σ)) all f.state;
      bytes = sym (from_end (masked (word_at σ)) n _ (omega arith)) ∙ done _ n l _ (omega arith) f.bytes;
    }

-- past the last word: the state that the run began with, and the one that it stands for once it is rested
pub returns : goal.returns
unfolding after
returns c =
    let l = c.args.buf.now in
    let i : ℕ = length l / 4 * 4 in
    let first : List ℕ = c.mask_words-h.new.part ++ drop i l in
    let n : ℕ = length first in
    let long : length c.mask_words-h.new.part ≡ length (take i l) = search rules in
    let same : n ≡ length l = simp (length-append, length-drop, long, length-take) (omega arith) in
    let f = c.mask_words-h.ensures in
    let begun : State = state_at c.args.run.now.cells 0 c.args.start in
    let words = c.requires.buf_fits in
    let whole : length (take i l) / 4 ≡ i / 4 = simp length-take (omega arith) in
    let standing = subst (λ (k : ℕ). Standing c.mask_words-h.new.run.cells c.mask_words-h.new.run.pairs 0 c.mask_words-h.result (after k begun)) whole f.state in
    let full : length c.xor_rest.new.part ≡ n - i = search rules in
    let drawn = c.turn-last.ensures.word ∙ ap word standing.state ∙ word_after (i / 4) begun in
    record {
      state = turn_on begun (i / 4) 1 c.args.drawn standing (c.rest.ensures _ _ c.turn-last.ensures.standing) (omega (arith, words.0, words.1));
      bytes = sym (from_end (masked (word_at begun)) n _ (omega (arith, full)))
          ∙ turn-masked begun (i / 4) i n (omega arith) _ first _ n (omega (arith, same)) (omega arith) (alone begun (i / 4) i n (omega arith) drawn (omega (arith, same))) c.xor_rest.ensures
          ∙ done _ i l _ (omega arith) f.bytes;
    }
