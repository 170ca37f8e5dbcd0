-- Two fills in turn are accepted exactly where one over both buffers would be, and then give its words and leave its state; by words that add up.
use mathlib.Core.Bool.{true}
use mathlib.Core.List.{List, [], ◌∷◌, ◌++◌}
use mathlib.Core.Logic.{◌↔◌}
use mathlib.Core.Path.{◌≡◌, refl, sym, ap, ap₂, ◌∙◌, subst}
use Prim.Native.Nat.{ℕ, ◌+◌, ◌≤◌}
use native.Mathlib.Nat.{zero-add}
use native.Mathlib.Omega.{arith}
use borrow.Author.Tests.{le-leb, leb-true}
use lib.Dec.{lit<}
use lib.ListN.{length, length-append}
use Rattle.standard.specs.Generator.{word_at}
use Rattle.standard.specs.Notation.{listed}
use Rattle.standard.specs.Refusals.{Test, accepted, limit_test, state_test}
use Rattle.standard.specs.States.{Counted, Held, drawn_on, generator_formed, limit}
use Rattle.standard.proofs.Held.{drawn-more, generator_formed-ready, ready-generator_formed, ready_moved, word_at-moved}
use Rattle.standard.proofs.Listed.{listed-append, listed-on}
use Rattle.standard.proofs.Tested.{accepted-is, accepted-passed, passed}
use Rattle.keystream.specs.Draws.{FillOutcome, fill_outcome, refused_fill}

module _ (g : Counted Held) (ok : generator_formed g ≡ true) (buffer : List ℕ) where
  abbrev filled : FillOutcome
  filled = record { number = accepted; state = drawn_on (length buffer) g; buffer = listed (word_at g.held.meaning) 0 (length buffer) }

  abbrev tests : List Test
  tests = state_test (generator_formed g) ∷ limit_test g.count (length buffer) ∷ []

  -- of a well-formed state, a fill is accepted exactly if its words are within the limit
  pub fill-exactly : ((fill_outcome g buffer).number ≡ accepted) ↔ (g.count + length buffer ≤ limit)
  unfolding fill_outcome
  fill-exactly = (
    λ e. leb-true (g.count + length buffer) limit (accepted-passed (λ (x : FillOutcome). x.number) (refused_fill g buffer) (λ n. refl) filled tests (lit< tt, (lit< tt, tt)) e).1.0,
    λ l. ap (λ (x : FillOutcome). x.number) (passed tests (refused_fill g buffer) filled (ok, (le-leb (g.count + length buffer) limit l, tt))),
  )

  fill_is : (fill_outcome g buffer).number ≡ accepted → fill_outcome g buffer ≡ filled
  unfolding fill_outcome
  fill_is e = accepted-is (λ (x : FillOutcome). x.number) (refused_fill g buffer) (λ n. refl) filled tests (lit< tt, (lit< tt, tt)) e

module _ (g : Counted Held) (full : length g.held.meaning.cells ≡ 16) (ok : generator_formed g ≡ true) (a b : List ℕ) where
  abbrev first : FillOutcome
  first = fill_outcome g a

  abbrev second : FillOutcome
  second = fill_outcome first.state b

  abbrev whole : FillOutcome
  whole = fill_outcome g (a ++ b)

  long : length (a ++ b) ≡ length a + length b
  long = length-append a b

  -- the state in between is well formed
  formed-between : g.count + length a ≤ limit → generator_formed (drawn_on (length a) g) ≡ true
  formed-between l = ready-generator_formed (ready_moved (length a) g.held (generator_formed-ready g full ok).0) l

  pub two-fills : (whole.number ≡ accepted) ↔ ((first.number ≡ accepted) × (second.number ≡ accepted))
  two-fills = (together, apart)
    where
      together : whole.number ≡ accepted → (first.number ≡ accepted) × (second.number ≡ accepted)
      together e =
          let l = (fill-exactly g ok (a ++ b)).0 e in
          let fine = (fill-exactly g ok a).1 (omega (arith, long, l)) in
          let l-a = (fill-exactly g ok a).0 fine in (
            fine,
            subst (λ (k : Counted Held). (fill_outcome k b).number ≡ accepted) (sym (ap (λ (x : FillOutcome). x.state) (fill_is g ok a fine)))
                ((fill-exactly (drawn_on (length a) g) (formed-between l-a) b).1 (omega (arith, long, l))),
          )

      apart : (first.number ≡ accepted) × (second.number ≡ accepted) → whole.number ≡ accepted
      apart e =
          let l-a = (fill-exactly g ok a).0 e.0 in
          let l-b =
          (fill-exactly (drawn_on (length a) g) (formed-between l-a) b).0
          (subst (λ (k : Counted Held). (fill_outcome k b).number ≡ accepted) (ap (λ (x : FillOutcome). x.state) (fill_is g ok a e.0)) e.1) in
          (fill-exactly g ok (a ++ b)).1 (omega (arith, long, l-b))

  -- then they give its words, and leave its state
  pub two-fills-same : whole.number ≡ accepted → (second.state ≡ whole.state) × (first.buffer ++ second.buffer ≡ whole.buffer)
  two-fills-same e =
      let from : ℕ → ℕ = word_at g.held.meaning in
      let k : Counted Held = drawn_on (length a) g in
      let both = two-fills.0 e in
      let one = fill_is g ok a both.0 in
      let between = ap (λ (x : FillOutcome). x.state) one in
      let formed = formed-between ((fill-exactly g ok a).0 both.0) in
      let two = ap (λ (x : Counted Held). fill_outcome x b) between ∙ fill_is k formed b (subst (λ (x : Counted Held). (fill_outcome x b).number ≡ accepted) between both.1) in
      let all = fill_is g ok (a ++ b) e in
      let on =
      listed-on (word_at k.held.meaning) from 0 (0 + length a) (length b)
      (λ m. ap (word_at k.held.meaning) (zero-add m) ∙ word_at-moved (length a) m g.held ∙ ap (λ (i : ℕ). from (i + m)) (sym (zero-add (length a)))) in (
        ap (λ (x : FillOutcome). x.state) two ∙ drawn-more (length a) (length b) g ∙ sym (ap (λ (x : FillOutcome). x.state) all ∙ ap (λ (n : ℕ). drawn_on n g) long),
        ap₂ ◌++◌ (ap (λ (x : FillOutcome). x.buffer) one) (ap (λ (x : FillOutcome). x.buffer) two ∙ on)
            ∙ sym (ap (λ (x : FillOutcome). x.buffer) all ∙ ap (listed from 0) long ∙ listed-append from 0 (length a) (length b)),
      )
