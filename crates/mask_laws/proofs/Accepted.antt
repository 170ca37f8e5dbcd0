-- When a mask is accepted, and what it then is: by its tests, whatever the mode and the words.
use mathlib.Core.Bool.{true}
use mathlib.Core.List.{List, [], ◌∷◌}
use mathlib.Core.Logic.{◌↔◌}
use mathlib.Core.Path.{◌≡◌, refl, ap, sym, ◌∙◌}
use Prim.Native.Nat.{ℕ, ◌+◌, ◌*◌, ◌≤◌}
use borrow.Author.Tests.{le-leb, leb-true}
use lib.Dec.{lit<}
use lib.ListN.{length}
use Rattle.standard.specs.Refusals.{Test, accepted, bits_test, limit_test, state_test}
use Rattle.standard.specs.States.{Counted, Held, generator_formed, limit}
use Rattle.standard.proofs.Tested.{accepted-is, accepted-passed, passed}
use Rattle.mask.specs.Outcome.{Outcome, drawn, mask_tested, refused}

module _ (g : Counted Held) (words L : ℕ) (buffer masked : List ℕ) where
  tests : List Test
  tests = state_test (generator_formed g) ∷ bits_test L buffer ∷ limit_test g.count words ∷ []

  -- what a mask asks for: a well-formed state, a bit length that fits, and words enough
  abbrev pub Passes : Type 0
  Passes = (generator_formed g ≡ true) × (L ≤ length buffer * 8) × (g.count + words ≤ limit)

  pub mask-exactly : ((mask_tested g words L buffer masked).number ≡ accepted) ↔ Passes
  unfolding mask_tested tests
  mask-exactly = (
    λ ok.
        let all = accepted-passed (λ (x : Outcome). x.number) (refused g buffer) (λ n. refl) (drawn words g masked) tests (lit< tt, (lit< tt, (lit< tt, tt))) ok in
        (all.0, leb-true L (length buffer * 8) all.1.0, leb-true (g.count + words) limit all.1.1.0),
    λ p.
        ap (λ (x : Outcome). x.number)
        (passed tests (refused g buffer) (drawn words g masked) (p.0, (le-leb L (length buffer * 8) p.1, (le-leb (g.count + words) limit p.2, tt)))),
  )

  pub mask_is : (mask_tested g words L buffer masked).number ≡ accepted → mask_tested g words L buffer masked ≡ drawn words g masked
  unfolding mask_tested tests
  mask_is ok =
      accepted-is (λ (x : Outcome). x.number) (refused g buffer) (λ n. refl) (drawn words g masked) tests (lit< tt, (lit< tt, (lit< tt, tt))) ok

  -- the same of what is told of a call
  module _ (o : Outcome) (told : o ≡ mask_tested g words L buffer masked) (ok : o.number ≡ accepted) where
    done : (mask_tested g words L buffer masked).number ≡ accepted
    done = ap (λ (x : Outcome). x.number) (sym told) ∙ ok

    pub told-passes : Passes
    told-passes = mask-exactly.0 done

    pub told_is : o ≡ drawn words g masked
    told_is = told ∙ mask_is done
