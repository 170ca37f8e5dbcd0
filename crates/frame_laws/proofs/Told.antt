-- What is told of a call with tests, whatever the call: when it is accepted, what it then is, what a refusal is, and when one test refuses. By the
-- laws of the tests, and by induction on those before the one that refuses.
use mathlib.Core.Bool.{Bool, true, false}
use mathlib.Core.List.{List, [], ◌∷◌, ◌++◌}
use mathlib.Core.Logic.{◌↔◌, ⊎_elim}
use mathlib.Core.Path.{◌≡◌, refl, sym, ap, ◌∙◌}
use Prim.Native.Nat.{ℕ}
use Rattle.std.specs.Prelude.{if◌then◌else◌}
use Rattle.standard.specs.Refusals.{Test, accepted, tested}
use Rattle.standard.proofs.Tested.{AllPass, Numbered, Without, accepted-exactly, accepted-is, decided, never-told}

-- tests one after the other
pub pass-both : (first rest : List Test) → AllPass first → AllPass rest → AllPass (first ++ rest)
pass-both [] rest all more = more
pass-both (test ∷ tests) rest all more = (all.0, pass-both tests rest all.1 more)

pub pass-first : (first rest : List Test) → AllPass (first ++ rest) → AllPass first
pass-first [] rest all = tt
pass-first (test ∷ tests) rest all = (all.0, pass-first tests rest all.1)

-- a call: the number in what is told of it, its tests, its refusals and its answer
pub record Call (A : Type 0) : Type 0 where
  pub number : A → ℕ
  pub tests : List Test
  pub refused : ℕ → A
  pub answer : A
  pub told : (n : ℕ) → number (refused n) ≡ n
  pub fine : number answer ≡ accepted
  pub numbered : Numbered tests

-- where a test stands that alone has its number: those before it and those after it
pub record Place (tests : List Test) (test : Test) : Type 0 where
  pub before : List Test
  pub after : List Test
  pub there : tests ≡ before ++ (test ∷ after)
  pub refusal : accepted ≡ test.number → ⊥
  pub none_before : Without test.number before
  pub none_after : Without test.number after

module _ {A : Type 0} (c : Call A) where
  abbrev by : List Test → A
  by tests = tested tests c.refused c.answer

  if-reached : (n m : ℕ) (b : Bool) (x : A) → (m ≡ n → ⊥) → c.number (if b then x else c.refused m) ≡ n → (b ≡ true) × (c.number x ≡ n)
  if-reached n m true x other e = (refl, e)
  if-reached n m false x other e = absurd (other (sym (c.told m) ∙ e))

  if-fails : (n : ℕ) (b : Bool) (x : A) → (c.number x ≡ n → ⊥) → c.number (if b then x else c.refused n) ≡ n → b ≡ false
  if-fails n true x other e = absurd (other e)
  if-fails n false x other e = refl

  module _ (test : Test) (after : List Test) where
    refuses : (before : List Test) → AllPass before → test.passes ≡ false → c.number (by (before ++ (test ∷ after))) ≡ test.number
    unfolding tested
    refuses [] all fails = rw fails (c.told test.number)
    refuses (first ∷ rest) all fails = rw all.0 (refuses rest all.1 fails)

    refused-by : (before : List Test) → (accepted ≡ test.number → ⊥) → Without test.number before → Without test.number after
        → c.number (by (before ++ (test ∷ after))) ≡ test.number → AllPass before × (test.passes ≡ false)
    unfolding tested
    refused-by [] other none none' e = (
      tt,
      if-fails test.number test.passes (by after)
          (never-told c.number c.refused c.told c.answer test.number (λ z. other (sym c.fine ∙ z)) after none') e,
    )
    refused-by (first ∷ rest) other none none' e =
        let here = if-reached test.number first.number first.passes (by (rest ++ (test ∷ after))) none.0 e in
        let more = refused-by rest other none.1 none' here.1 in
        ((here.0, more.0), more.1)

  module _ (o : A) (is : o ≡ by c.tests) where
    pub told-exactly : (c.number o ≡ accepted) ↔ AllPass c.tests
    told-exactly =
        let exactly = accepted-exactly c.number c.refused c.told c.answer c.fine c.tests c.numbered in
        (λ e. exactly.0 (sym (ap c.number is) ∙ e), λ all. ap c.number is ∙ exactly.1 all)

    pub told-answer : c.number o ≡ accepted → o ≡ c.answer
    told-answer e = is ∙ accepted-is c.number c.refused c.told c.answer c.tests c.numbered (sym (ap c.number is) ∙ e)

    pub told-refused : (c.number o ≡ accepted → ⊥) → o ≡ c.refused (c.number o)
    told-refused other =
        ⊎_elim (λ all. absurd (other (told-exactly.1 all)))
        (λ r. is ∙ r.2 ∙ ap c.refused (sym (ap c.number (is ∙ r.2) ∙ c.told r.0))) (decided c.tests c.refused c.answer c.numbered)

    -- refused by a test's number exactly if that test fails and those before it pass
    pub told-by : (test : Test) (p : Place c.tests test) → (c.number o ≡ test.number) ↔ (AllPass p.before × (test.passes ≡ false))
    told-by test p =
        let e : c.number o ≡ c.number (by (p.before ++ (test ∷ p.after))) = ap c.number (is ∙ ap by p.there) in (
          λ n. refused-by test p.after p.before p.refusal p.none_before p.none_after (sym e ∙ n),
          λ h. e ∙ refuses test p.after p.before h.0 h.1,
        )
