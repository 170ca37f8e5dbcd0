-- What being alike gives: draws keep it, and the test of a state cannot tell alike states apart; and two outcomes of one list of tests are
-- related where their refusals and their answers are. By the laws of draws, and by induction on the tests.
use mathlib.Core.Bool.{Bool, true, false, ◌&&◌}
use mathlib.Core.List.{List, [], ◌∷◌}
use mathlib.Core.Path.{◌≡◌, refl, sym, ap, ◌∙◌, subst}
use Prim.Native.Nat.{ℕ, zero, suc, ◌+◌}
use borrow.Author.Tests.{lt-ltb}
use lib.Dec.{leb}
use lib.ListN.{length}
use Rattle.standard.specs.Generator.{F, LFSRWithWorkMode, after, next, work_step}
use Rattle.std.specs.Prelude.{if◌then◌else◌}
use Rattle.standard.specs.Refusals.{Test, tested}
use Rattle.standard.specs.States.{Counted, Held, drawn_on, generator_formed, held_formed, limit, moved, well_formed}
use Rattle.standard.proofs.Held.{moved-meaning, start-lt}
use Rattle.zuc.proofs.Turning.{shifted-long}
use Rattle.alike.specs.Alike.{Alike, AlikeGenerator}

-- a draw keeps the number of cells
full-moved : (n : ℕ) (h : Held) → length h.meaning.cells ≡ 16 → length (moved n h).meaning.cells ≡ 16
unfolding moved next work_step F LFSRWithWorkMode
full-moved zero h full = full
full-moved (suc n) h full = shifted-long (moved n h).meaning.cells _ (full-moved n h full)

module _ {h k : Held} (e : Alike h k) where
  pub alike_moved : (n : ℕ) → Alike (moved n h) (moved n k)
  alike_moved n =
      record {
        meaning = moved-meaning n h ∙ ap (after n) e.meaning ∙ sym (moved-meaning n k);
        full = full-moved n h e.full;
        start = start-lt n h e.start;
        start' = start-lt n k e.start';
      }

  pub alike-formed : held_formed h ≡ held_formed k
  unfolding held_formed
  alike-formed = λ i. well_formed (e.meaning i).cells && (lt-ltb h.start 16 e.start ∙ sym (lt-ltb k.start 16 e.start')) i

-- and so of generators, which count their words
module _ {g k : Counted Held} (e : AlikeGenerator g k) where
  pub alike-drawn : (n : ℕ) → AlikeGenerator (drawn_on n g) (drawn_on n k)
  alike-drawn n = record { held = alike_moved e.held n; count = ap (λ (c : ℕ). c + n) e.count }

  pub alike-generator_formed : generator_formed g ≡ generator_formed k
  unfolding generator_formed
  alike-generator_formed = λ i. alike-formed e.held i && leb (e.count i) limit

-- a case by equal tests
pub if-related : {A : Type 0} (Like : A → A → Type 0) (b : Bool) {c : Bool} → b ≡ c → {x x' y y' : A} → Like x x' → Like y y'
    → Like (if b then x else y) (if c then x' else y')
if-related {A} Like b same {x} {x'} {y} {y'} p q = subst (λ (c : Bool). Like (if b then x else y) (if c then x' else y')) same (both b)
  where
    both : (b : Bool) → Like (if b then x else y) (if b then x' else y')
    both true = p
    both false = q

-- outcomes by equal tests
pub tested-related : {A : Type 0} (Like : A → A → Type 0) {refused refused' : ℕ → A} {answer answer' : A} (tests : List Test) {tests' : List Test} → tests ≡ tests'
    → ((n : ℕ) → Like (refused n) (refused' n)) → Like answer answer' → Like (tested tests refused answer) (tested tests' refused' answer')
unfolding tested
tested-related Like {refused} {refused'} {answer} {answer'} tests same p q =
    subst (λ (ts : List Test). Like (tested tests refused answer) (tested ts refused' answer')) same (over tests)
  where
    over : (tests : List Test) → Like (tested tests refused answer) (tested tests refused' answer')
    over [] = q
    over (test ∷ rest) = if-related Like test.passes refl (over rest) (p test.number)
