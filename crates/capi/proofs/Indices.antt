-- Start index and count of a state that a call hands back fit their words of the array, if those of the state lent did; by the tests.
use mathlib.Core.List.{List}
use mathlib.Core.Bool.{true}
use mathlib.Core.Path.{◌≡◌, sym, subst}
use Prim.Native.Nat.{ℕ, zero, suc, ◌+◌, ◌^◌, ◌<◌}
use borrow.Author.Tests.{leb-true}
use lib.ListN.{length}
use lib.Dec.{leb, lit<}
use native.Mathlib.Omega.{arith}
use Rattle.keystream.specs.Draws.{FillOutcome, fill_outcome}
use Rattle.keystream.specs.Starts.{StartOutcome, accepted_start, refused_start, start_told}
use Rattle.refusals.specs.declared.Refusal.{Refusal}
use Rattle.std.specs.Prelude.{Err, IfOk, Ok, Result}
use Rattle.zuc.specs.declared.Generator.{Generator}
use Rattle.mask.specs.Outcome.{Outcome, mask_tested}
use Rattle.standard.proofs.Tested.{Numbered, either}
use Rattle.standard.specs.Generator.{State}
use Rattle.standard.specs.Refusals.{Test, tested}
use Rattle.standard.specs.States.{Counted, Held, drawn_on, limit, moved, zeros}

-- as the array has room for it
abbrev pub Small : Counted Held → Type 0
Small g = (g.held.start < 2 ^ 32) × (g.count < 2 ^ 32)

moved-fits : (n : ℕ) (h : Held) → h.start < 2 ^ 32 → (moved n h).start < 2 ^ 32
unfolding moved
moved-fits zero h l = l
moved-fits (suc n) h l = omega arith

pub start_fits : (tests : List Test) → Numbered tests → (loaded : State) {o : StartOutcome} → o ≡ tested tests refused_start (accepted_start loaded) → Small o.state
unfolding zeros
start_fits tests low loaded e =
    subst (λ (o : StartOutcome). Small o.state) (sym e)
    (either (λ (o : StartOutcome). Small o.state) tests low refused_start (accepted_start loaded) (λ n. (lit< tt, lit< tt)) (λ all. (lit< tt, lit< tt)))

pub start_small : (r : Result Generator Refusal) → Small (start_told r).state → IfOk r (λ g. (g.z.start < 2 ^ 32) × (g.count < 2 ^ 32))
start_small (Ok g) h = h
start_small (Err refusal) h = tt

-- words that are within the limit
drawn-fits : (n : ℕ) (g : Counted Held) → Small g → leb (g.count + n) limit ≡ true → Small (drawn_on n g)
drawn-fits n g l e = let m = leb-true (g.count + n) limit e in (moved-fits n g.held l.0, omega arith)

module _ (g : Counted Held) (l : Small g) where
  pub fill-fits : (buffer : List ℕ) {o : FillOutcome} → o ≡ fill_outcome g buffer → Small o.state
  unfolding fill_outcome
  fill-fits buffer e =
      subst (λ (o : FillOutcome). Small o.state) (sym e)
      (either (λ (o : FillOutcome). Small o.state) _ (lit< tt, (lit< tt, tt)) _ _ (λ n. l) (λ all. drawn-fits (length buffer) g l all.1.0))

  pub mask_fits : (words L : ℕ) (buffer masked : List ℕ) {o : Outcome} → o ≡ mask_tested g words L buffer masked → Small o.state
  unfolding mask_tested
  mask_fits words L buffer masked e =
      subst (λ (o : Outcome). Small o.state) (sym e)
      (either (λ (o : Outcome). Small o.state) _ (lit< tt, (lit< tt, (lit< tt, tt))) _ _ (λ n. l) (λ all. drawn-fits words g l all.1.1.0))
