-- Any two outcomes that the promise of a start, a draw or a fill allows are equal, and none of the calls asks anything: number and value tell
-- an answer.
use base.Logic.{emp}
use borrow.Fn.Claims.{AllOf}
use borrow.Fn.Read.{ReadAt, no_know, r_last}
use borrow.Fn.World.{ArgsD, ResD, World, w₀}
use contract.Lifetimes.{Lfts}
use denote.Triple.Clauses.{AtExit}
use mathlib.Core.List.{List}
use mathlib.Core.Path.{◌≡◌, ◌∙◌, ap, refl, sym}
use Prim.Native.Nat.{ℕ}
use Rattle.zuc.proofs.Turning.{counted-once}
use Rattle.zuc.specs.declared.Generator.{Generator}
use Rattle.standard.proofs.Promise.{AsksNothing, Tight}
use Rattle.keystream.proofs.eea3.new.Reads as eea3-new
use Rattle.keystream.proofs.eea3.new_strict.Reads as eea3-new-strict
use Rattle.keystream.proofs.fill.Reads as fill
use Rattle.keystream.proofs.generate.Reads as generate
use Rattle.keystream.specs.contracts.generate_in_place as in_place
use Rattle.keystream.proofs.zuc128.new.Reads as zuc128-new
use Rattle.keystream.proofs.zuc256.new.Reads as zuc256-new
use Rattle.keystream.proofs.zuc256.new_with_d.Reads as zuc256-new-with-d
use Rattle.keystream.specs.Draws.{DrawOutcome, FillOutcome, draw_told, fill_told}
use Rattle.keystream.specs.Starts.{StartOutcome, start_told}
use Rattle.refusals.proofs.Once.{answer-once}
use Rattle.refusals.specs.declared.Refusal.{Refusal}
use Rattle.refusals.specs.Numbers.{answer_number}
use Rattle.std.specs.Prelude.{Err, Ok, Result, replicate, ⊤}
use Rattle.std.specs.Result.{result_unwrap_or}
use Rattle.standard.specs.States.{zeros}
use Rattle.zuc.specs.Reading.{cells_from, counted_of}

-- a refused start is read as zeros
no_generator : Generator
no_generator = record { z = record { s = replicate 16 0; r1 = 0; r2 = 0; start = 0 }; count = 0 }

start_is : (r : Result Generator Refusal) → start_told r ≡ record { number = answer_number r; state = counted_of (result_unwrap_or r no_generator) }
unfolding no_generator zeros cells_from
start_is (Ok g) = refl
start_is (Err refusal) = refl

-- what is told tells what is returned
pub start-tight : (r r' : Result Generator Refusal) → start_told r ≡ start_told r' → r ≡ r'
start-tight r r' e =
    let told = sym (start_is r) ∙ e ∙ start_is r' in
    answer-once no_generator r r' (ap (λ (o : StartOutcome). o.number) told) (counted-once _ _ (ap (λ (o : StartOutcome). o.state) told))

pub draw-tight : (r r' : Result ℕ Refusal) (g g' : Generator) → draw_told r g ≡ draw_told r' g' → ◌≡◌ {A = Result ℕ Refusal × Generator} (r, g) (r', g')
draw-tight r r' g g' e =
    λ i. (
      answer-once 0 r r' (ap (λ (o : DrawOutcome). o.number) e) (ap (λ (o : DrawOutcome). o.word) e) i,
      counted-once g g' (ap (λ (o : DrawOutcome). o.state) e) i,
    )

-- the starts
pub tight-zuc128-new : Tight zuc128-new.Post (λ κs r s. r)
tight-zuc128-new κs a r r' s s' p q = start-tight r r' (p ∙ sym q)

pub asks-nothing-zuc128-new : AsksNothing zuc128-new.Pre
asks-nothing-zuc128-new κs a = tt

pub tight-zuc256-new : Tight zuc256-new.Post (λ κs r s. r)
tight-zuc256-new κs a r r' s s' p q = start-tight r r' (p ∙ sym q)

pub asks-nothing-zuc256-new : AsksNothing zuc256-new.Pre
asks-nothing-zuc256-new κs a = tt

pub tight-zuc256-new-with-d : Tight zuc256-new-with-d.Post (λ κs r s. r)
tight-zuc256-new-with-d κs a r r' s s' p q = start-tight r r' (p ∙ sym q)

pub asks-nothing-zuc256-new-with-d : AsksNothing zuc256-new-with-d.Pre
asks-nothing-zuc256-new-with-d κs a = tt

pub tight-eea3-new : Tight eea3-new.Post (λ κs r s. r)
tight-eea3-new κs a r r' s s' p q = start-tight r r' (p ∙ sym q)

pub asks-nothing-eea3-new : AsksNothing eea3-new.Pre
asks-nothing-eea3-new κs a = tt

pub tight-eea3-new-strict : Tight eea3-new-strict.Post (λ κs r s. r)
tight-eea3-new-strict κs a r r' s s' p q = start-tight r r' (p ∙ sym q)

pub asks-nothing-eea3-new-strict : AsksNothing eea3-new-strict.Pre
asks-nothing-eea3-new-strict κs a = tt

-- draws
pub tight-generate : Tight generate.Post (λ κs r s. r)
tight-generate κs a r r' s s' p q =
    let e = draw-tight r.answer r'.answer r.state r'.state (p ∙ sym q) in
    λ i. record { answer = (e i).0; state = (e i).1 }

pub asks-nothing-generate : AsksNothing generate.Pre
asks-nothing-generate κs a = tt

pub tight-fill : Tight {Seen = Result ⊤ Refusal × (Generator × List ℕ)} fill.Post (λ κs r s. (r, (s.0.now, s.1.0.now)))
tight-fill κs a r r' s s' p q =
    let e : fill_told r s.0.now s.1.0.now ≡ fill_told r' s'.0.now s'.1.0.now = p ∙ sym q in
    λ i. (
      answer-once tt r r' (ap (λ (o : FillOutcome). o.number) e) refl i,
      (counted-once s.0.now s'.0.now (ap (λ (o : FillOutcome). o.state) e) i, (e i).buffer),
    )

pub asks-nothing-fill : AsksNothing fill.Pre
asks-nothing-fill κs a = tt

-- a function walked by hand has no `Reads`: what it promises and asks is read here, by the rules that read every other one
abbrev pub in-place-read : (κs : Lfts 1) (a : ArgsD in_place.signature κs) (r : ResD in_place.signature κs) (s : AtExit in_place.ended κs) (w : World)
    → ReadAt w (λ w. emp w.𝓤) no_know ((in_place.clauses w.𝓛 w.𝓜.mem w.𝓡.run κs a).ensures tt r s)
in-place-read κs a r s w = r_last _

abbrev pub in-place-post : (κs : Lfts 1) (a : ArgsD in_place.signature κs) → ResD in_place.signature κs → AtExit in_place.ended κs → Type 0
in-place-post κs a r s = AllOf (in-place-read κs a r s w₀).tells

pub tight-generate-in-place : Tight {Seen = Result ℕ Refusal × Generator} in-place-post (λ κs r s. (r, s.0.now))
tight-generate-in-place κs a r r' s s' p q = draw-tight r r' s.0.now s'.0.now (p ∙ sym q)

-- its `requires` is the empty assertion
pub asks-nothing-generate-in-place : (κs : Lfts 1) (a : ArgsD in_place.signature κs) (w : World)
    → (in_place.clauses w.𝓛 w.𝓜.mem w.𝓡.run κs a).requires tt ≡ emp w.𝓤
asks-nothing-generate-in-place κs a w = refl
