-- Any two outcomes that the promise of a guard's call allows are equal, the answer and the whole table at exit, and none of the calls asks
-- anything: the refusal numbers tell the cases of an answer apart, and the reading of a table loses nothing.
use base.Logic.{emp}
use borrow.Fn.Claims.{AllOf}
use borrow.Fn.Read.{ReadAt, no_know, r_last}
use borrow.Fn.World.{ArgsD, ResD, World, w₀}
use contract.Lifetimes.{Lfts}
use denote.Triple.Clauses.{AtExit}
use mathlib.Core.List.{List, [], ◌∷◌, map}
use mathlib.Core.Path.{◌≡◌, ◌∙◌, ap, refl, sym}
use Prim.Native.Nat.{ℕ}
use Rattle.standard.proofs.Promise.{Tight}
use Rattle.standard.specs.Guard.{Link}
use Rattle.std.specs.Prelude.{Result, ⊤}
use Rattle.guard.specs.contracts.accept as accept
use Rattle.guard.specs.contracts.accept_in as accept-in
use Rattle.guard.specs.contracts.rekey as rekey
use Rattle.guard.specs.declared.Link as declared
use Rattle.guard.specs.Outcome.{Guarded, table_of}
use Rattle.refusals.proofs.Once.{answer-once}
use Rattle.refusals.specs.declared.Refusal.{Refusal}
use Rattle.refusals.specs.Numbers.{answer_number}

-- the table that a reading is of
links_of : List Link → List declared.Link
links_of table = map (λ (l : Link). record { highest = l.highest; accepted = l.accepted }) table

links-back : (ys : List declared.Link) → links_of (table_of ys) ≡ ys
unfolding links_of
links-back [] = refl
links-back (y ∷ ys) = ap (λ (l : List declared.Link). y ∷ l) (links-back ys)

pub tables-once : (ys ys' : List declared.Link) → table_of ys ≡ table_of ys' → ys ≡ ys'
tables-once ys ys' e = sym (links-back ys) ∙ ap links_of e ∙ links-back ys'

-- what is told tells what is returned, and the table
pub told-tight : (r r' : Result ⊤ Refusal) (ys ys' : List declared.Link)
    → ◌≡◌ {A = Guarded} (record { number = answer_number r; table = table_of ys }) (record { number = answer_number r'; table = table_of ys' })
    → ◌≡◌ {A = Result ⊤ Refusal × List declared.Link} (r, ys) (r', ys')
told-tight r r' ys ys' e =
    λ i. (
      answer-once tt r r' (ap (λ (o : Guarded). o.number) e) refl i,
      tables-once ys ys' (ap (λ (o : Guarded). o.table) e) i,
    )

-- what a call promises and asks, read here by the rules that read every other one; it is what Rattle reads, the `Post` of its `Reads`
abbrev pub accept-read : (κs : Lfts 1) (a : ArgsD accept.signature κs) (r : ResD accept.signature κs) (s : AtExit accept.ended κs) (w : World)
    → ReadAt w (λ w. emp w.𝓤) no_know ((accept.clauses w.𝓛 w.𝓜.mem w.𝓡.run κs a).ensures tt r s)
accept-read κs a r s w = r_last _

abbrev pub accept-post : (κs : Lfts 1) (a : ArgsD accept.signature κs) → ResD accept.signature κs → AtExit accept.ended κs → Type 0
accept-post κs a r s = AllOf (accept-read κs a r s w₀).tells

pub tight-accept : Tight {Seen = Result ⊤ Refusal × List declared.Link} accept-post (λ κs r s. (r, s.0.now))
tight-accept κs a r r' s s' p q = told-tight r r' s.0.now s'.0.now (p ∙ sym q)

-- its `requires` is the empty assertion
pub asks-nothing-accept : (κs : Lfts 1) (a : ArgsD accept.signature κs) (w : World)
    → (accept.clauses w.𝓛 w.𝓜.mem w.𝓡.run κs a).requires tt ≡ emp w.𝓤
asks-nothing-accept κs a w = refl

abbrev pub rekey-read : (κs : Lfts 1) (a : ArgsD rekey.signature κs) (r : ResD rekey.signature κs) (s : AtExit rekey.ended κs) (w : World)
    → ReadAt w (λ w. emp w.𝓤) no_know ((rekey.clauses w.𝓛 w.𝓜.mem w.𝓡.run κs a).ensures tt r s)
rekey-read κs a r s w = r_last _

abbrev pub rekey-post : (κs : Lfts 1) (a : ArgsD rekey.signature κs) → ResD rekey.signature κs → AtExit rekey.ended κs → Type 0
rekey-post κs a r s = AllOf (rekey-read κs a r s w₀).tells

pub tight-rekey : Tight {Seen = Result ⊤ Refusal × List declared.Link} rekey-post (λ κs r s. (r, s.0.now))
tight-rekey κs a r r' s s' p q = told-tight r r' s.0.now s'.0.now (p ∙ sym q)

pub asks-nothing-rekey : (κs : Lfts 1) (a : ArgsD rekey.signature κs) (w : World)
    → (rekey.clauses w.𝓛 w.𝓜.mem w.𝓡.run κs a).requires tt ≡ emp w.𝓤
asks-nothing-rekey κs a w = refl

abbrev pub accept-in-read : (κs : Lfts 0) (a : ArgsD accept-in.signature κs) (r : ResD accept-in.signature κs) (s : AtExit accept-in.ended κs) (w : World)
    → ReadAt w (λ w. emp w.𝓤) no_know ((accept-in.clauses w.𝓛 w.𝓜.mem w.𝓡.run κs a).ensures tt r s)
accept-in-read κs a r s w = r_last _

abbrev pub accept-in-post : (κs : Lfts 0) (a : ArgsD accept-in.signature κs) → ResD accept-in.signature κs → AtExit accept-in.ended κs → Type 0
accept-in-post κs a r s = AllOf (accept-in-read κs a r s w₀).tells

pub tight-accept-in : Tight accept-in-post (λ κs r s. r)
tight-accept-in κs a r r' s s' p q =
    let e = told-tight r.answer r'.answer r.links r'.links (p ∙ sym q) in
    λ i. record { links = (e i).1; answer = (e i).0 }

pub asks-nothing-accept-in : (κs : Lfts 0) (a : ArgsD accept-in.signature κs) (w : World)
    → (accept-in.clauses w.𝓛 w.𝓜.mem w.𝓡.run κs a).requires tt ≡ emp w.𝓤
asks-nothing-accept-in κs a w = refl
