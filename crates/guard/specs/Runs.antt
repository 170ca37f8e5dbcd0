-- Calls on one table, one after the other, as their contracts tell them: accept and re-key, on any links, in any order, accepted and refused.
use Rattle.std.specs.Prelude.{eqb, ltb, Bool, false, ◌&&◌, ◌||◌, List, [], ◌∷◌, ◌≡◌, ℕ, max, if◌then◌else◌}
use Rattle.guard.specs.Outcome.{Guarded, accept_outcome, rekey_outcome}
use Rattle.standard.specs.Guard.{Link}
use Rattle.standard.specs.Refusals.{Test, accepted, age_test, bad_link, reuse_test}

-- a call and the number that it answered: accept (at, COUNT), re-key (at). A log has the last call first
pub data Call : Type 0 where
  Accept : (at COUNT number : ℕ) → Call
  Rekey : (at number : ℕ) → Call

-- from a table, the log of the calls on it and the table after them: o is what is told of a call's result, equal to what the contract says
pub data Calls (table : List Link) : List Call → List Link → Type 0 where
  none : Calls table [] table
  accept : {log : List Call} {now : List Link} (at COUNT : ℕ) (o : Guarded) → o ≡ accept_outcome now at COUNT → Calls table log now
      → Calls table (Accept at COUNT o.number ∷ log) o.table
  rekey : {log : List Call} {now : List Link} (at : ℕ) (o : Guarded) → o ≡ rekey_outcome now at → Calls table log now
      → Calls table (Rekey at o.number ∷ log) o.table

-- the counts that were accepted on a link since it was last re-keyed
unfoldable pub since : ℕ → List Call → List ℕ
since link [] = []
since link (Accept at COUNT number ∷ log) = if eqb at link && eqb number accepted then COUNT ∷ since link log else since link log
since link (Rekey at number ∷ log) = if eqb at link && eqb number accepted then [] else since link log

-- the highest of some counts, 0 if there are none; and whether a COUNT is one of them
unfoldable pub highest_of : List ℕ → ℕ
highest_of [] = 0
highest_of (n ∷ rest) = max (highest_of rest) n

unfoldable pub among : List ℕ → ℕ → Bool
among [] COUNT = false
among (n ∷ rest) COUNT = eqb COUNT n || among rest COUNT

-- what decides on a COUNT, by the length of the table, the counts accepted since the last re-keying, the place and the COUNT
abbrev pub history_tests : ℕ → List ℕ → ℕ → ℕ → List Test
history_tests n counts at COUNT =
    record { passes = ltb at n; number = bad_link } ∷ age_test COUNT (highest_of counts) ∷ reuse_test (among counts COUNT) ∷ []

-- no call of a log is about a link; none re-keyed it
abbrev pub Elsewhere : ℕ → List Call → Type 0
Elsewhere link [] = Unit {0}
Elsewhere link (Accept at COUNT number ∷ log) = (at ≡ link → ⊥) × Elsewhere link log
Elsewhere link (Rekey at number ∷ log) = (at ≡ link → ⊥) × Elsewhere link log

abbrev pub NotRekeyed : ℕ → List Call → Type 0
NotRekeyed link [] = Unit {0}
NotRekeyed link (Accept at COUNT number ∷ log) = NotRekeyed link log
NotRekeyed link (Rekey at number ∷ log) = (at ≡ link → ⊥) × NotRekeyed link log
