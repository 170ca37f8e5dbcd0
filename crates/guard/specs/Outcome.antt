-- What the calls of a guard answer: the standard's tests in the request's order (2026-03: 13, 12, 11), then the table with one link set.
use Rattle.std.specs.Prelude.{get_or, set, List, [], ◌∷◌, map, ℕ}
use Rattle.guard.specs.declared.Link as declared
use Rattle.standard.specs.Guard.{Link, accepting, fresh, knows}
use Rattle.standard.specs.Refusals.{Test, accepted, age_test, link_test, reuse_test, tested}

-- the struct of the code, and a table of them, read as the standard's links
abbrev pub link_of : declared.Link → Link
link_of l = record { highest = l.highest; accepted = l.accepted }

abbrev pub table_of : List declared.Link → List Link
table_of links = map link_of links

-- all that a call gives: its number and the table
pub record Guarded : Type 0 where
  pub number : ℕ
  pub table : List Link

-- a refusal leaves the table as it came
abbrev pub refused_call : List Link → ℕ → Guarded
refused_call table number = record { number = number; table = table }

-- an accepted call sets one link of it
abbrev pub accepted_call : List Link → ℕ → Link → Guarded
accepted_call table at link = record { number = accepted; table = set table at link }

-- the link that a call is about
abbrev pub link_at : List Link → ℕ → Link
link_at table at = get_or table at fresh

-- the tests of a COUNT by its link
abbrev pub count_tests : Link → ℕ → List Test
count_tests link COUNT = age_test COUNT link.highest ∷ reuse_test (knows link COUNT) ∷ []

unfoldable pub accept_outcome : List Link → ℕ → ℕ → Guarded
accept_outcome table at COUNT =
    tested (link_test at table ∷ count_tests (link_at table at) COUNT) (refused_call table)
    (accepted_call table at (accepting (link_at table at) COUNT))

-- "A re-keyed link is fresh again"
unfoldable pub rekey_outcome : List Link → ℕ → Guarded
rekey_outcome table at = tested (link_test at table ∷ []) (refused_call table) (accepted_call table at fresh)
