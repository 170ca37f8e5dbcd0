-- A table of links, read as the standard's: one link set and one taken out; and what a call's outcome is where there is such a link, and where
-- there is none.
use borrow.Author.Tests.{le-ltb, lt-ltb}
use lib.ListN.{get_or, length, length-map, set, get_or-map}
use lib.Seq.{set-get_or}
use mathlib.Core.List.{List, [], ◌∷◌}
use mathlib.Core.Path.{◌≡◌, ap, refl, sym, ◌∙◌}
use Prim.Native.Nat.{ℕ, zero, suc, ◌<◌, ◌≤◌}
use Rattle.guard.specs.declared.Link as declared
use Rattle.guard.specs.Inner.{StepOutcome, step_outcome}
use Rattle.guard.specs.Outcome.{Guarded, accept_outcome, accepted_call, count_tests, link_at, link_of, refused_call, rekey_outcome, table_of}
use Rattle.standard.proofs.Tested.{tested-map}
use Rattle.standard.specs.Guard.{Link, accepting, fresh}
use Rattle.standard.specs.Refusals.{Test, accepted, bad_link, link_test, tested}

-- a fresh link of the code
abbrev pub fresh_link : declared.Link
fresh_link = record { highest = 0; accepted = 0 }

set-table : (ys : List declared.Link) (i : ℕ) (y : declared.Link) → table_of (set ys i y) ≡ set (table_of ys) i (link_of y)
set-table [] i y = refl
set-table (x ∷ ys) zero y = refl
set-table (x ∷ ys) (suc i) y = ap (λ (l : List Link). link_of x ∷ l) (set-table ys i y)

-- where there is such a link, the other tests decide
module _ (ys : List declared.Link) (i : ℕ) where
  abbrev table : List Link
  table = table_of ys

  found : {A : Type 0} (rest : List Test) (refused : ℕ → A) (answer : A) → i < length ys
      → tested (link_test i table ∷ rest) refused answer ≡ tested rest refused answer
  unfolding tested
  found rest refused answer within = rw (length-map ys link_of, lt-ltb i (length ys) within) refl

  missing : {A : Type 0} (rest : List Test) (refused : ℕ → A) (answer : A) → length ys ≤ i
      → tested (link_test i table ∷ rest) refused answer ≡ refused bad_link
  unfolding tested
  missing rest refused answer past = rw (length-map ys link_of, le-ltb i (length ys) past) refl

  -- what the code takes out is the standard's link
  taken : link_at table i ≡ link_of (get_or ys i fresh_link)
  taken = get_or-map link_of ys i fresh_link

  -- one link stepped, and put back
  put : StepOutcome → Guarded
  put s = record { number = s.number; table = set table i s.link }

  stepped : (COUNT : ℕ) (s : StepOutcome) → i < length ys → s ≡ step_outcome (link_of (get_or ys i fresh_link)) COUNT → put s ≡ accept_outcome table i COUNT
  unfolding accept_outcome step_outcome put
  stepped COUNT s within told =
      ap put (told ∙ ap (λ (l : Link). step_outcome l COUNT) (sym taken))
      ∙ tested-map put (count_tests (link_at table i) COUNT) (λ n. record { number = n; link = link_at table i })
      (record { number = accepted; link = accepting (link_at table i) COUNT })
      ∙ (λ k. tested (count_tests (link_at table i) COUNT) (λ n. record { number = n; table = set-get_or table i fresh k }) (accepted_call table i (accepting (link_at table i) COUNT)))
      ∙ sym (found (count_tests (link_at table i) COUNT) (refused_call table) (accepted_call table i (accepting (link_at table i) COUNT)) within)

  pub accept-stepped : (COUNT : ℕ) (y : declared.Link) → i < length ys
      → record { number = accepted; link = link_of y } ≡ step_outcome (link_of (get_or ys i fresh_link)) COUNT
      → record { number = accepted; table = table_of (set ys i y) } ≡ accept_outcome table i COUNT
  unfolding put
  accept-stepped COUNT y within told = (λ k. record { number = accepted; table = set-table ys i y k }) ∙ stepped COUNT _ within told

  -- a refused step leaves the table as it was
  pub accept-refused : (COUNT number : ℕ) → i < length ys
      → record { number = number; link = link_of (get_or ys i fresh_link) } ≡ step_outcome (link_of (get_or ys i fresh_link)) COUNT
      → record { number = number; table = table } ≡ accept_outcome table i COUNT
  unfolding put
  accept-refused COUNT number within told =
      (λ k. record { number = number; table = (sym (set-get_or table i fresh) ∙ ap (set table i) taken) k }) ∙ stepped COUNT _ within told

  pub accept-missing : (COUNT : ℕ) → length ys ≤ i → record { number = bad_link; table = table } ≡ accept_outcome table i COUNT
  unfolding accept_outcome
  accept-missing COUNT past = sym (missing (count_tests (link_at table i) COUNT) (refused_call table) (accepted_call table i (accepting (link_at table i) COUNT)) past)

  pub rekeyed-is : i < length ys → record { number = accepted; table = table_of (set ys i fresh_link) } ≡ rekey_outcome table i
  unfolding rekey_outcome tested
  rekeyed-is within =
      (λ k. record { number = accepted; table = set-table ys i fresh_link k }) ∙ sym (found [] (refused_call table) (accepted_call table i fresh) within)

  pub rekey-missing : length ys ≤ i → record { number = bad_link; table = table } ≡ rekey_outcome table i
  unfolding rekey_outcome tested
  rekey-missing past = sym (missing [] (refused_call table) (accepted_call table i fresh) past)
