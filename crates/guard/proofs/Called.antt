-- Calls as Rattle reads their promises make the logs that Theorems.antt is about: each promise is the equation that they ask for. And a table of
-- zeros is a table of fresh links.
use lib.ListN.{replicate}
use mathlib.Core.List.{List, ◌∷◌}
use mathlib.Core.Path.{◌≡◌, ap, refl}
use Prim.Native.Nat.{ℕ, zero, suc}
use Rattle.standard.proofs.Promise.{Says}
use Rattle.standard.specs.Guard.{Link, fresh}
use Rattle.guard.proofs.Tables.{fresh_link}
use Rattle.guard.proofs.Tight.{accept-in-post, accept-post, rekey-post}
use Rattle.guard.specs.Outcome.{table_of}
use Rattle.refusals.specs.Numbers.{answer_number}
use Rattle.guard.specs.Runs.{Accept, Call, Calls, Rekey, accept, rekey}

-- calls before, and one more
module _ {table : List Link} {log : List Call} where
  pub called-accept : Says accept-post
      (λ κs a r s. Calls table log (table_of a.0.now) → Calls table (Accept a.1.0 a.1.1.0 (answer_number r) ∷ log) (table_of s.0.now))
  called-accept κs a r s p run = accept a.1.0 a.1.1.0 (record { number = answer_number r; table = table_of s.0.now }) p run

  pub called-rekey : Says rekey-post
      (λ κs a r s. Calls table log (table_of a.0.now) → Calls table (Rekey a.1.0 (answer_number r) ∷ log) (table_of s.0.now))
  called-rekey κs a r s p run = rekey a.1.0 (record { number = answer_number r; table = table_of s.0.now }) p run

  pub called-accept-in : Says accept-in-post
      (λ κs a r s. Calls table log (table_of a.0) → Calls table (Accept a.1.0 a.1.1.0 (answer_number r.answer) ∷ log) (table_of r.links))
  called-accept-in κs a r s p run = accept a.1.0 a.1.1.0 (record { number = answer_number r.answer; table = table_of r.links }) p run

pub fresh-table : (n : ℕ) → table_of (replicate n fresh_link) ≡ replicate n fresh
fresh-table zero = refl
fresh-table (suc n) = ap (λ (l : List Link). fresh ∷ l) (fresh-table n)
