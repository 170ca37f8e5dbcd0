-- Calls as Rattle reads their promises make the runs that the theorems are about: each promise is the equation that a run asks for.
use mathlib.Core.List.{List, ◌∷◌, ◌++◌}
use mathlib.Core.Path.{◌≡◌}
use Prim.Native.Nat.{ℕ, ◌+◌, ◌*◌}
use lib.ListN.{length}
use Rattle.standard.specs.Notation.{joined}
use Rattle.standard.specs.Refusals.{accepted}
use Rattle.standard.specs.States.{Counted, Stored, formed, formed-128}
use Rattle.standard.proofs.Promise.{Says}
use Rattle.refusals.specs.declared.Refusal.{Refusal}
use Rattle.refusals.specs.Numbers.{answer_number}
use Rattle.std.specs.Prelude.{Result}
use Rattle.std.specs.Result.{result_unwrap_or}
use Rattle.mac_registers.specs.Stored.{tag_of}
use Rattle.mac.specs.declared.Mac128.{Mac128}
use Rattle.mac.specs.declared.Mac256.{Mac256}
use Rattle.mac.specs.Calls.{finish_outcome-128, finish_outcome-256, finish_told, no_words, once_outcome-128, once_outcome-256, once_outcome-EIA3, once_told, start_outcome-128, start_outcome-256, start_outcome-EIA3, strict_once_outcome-EIA3, strict_start_outcome-EIA3, tag_told, update_told}
use Rattle.mac.specs.Reading.{tagged_of-128, tagged_of-256}
use Rattle.mac.specs.Runs.{Tagged-128, Tagged-256, Updates, more}
use Rattle.mac_laws.proofs.Runs.{ended}
use Rattle.mac.proofs.zuc128.new.Reads as zuc128-new
use Rattle.mac.proofs.eia3.new.Reads as eia3-new
use Rattle.mac.proofs.eia3.new_strict.Reads as eia3-new-strict
use Rattle.mac.proofs.zuc256.new.Reads as zuc256-new
use Rattle.mac.proofs.zuc128.update.Reads as zuc128-update
use Rattle.mac.proofs.zuc256.update.Reads as zuc256-update
use Rattle.mac.proofs.zuc128.finish.Reads as zuc128-finish
use Rattle.mac.proofs.zuc256.finish.Reads as zuc256-finish
use Rattle.mac.proofs.zuc128.compute.Reads as zuc128-compute
use Rattle.mac.proofs.eia3.compute.Reads as eia3-compute
use Rattle.mac.proofs.eia3.compute_strict.Reads as eia3-compute-strict
use Rattle.mac.proofs.zuc256.compute.Reads as zuc256-compute

-- a start, and a one-shot
pub called-zuc128-new : Says zuc128-new.Post (λ κs a r s. tag_told tagged_of-128 r ≡ start_outcome-128 a.0.now a.1.0.now)
called-zuc128-new κs a r s p = p

pub called-eia3-new : Says eia3-new.Post (λ κs a r s. tag_told tagged_of-128 r ≡ start_outcome-EIA3 a.0 a.1.0 a.1.1.0 a.1.1.1.0.now)
called-eia3-new κs a r s p = p

pub called-eia3-new-strict : Says eia3-new-strict.Post
    (λ κs a r s. tag_told tagged_of-128 r ≡ strict_start_outcome-EIA3 a.0 a.1.0 a.1.1.0 a.1.1.1.0.now)
called-eia3-new-strict κs a r s p = p

pub called-zuc256-new : Says zuc256-new.Post (λ κs a r s. tag_told tagged_of-256 r ≡ start_outcome-256 a.0 a.1.0.now a.1.1.0.now)
called-zuc256-new κs a r s p = p

pub called-zuc128-compute : Says zuc128-compute.Post
    (λ κs a r s. once_told 0 r ≡ once_outcome-128 a.0.now a.1.0.now a.1.1.0.now a.1.1.1.0)
called-zuc128-compute κs a r s p = p

pub called-eia3-compute : Says eia3-compute.Post
    (λ κs a r s. once_told 0 r ≡ once_outcome-EIA3 a.0 a.1.0 a.1.1.0 a.1.1.1.0.now a.1.1.1.1.0.now a.1.1.1.1.1.0)
called-eia3-compute κs a r s p = p

pub called-eia3-compute-strict : Says eia3-compute-strict.Post
    (λ κs a r s. once_told 0 r ≡ strict_once_outcome-EIA3 a.0 a.1.0 a.1.1.0 a.1.1.1.0.now a.1.1.1.1.0.now a.1.1.1.1.1.0)
called-eia3-compute-strict κs a r s p = p

pub called-zuc256-compute : Says zuc256-compute.Post
    (λ κs a r s. once_told no_words r ≡ once_outcome-256 a.0 a.1.0.now a.1.1.0.now a.1.1.1.0.now a.1.1.1.1.0)
called-zuc256-compute κs a r s p = p

-- updates that begin with a call, by those after it
module _ {parts : List (List ℕ)} {last : Counted Stored} where
  pub called-zuc128-update : Says zuc128-update.Post
      (λ κs a r s. answer_number r ≡ accepted → Updates formed-128 (tagged_of-128 s.0.now) parts last
      → Updates formed-128 (tagged_of-128 a.0.now) (a.1.0.now ∷ parts) last)
  called-zuc128-update κs a r s p ok rest = more (update_told r (tagged_of-128 s.0.now)) p ok rest

  pub called-zuc256-update : Says zuc256-update.Post
      (λ κs a r s. answer_number r ≡ accepted → Updates formed (tagged_of-256 s.0.now) parts last
      → Updates formed (tagged_of-256 a.0.now) (a.1.0.now ∷ parts) last)
  called-zuc256-update κs a r s p ok rest = more (update_told r (tagged_of-256 s.0.now)) p ok rest

-- a closing ends the run of a start and updates
module _ {parts : List (List ℕ)} where
  pub called-zuc128-finish : (start : Result Mac128 Refusal) → (tag_told tagged_of-128 start).number ≡ accepted → Says zuc128-finish.Post
      (λ κs a r s. Updates formed-128 (tag_told tagged_of-128 start).state parts (tagged_of-128 a.0.now) → answer_number r ≡ accepted
      → Tagged-128 (tag_told tagged_of-128 start) (joined parts ++ a.1.0.now) (length (joined parts) * 8 + a.1.1.0) (result_unwrap_or r 0))
  called-zuc128-finish start ok κs a r s p run closed =
      ended formed-128 finish_outcome-128 (λ tag. tag) parts (tag_told tagged_of-128 start) ok (tagged_of-128 a.0.now) run a.1.0.now a.1.1.0
      (finish_told 0 r (tagged_of-128 s.0.now)) p closed

  pub called-zuc256-finish : (width : ℕ) (start : Result Mac256 Refusal) → (tag_told tagged_of-256 start).number ≡ accepted → Says zuc256-finish.Post
      (λ κs a r s. Updates formed (tag_told tagged_of-256 start).state parts (tagged_of-256 a.0.now) → answer_number r ≡ accepted
      → Tagged-256 width (tag_told tagged_of-256 start) (joined parts ++ a.1.0.now) (length (joined parts) * 8 + a.1.1.0) (tag_of width (result_unwrap_or r no_words)))
  called-zuc256-finish width start ok κs a r s p run closed =
      ended formed finish_outcome-256 (tag_of width) parts (tag_told tagged_of-256 start) ok (tagged_of-256 a.0.now) run a.1.0.now a.1.1.0
      (finish_told no_words r (tagged_of-256 s.0.now)) p closed
