-- Calls as Rattle reads their promises make the starts and the runs that Words.antt is about: each promise is the equation that they ask for.
use mathlib.Core.List.{List, ◌∷◌, ◌++◌}
use mathlib.Core.Path.{◌≡◌}
use Prim.Native.Nat.{ℕ}
use Rattle.standard.proofs.Promise.{Says}
use Rattle.standard.specs.States.{Counted, Held}
use Rattle.standard.specs.Loading.{d-keystream}
use Rattle.standard.specs.Refusals.{accepted}
use Rattle.zuc.specs.Reading.{counted_of}
use Rattle.keystream.proofs.Tight.{in-place-post}
use Rattle.keystream.proofs.eea3.new.Reads as eea3-new
use Rattle.keystream.proofs.eea3.new_strict.Reads as eea3-new-strict
use Rattle.keystream.proofs.fill.Reads as fill
use Rattle.keystream.proofs.generate.Reads as generate
use Rattle.keystream.proofs.zuc128.new.Reads as zuc128-new
use Rattle.keystream.proofs.zuc256.new.Reads as zuc256-new
use Rattle.keystream.proofs.zuc256.new_with_d.Reads as zuc256-new-with-d
use Rattle.keystream.specs.Draws.{draw_told, fill_told}
use Rattle.refusals.specs.Numbers.{answer_number}
use Rattle.std.specs.Result.{result_unwrap_or}
use Rattle.keystream.specs.Runs.{Draws, many, one}
use Rattle.keystream.specs.Starts.{start-EEA3, start_tag₂₅₆, start_told, start₁₂₈, start₂₅₆, strict_start-EEA3}

-- a start
pub called-zuc128-new : Says zuc128-new.Post (λ κs a r s. start_told r ≡ start₁₂₈ a.0.now a.1.0.now)
called-zuc128-new κs a r s p = p

pub called-zuc256-new : Says zuc256-new.Post (λ κs a r s. start_told r ≡ start₂₅₆ d-keystream a.0.now a.1.0.now)
called-zuc256-new κs a r s p = p

pub called-zuc256-new-with-d : Says zuc256-new-with-d.Post (λ κs a r s. start_told r ≡ start_tag₂₅₆ a.0 a.1.0.now a.1.1.0.now)
called-zuc256-new-with-d κs a r s p = p

pub called-eea3-new : Says eea3-new.Post (λ κs a r s. start_told r ≡ start-EEA3 a.0 a.1.0 a.1.1.0 a.1.1.1.0.now)
called-eea3-new κs a r s p = p

pub called-eea3-new-strict : Says eea3-new-strict.Post (λ κs a r s. start_told r ≡ strict_start-EEA3 a.0 a.1.0 a.1.1.0 a.1.1.1.0.now)
called-eea3-new-strict κs a r s p = p

-- a run that begins with a call, by the run after it
module _ {words : List ℕ} {g' : Counted Held} where
  pub called-generate : Says generate.Post
      (λ κs a r s. answer_number r.answer ≡ accepted → Draws (counted_of r.state) words g' → Draws (counted_of a.0) (result_unwrap_or r.answer 0 ∷ words) g')
  called-generate κs a r s p ok rest = one (draw_told r.answer r.state) p ok rest

  pub called-generate-in-place : Says in-place-post
      (λ κs a r s. answer_number r ≡ accepted → Draws (counted_of s.0.now) words g' → Draws (counted_of a.0.now) (result_unwrap_or r 0 ∷ words) g')
  called-generate-in-place κs a r s p ok rest = one (draw_told r s.0.now) p ok rest

  pub called-fill : Says fill.Post
      (λ κs a r s. answer_number r ≡ accepted → Draws (counted_of s.0.now) words g' → Draws (counted_of a.0.now) (s.1.0.now ++ words) g')
  called-fill κs a r s p ok rest = many a.1.0.now (fill_told r s.0.now s.1.0.now) p ok rest
