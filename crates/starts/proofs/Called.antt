-- Calls as Rattle reads their promises leave states that stand behind their start: each promise is the equation that `Stands` asks for.
-- (Updates of tags are tied in mac_laws/proofs/Called.antt.)
use mathlib.Core.Path.{◌≡◌, ◌∙◌}
use Rattle.standard.specs.Loading.{d-keystream, row_of}
use Rattle.standard.specs.Refusals.{accepted}
use Rattle.standard.proofs.Promise.{Says}
use Rattle.zuc.specs.Reading.{counted_of}
use Rattle.zuc_loading.proofs.Loaded.{Bytes}
use Rattle.zuc_apart.specs.Given.{Given, of_EEA3, zuc128, zuc256}
use Rattle.keystream.proofs.Tight.{in-place-post}
use Rattle.keystream.proofs.Strict.{strict-eea3, strict-eea3-accepted}
use Rattle.keystream.proofs.eea3.new.Reads as eea3-reads
use Rattle.keystream.proofs.eea3.new_strict.Reads as eea3-strict-reads
use Rattle.keystream.proofs.fill.Reads as fill-reads
use Rattle.keystream.proofs.generate.Reads as generate-reads
use Rattle.keystream.proofs.zuc128.new.Reads as zuc128-reads
use Rattle.keystream.proofs.zuc256.new.Reads as zuc256-reads
use Rattle.keystream.proofs.zuc256.new_with_d.Reads as with-d-reads
use Rattle.keystream.specs.Draws.{draw_told, fill_told}
use Rattle.keystream.specs.Starts.{start_told}
use Rattle.mask.proofs.mask_clean.Reads as mask-clean
use Rattle.mask.proofs.mask_crate.Reads as mask-crate
use Rattle.mask.specs.Outcome.{told}
use Rattle.starts.specs.Stands.{Stands, eea3-new, fill, generate, mask, zuc128-new, zuc256-new, zuc256-new-with-d}

-- starts
pub called-zuc128-new : Says zuc128-reads.Post
    (λ κs a r s. Bytes a.0.now → Bytes a.1.0.now → (start_told r).number ≡ accepted → Stands (zuc128 a.0.now a.1.0.now) (start_told r).state)
called-zuc128-new κs a r s p k v ok = zuc128-new k v (start_told r) p ok

pub called-eea3-new : Says eea3-reads.Post
    (λ κs a r s. Bytes a.1.1.1.0.now → (start_told r).number ≡ accepted
    → Stands (of_EEA3 a.0 a.1.0 a.1.1.0 a.1.1.1.0.now) (start_told r).state)
called-eea3-new κs a r s p k ok = eea3-new a.0 a.1.0 a.1.1.0 k (start_told r) p ok

-- a strict one is the plain one
pub called-eea3-new-strict : Says eea3-strict-reads.Post
    (λ κs a r s. Bytes a.1.1.1.0.now → (start_told r).number ≡ accepted
    → Stands (of_EEA3 a.0 a.1.0 a.1.1.0 a.1.1.1.0.now) (start_told r).state)
called-eea3-new-strict κs a r s p k ok =
    let fits = ((strict-eea3-accepted a.0 a.1.0 a.1.1.0 a.1.1.1.0.now (start_told r) p).0 ok).1 in
    eea3-new a.0 a.1.0 a.1.1.0 k (start_told r) (p ∙ strict-eea3 a.0 a.1.0 a.1.1.0 a.1.1.1.0.now fits) ok

pub called-zuc256-new : Says zuc256-reads.Post
    (λ κs a r s. Bytes a.0.now → Bytes a.1.0.now → (start_told r).number ≡ accepted
    → Stands (zuc256 d-keystream a.0.now a.1.0.now) (start_told r).state)
called-zuc256-new κs a r s p k v ok = zuc256-new k v (start_told r) p ok

pub called-zuc256-new-with-d : Says with-d-reads.Post
    (λ κs a r s. Bytes a.1.0.now → Bytes a.1.1.0.now → (start_told r).number ≡ accepted
    → Stands (zuc256 (row_of a.0) a.1.0.now a.1.1.0.now) (start_told r).state)
called-zuc256-new-with-d κs a r s p k v ok = zuc256-new-with-d a.0 k v (start_told r) p ok

-- further words, whatever is answered
module _ {given : Given} where
  pub called-generate : Says generate-reads.Post (λ κs a r s. Stands given (counted_of a.0) → Stands given (counted_of r.state))
  called-generate κs a r s p h = generate h (draw_told r.answer r.state) p

  pub called-generate-in-place : Says in-place-post (λ κs a r s. Stands given (counted_of a.0.now) → Stands given (counted_of s.0.now))
  called-generate-in-place κs a r s p h = generate h (draw_told r s.0.now) p

  pub called-fill : Says fill-reads.Post (λ κs a r s. Stands given (counted_of a.0.now) → Stands given (counted_of s.0.now))
  called-fill κs a r s p h = fill h a.1.0.now (fill_told r s.0.now s.1.0.now) p

  pub called-mask-crate : Says mask-crate.Post (λ κs a r s. Stands given (counted_of a.0.now) → Stands given (counted_of s.0.now))
  called-mask-crate κs a r s p h = mask h _ _ _ _ (told r s.0.now s.1.0.now) p

  pub called-mask-clean : Says mask-clean.Post (λ κs a r s. Stands given (counted_of a.0.now) → Stands given (counted_of s.0.now))
  called-mask-clean κs a r s p h = mask h _ _ _ _ (told r s.0.now s.1.0.now) p
