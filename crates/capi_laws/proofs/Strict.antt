-- Strict forms of C (request 2026-04): on numbers that pass 8 each leaves the plain one's number, array and tag; by the inner calls' theorems. EEA3 in
-- one call promises in C what the inner call does, so that mask_laws/proofs/OneCall.antt is about it.
use mathlib.Core.List.{List}
use mathlib.Core.Path.{◌≡◌, ap}
use Prim.Native.Nat.{ℕ}
use Rattle.standard.proofs.Fields.{InField}
use Rattle.standard.proofs.Promise.{Says}
use Rattle.keystream.specs.Starts.{start-EEA3, strict_start-EEA3}
use Rattle.keystream.proofs.Strict.{strict-eea3}
use Rattle.mac.specs.Calls.{once_outcome-EIA3, start_outcome-EIA3, strict_once_outcome-EIA3, strict_start_outcome-EIA3}
use Rattle.mac.proofs.Strict.{strict-eia3, strict-once-eia3}
use Rattle.mask.specs.Once.{clean-EEA3, crate-EEA3, strict_clean-EEA3, strict_crate-EEA3}
use Rattle.capi.specs.Generators.{start_array}
use Rattle.capi.specs.Tags.{tag_array, two_once}
use Rattle.capi.proofs.eea3.eea3_mask_clean.Reads as eea3-mask-clean
use Rattle.capi.proofs.eea3.eea3_mask_clean_strict.Reads as eea3-mask-clean-strict
use Rattle.capi.proofs.eea3.eea3_mask_crate.Reads as eea3-mask-crate
use Rattle.capi.proofs.eea3.eea3_mask_crate_strict.Reads as eea3-mask-crate-strict
use Rattle.capi.proofs.generators.eea3_start.Reads as eea3-start
use Rattle.capi.proofs.generators.eea3_start_strict.Reads as eea3-start-strict
use Rattle.capi.proofs.tags.eia3_tag_start_strict.Reads as eia3-tag-start-strict
use Rattle.capi.proofs.tags.eia3_tag_strict.Reads as eia3-tag-strict

module _ (count bearer direction : ℕ) (key : List ℕ) (h : InField bearer direction) where
  pub strict-c-eea3 : start_array (strict_start-EEA3 count bearer direction key) ≡ start_array (start-EEA3 count bearer direction key)
  strict-c-eea3 = ap start_array (strict-eea3 count bearer direction key h)

  pub strict-c-eia3 : tag_array (strict_start_outcome-EIA3 count bearer direction key) ≡ tag_array (start_outcome-EIA3 count bearer direction key)
  strict-c-eia3 = ap tag_array (strict-eia3 count bearer direction key h)

  pub strict-c-once-eia3 : (message : List ℕ) (l : ℕ)
      → two_once (strict_once_outcome-EIA3 count bearer direction key message l) ≡ two_once (once_outcome-EIA3 count bearer direction key message l)
  strict-c-once-eia3 message l = ap two_once (strict-once-eia3 count bearer direction key message l h)

-- the promises are the equations that these are about
pub called-eea3-start : Says eea3-start.Post
    (λ κs a r s. record { number = r; array = s.0.now } ≡ start_array (start-EEA3 a.1.0 a.1.1.0 a.1.1.1.0 a.1.1.1.1.0.now))
called-eea3-start κs a r s p = p

pub called-eea3-start-strict : Says eea3-start-strict.Post
    (λ κs a r s. record { number = r; array = s.0.now } ≡ start_array (strict_start-EEA3 a.1.0 a.1.1.0 a.1.1.1.0 a.1.1.1.1.0.now))
called-eea3-start-strict κs a r s p = p

pub called-eia3-tag-start-strict : Says eia3-tag-start-strict.Post
    (λ κs a r s. record { number = r; array = s.0.now } ≡ tag_array (strict_start_outcome-EIA3 a.1.0 a.1.1.0 a.1.1.1.0 a.1.1.1.1.0.now))
called-eia3-tag-start-strict κs a r s p = p

pub called-eia3-tag-strict : Says eia3-tag-strict.Post
    (λ κs a r s. record { number = r; tag = s.1.1.1.1.1.1.0.now } ≡ two_once (strict_once_outcome-EIA3 a.0 a.1.0 a.1.1.0 a.1.1.1.0.now a.1.1.1.1.0.now a.1.1.1.1.1.0))
called-eia3-tag-strict κs a r s p = p

pub called-eea3-mask-crate : Says eea3-mask-crate.Post
    (λ κs a r s. record { number = r; count = s.1.1.1.1.1.1.0.now; buffer = s.1.1.1.1.0.now } ≡ crate-EEA3 a.0 a.1.0 a.1.1.0 a.1.1.1.0.now a.1.1.1.1.1.0 a.1.1.1.1.0.now)
called-eea3-mask-crate κs a r s p = p

pub called-eea3-mask-clean : Says eea3-mask-clean.Post
    (λ κs a r s. record { number = r; count = s.1.1.1.1.1.1.0.now; buffer = s.1.1.1.1.0.now } ≡ clean-EEA3 a.0 a.1.0 a.1.1.0 a.1.1.1.0.now a.1.1.1.1.1.0 a.1.1.1.1.0.now)
called-eea3-mask-clean κs a r s p = p

pub called-eea3-mask-crate-strict : Says eea3-mask-crate-strict.Post
    (λ κs a r s. record { number = r; count = s.1.1.1.1.1.1.0.now; buffer = s.1.1.1.1.0.now } ≡ strict_crate-EEA3 a.0 a.1.0 a.1.1.0 a.1.1.1.0.now a.1.1.1.1.1.0 a.1.1.1.1.0.now)
called-eea3-mask-crate-strict κs a r s p = p

pub called-eea3-mask-clean-strict : Says eea3-mask-clean-strict.Post
    (λ κs a r s. record { number = r; count = s.1.1.1.1.1.1.0.now; buffer = s.1.1.1.1.0.now } ≡ strict_clean-EEA3 a.0 a.1.0 a.1.1.0 a.1.1.1.0.now a.1.1.1.1.1.0 a.1.1.1.1.0.now)
called-eea3-mask-clean-strict κs a r s p = p
