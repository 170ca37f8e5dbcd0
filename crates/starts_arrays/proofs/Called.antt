-- Request 2026-11, of the C functions: their calls, as Rattle reads their promises, leave arrays that are read as states that stand behind their
-- start. So the theorems of starts/proofs/Theorems.antt are about these arrays.
use mathlib.Core.List.{List}
use mathlib.Core.Path.{◌≡◌, refl, sym, ap, ◌∙◌}
use Prim.Native.Nat.{ℕ}
use Rattle.standard.specs.Loading.{d-keystream, row_of}
use Rattle.standard.specs.Refusals.{accepted}
use Rattle.standard.specs.States.{formed, formed-128}
use Rattle.standard.specs.Notation.{joined}
use Rattle.standard.proofs.Promise.{Says}
use Rattle.zuc_loading.proofs.Loaded.{Bytes}
use Rattle.zuc_apart.specs.Given.{Given, of_EEA3, of_EIA3, zuc128, zuc256}
use Rattle.keystream.specs.Draws.{draw_outcome, fill_outcome}
use Rattle.keystream.specs.Starts.{start-EEA3, start₁₂₈, start₂₅₆}
use Rattle.mac.specs.Calls.{start_outcome-128, start_outcome-256, start_outcome-EIA3}
use Rattle.mac.proofs.Outcomes.{begun-EIA3-is}
use Rattle.mac_laws.proofs.Cuttings.{iv-bytes}
use Rattle.starts.specs.Stands.{Stands, eea3-new, fill, generate, generator_in, mask, tag-zuc128, tag-zuc256, zuc128-new, zuc256-new}
use Rattle.starts_arrays.proofs.Arrays.{array-stands}
use Rattle.capi_arrays.specs.Arrays.{held_in, stored_in}
use Rattle.capi.specs.Generators.{DrawArray, MaskArray, StartArray, WordsArray}
use Rattle.capi.specs.Runs.{ArrayUpdates}
use Rattle.capi.specs.Tags.{TagArray, tag_array}
use Rattle.capi.proofs.generators.eea3_start.Reads as eea3-start
use Rattle.capi.proofs.generators.zuc128_start.Reads as zuc128-start
use Rattle.capi.proofs.generators.zuc256_start.Reads as zuc256-start
use Rattle.capi.proofs.generators.zuc_draw.Reads as zuc-draw
use Rattle.capi.proofs.generators.zuc_mask_clean.Reads as zuc-mask-clean
use Rattle.capi.proofs.generators.zuc_mask_crate.Reads as zuc-mask-crate
use Rattle.capi.proofs.generators.zuc_words.Reads as zuc-words
use Rattle.capi_laws.proofs.Runs.{updates-inside}
use Rattle.capi_laws.proofs.Theorems.{held-128, held-256}

-- an accepted start
pub called-zuc128-start : Says zuc128-start.Post
    (λ κs a r s. Bytes a.1.0.now → Bytes a.1.1.0.now → r ≡ accepted → Stands (zuc128 a.1.0.now a.1.1.0.now) (held_in s.0.now))
called-zuc128-start κs a r s p k v ok =
    array-stands (zuc128-new k v (start₁₂₈ a.1.0.now a.1.1.0.now) refl (ap (λ (x : StartArray). x.number) (sym p) ∙ ok)) (ap (λ (x : StartArray). x.array) p)

pub called-zuc256-start : Says zuc256-start.Post
    (λ κs a r s. Bytes a.1.0.now → Bytes a.1.1.0.now → r ≡ accepted
    → Stands (zuc256 d-keystream a.1.0.now a.1.1.0.now) (held_in s.0.now))
called-zuc256-start κs a r s p k v ok =
    array-stands (zuc256-new k v (start₂₅₆ d-keystream a.1.0.now a.1.1.0.now) refl (ap (λ (x : StartArray). x.number) (sym p) ∙ ok)) (ap (λ (x : StartArray). x.array) p)

pub called-eea3-start : Says eea3-start.Post
    (λ κs a r s. Bytes a.1.1.1.1.0.now → r ≡ accepted
    → Stands (of_EEA3 a.1.0 a.1.1.0 a.1.1.1.0 a.1.1.1.1.0.now) (held_in s.0.now))
called-eea3-start κs a r s p k ok =
    array-stands (eea3-new a.1.0 a.1.1.0 a.1.1.1.0 k (start-EEA3 a.1.0 a.1.1.0 a.1.1.1.0 a.1.1.1.1.0.now) refl (ap (λ (x : StartArray). x.number) (sym p) ∙ ok))
    (ap (λ (x : StartArray). x.array) p)

-- further words, whatever is answered
module _ {given : Given} where
  pub called-zuc-draw : Says zuc-draw.Post (λ κs a r s. Stands given (held_in a.0.now) → Stands given (held_in s.0.now))
  called-zuc-draw κs a r s p h = array-stands (generate h (draw_outcome (held_in a.0.now)) refl) (ap (λ (x : DrawArray). x.array) p)

  pub called-zuc-words : Says zuc-words.Post (λ κs a r s. Stands given (held_in a.0.now) → Stands given (held_in s.0.now))
  called-zuc-words κs a r s p h = array-stands (fill h a.1.0.now (fill_outcome (held_in a.0.now) a.1.0.now) refl) (ap (λ (x : WordsArray). x.array) p)

  pub called-zuc-mask-crate : Says zuc-mask-crate.Post (λ κs a r s. Stands given (held_in a.0.now) → Stands given (held_in s.0.now))
  called-zuc-mask-crate κs a r s p h = array-stands (mask h _ _ _ _ _ refl) (ap (λ (x : MaskArray). x.array) p)

  pub called-zuc-mask-clean : Says zuc-mask-clean.Post (λ κs a r s. Stands given (held_in a.0.now) → Stands given (held_in s.0.now))
  called-zuc-mask-clean κs a r s p h = array-stands (mask h _ _ _ _ _ refl) (ap (λ (x : MaskArray). x.array) p)

-- the generator in a tag's array, behind its start and accepted updates
module _ {key : List ℕ} (k : Bytes key) {parts : List (List ℕ)} {last : List ℕ} (b : Bytes (joined parts)) (start : TagArray) (ok : start.number ≡ accepted) where
  pub stands-c-zuc128 : {iv : List ℕ} → Bytes iv → start ≡ tag_array (start_outcome-128 key iv) → ArrayUpdates formed-128 start.array parts last
      → Stands (zuc128 key iv) (generator_in (stored_in last))
  stands-c-zuc128 {iv} v told run =
      tag-zuc128 k v (start_outcome-128 key iv) refl (ap (λ (x : TagArray). x.number) (sym told) ∙ ok)
      (updates-inside (start_outcome-128 key iv) (held-128 key iv k v) start told ok run b)

  pub stands-c-eia3 : (count bearer direction : ℕ) → start ≡ tag_array (start_outcome-EIA3 count bearer direction key) → ArrayUpdates formed-128 start.array parts last
      → Stands (of_EIA3 count bearer direction key) (generator_in (stored_in last))
  stands-c-eia3 count bearer direction told =
      stands-c-zuc128 (iv-bytes count bearer direction) (told ∙ ap tag_array (sym (begun-EIA3-is count bearer direction key)))

  pub stands-c-zuc256 : (width : ℕ) {iv : List ℕ} → Bytes iv → start ≡ tag_array (start_outcome-256 width key iv) → ArrayUpdates formed start.array parts last
      → Stands (zuc256 (row_of width) key iv) (generator_in (stored_in last))
  stands-c-zuc256 width {iv} v told run =
      tag-zuc256 width k v (start_outcome-256 width key iv) refl (ap (λ (x : TagArray). x.number) (sym told) ∙ ok)
      (updates-inside (start_outcome-256 width key iv) (held-256 width key iv k v) start told ok run b)
