-- A cutting of bytes is accepted by the C calls exactly if mac's accept it, that is if the bits fit and the words of the whole message are
-- within the limit; so their theorems are about something. By mac's, and Theorems.antt.
use mathlib.Core.List.{List, ◌++◌}
use mathlib.Core.Logic.{◌↔◌}
use mathlib.Core.Path.{◌≡◌, refl, subst}
use Prim.Native.Nat.{ℕ, ◌+◌, ◌*◌, ◌≤◌}
use lib.ListN.{length}
use Rattle.capi_laws.proofs.Theorems.{accepts-c-zuc128, accepts-c-zuc256}
use Rattle.capi.specs.Runs.{ArrayAccepts-128, ArrayAccepts-256}
use Rattle.capi.specs.Tags.{tag_array}
use Rattle.mac_laws.proofs.Cuttings.{every-cutting-zuc128, every-cutting-zuc256, iv-bytes}
use Rattle.mac.proofs.Outcomes.{begun-EIA3-is}
use Rattle.mac.specs.Calls.{Outcome, start_outcome-128, start_outcome-256, start_outcome-EIA3}
use Rattle.mac_registers.specs.Inner.{Width}
use Rattle.standard.specs.Integrity.{IV-EIA3, drawn_by_tag-EIA3, drawn_by_tag-ZUC256}
use Rattle.standard.specs.Notation.{joined}
use Rattle.standard.specs.States.{limit}
use Rattle.zuc_loading.proofs.Loaded.{Bytes}

through : {A B C : Type 0} → A ↔ B → B ↔ C → A ↔ C
through f g = (λ a. g.0 (f.0 a), λ c. f.1 (g.1 c))

module _ (parts : List (List ℕ)) (tail : List ℕ) (l : ℕ) (b : Bytes (joined parts ++ tail)) where
  -- what is asked of them, by the words of a tag of so many bits
  abbrev Fits : (ℕ → ℕ) → Type 0
  Fits drawn_by_tag = (l ≤ length tail * 8) × (drawn_by_tag (length (joined parts) * 8 + l) ≤ limit)

  pub every-cutting-c-zuc128 : (key iv : List ℕ) → length key ≡ 16 → length iv ≡ 16 → Bytes key → Bytes iv
      → ArrayAccepts-128 (tag_array (start_outcome-128 key iv)) parts tail l ↔ Fits drawn_by_tag-EIA3
  every-cutting-c-zuc128 key iv k v hk hv = through (accepts-c-zuc128 key iv hk hv parts tail l b) (every-cutting-zuc128 key iv k v hk hv parts tail l)

  pub every-cutting-c-eia3 : (count bearer direction : ℕ) (key : List ℕ) → length key ≡ 16 → Bytes key
      → ArrayAccepts-128 (tag_array (start_outcome-EIA3 count bearer direction key)) parts tail l ↔ Fits drawn_by_tag-EIA3
  unfolding IV-EIA3
  every-cutting-c-eia3 count bearer direction key k hk =
      subst (λ (o : Outcome). ArrayAccepts-128 (tag_array o) parts tail l ↔ Fits drawn_by_tag-EIA3) (begun-EIA3-is count bearer direction key)
      (every-cutting-c-zuc128 key (IV-EIA3 count bearer direction) k refl hk (iv-bytes count bearer direction))

  pub every-cutting-c-zuc256 : {w : ℕ} → Width w → (key iv : List ℕ) → length key ≡ 32 → length iv ≡ 23 → Bytes key → Bytes iv
      → ArrayAccepts-256 w (tag_array (start_outcome-256 w key iv)) parts tail l ↔ Fits (drawn_by_tag-ZUC256 (w * 8))
  every-cutting-c-zuc256 {w} q key iv k v hk hv =
      through (accepts-c-zuc256 w key iv hk hv parts tail l b) (every-cutting-zuc256 q key iv k v hk hv parts tail l)
