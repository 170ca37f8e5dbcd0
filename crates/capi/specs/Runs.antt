-- A tag made by accepted C calls over a lent array, as their contracts tell them: a start, updates that cut the message anyhow, and a closing.
use Rattle.std.specs.Prelude.{Bool, List, [], ◌∷◌, ◌++◌, ◌≡◌, ℕ, ◌+◌, ◌*◌, length}
use Rattle.capi_arrays.specs.Arrays.{stored_in}
use Rattle.capi.specs.Tags.{ClosingArray, TagArray, closing_array, tag_array, two_closing, two_once}
use Rattle.mac.specs.Calls.{Closing, finish_outcome-128, finish_outcome-256, once_outcome-128, once_outcome-EIA3, update_outcome}
use Rattle.mac.specs.Runs.{Computed}
use Rattle.mac_registers.specs.Stored.{tag_of}
use Rattle.standard.specs.Notation.{◌⟨◌⟩, joined}
use Rattle.standard.specs.States.{Counted, Stored, formed, formed-128, tag_formed}
use Rattle.zuc_loading.proofs.Loaded.{Bytes}

-- updates one after the other, each accepted: the next one is lent the array that this one left
pub data ArrayUpdates (test : Stored → Bool) : List ℕ → List (List ℕ) → List ℕ → Type 0 where
  none : {a : List ℕ} → ArrayUpdates test a [] a
  more : {a a' part : List ℕ} {parts : List (List ℕ)} (o : TagArray) → o ≡ tag_array (update_outcome (tag_formed test (stored_in a)) (stored_in a) part) → o.number ≡ 0
      → ArrayUpdates test o.array parts a' → ArrayUpdates test a (part ∷ parts) a'

-- a tag of a message of L bits, from a start's array; by the test of states, the closing, and the number in the two words of a tag.
-- What is lent as uint8_t is bytes
pub record ArrayTagged (test : Stored → Bool) (finish_outcome : Counted Stored → List ℕ → ℕ → Closing (List ℕ)) (number_in : List ℕ → ℕ) (start : TagArray) (message : List ℕ)
    (L tag : ℕ) : Type 0 where
  pub parts : List (List ℕ)
  pub tail : List ℕ
  pub l : ℕ
  pub bytes : Bytes message
  pub message-is : message ≡ joined parts ++ tail
  pub L-is : L ≡ length (joined parts) * 8 + l
  pub started : start.number ≡ 0
  pub last : List ℕ
  pub updates : ArrayUpdates test start.array parts last
  pub end : ClosingArray
  pub closes : end ≡ closing_array (finish_outcome (stored_in last) tail l)
  pub accepted : end.number ≡ 0
  pub tag_is : tag ≡ number_in end.tag

-- a tag of 32 bits stands in the first word
abbrev pub first_word : List ℕ → ℕ
first_word words = words ⟨ 0 ⟩

-- of ZUC-128 or EIA3, and of ZUC-256 at a width in bytes
abbrev pub ArrayTagged-128 : TagArray → List ℕ → ℕ → ℕ → Type 0
ArrayTagged-128 = ArrayTagged formed-128 (λ s tail l. two_closing (finish_outcome-128 s tail l)) first_word

abbrev pub ArrayTagged-256 : ℕ → TagArray → List ℕ → ℕ → ℕ → Type 0
ArrayTagged-256 width = ArrayTagged formed finish_outcome-256 (tag_of width)

-- that a start's calls are accepted over these very parts, this tail and these bits of it, and give some tag
abbrev pub ArrayAccepts : (Stored → Bool) → (Counted Stored → List ℕ → ℕ → Closing (List ℕ)) → (List ℕ → ℕ) → TagArray → List (List ℕ) → List ℕ → ℕ → Type 0
ArrayAccepts test finish_outcome number_in start parts tail l =
    (tag : ℕ) × (r : ArrayTagged test finish_outcome number_in start (joined parts ++ tail) (length (joined parts) * 8 + l) tag)
    × ((r.parts ≡ parts) × (r.tail ≡ tail) × (r.l ≡ l))

abbrev pub ArrayAccepts-128 : TagArray → List (List ℕ) → List ℕ → ℕ → Type 0
ArrayAccepts-128 = ArrayAccepts formed-128 (λ s tail l. two_closing (finish_outcome-128 s tail l)) first_word

abbrev pub ArrayAccepts-256 : ℕ → TagArray → List (List ℕ) → List ℕ → ℕ → Type 0
ArrayAccepts-256 width = ArrayAccepts formed finish_outcome-256 (tag_of width)

-- a tag made by an accepted C one-shot: of ZUC-128, and of EIA3. The one of ZUC-256 promises what mac's does, and so is Computed-256
abbrev pub TwoComputed-128 : (key iv message : List ℕ) (l tag : ℕ) → Type 0
TwoComputed-128 key iv = Computed (λ message l. two_once (once_outcome-128 key iv message l)) first_word

abbrev pub TwoComputed-EIA3 : (count bearer direction : ℕ) (key message : List ℕ) (l tag : ℕ) → Type 0
TwoComputed-EIA3 count bearer direction key = Computed (λ message l. two_once (once_outcome-EIA3 count bearer direction key message l)) first_word
