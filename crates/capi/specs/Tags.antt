-- What the C functions of tags give: the inner call's outcome, its state as an array and its tag as two words.
use Rattle.std.specs.Prelude.{List, [], ◌∷◌, ℕ}
use Rattle.capi_arrays.specs.Arrays.{tag_array_of}
use Rattle.mac.specs.Calls.{Closing, Once, Outcome}

-- a start or an update
pub record TagArray : Type 0 where
  pub number : ℕ
  pub array : List ℕ

abbrev pub tag_array : Outcome → TagArray
tag_array o = record { number = o.number; array = tag_array_of o.state }

-- a tag of 32 bits stands in the first word
abbrev pub two : ℕ → List ℕ
two tag = tag ∷ 0 ∷ []

-- a closing
pub record ClosingArray : Type 0 where
  pub number : ℕ
  pub tag : List ℕ
  pub array : List ℕ

abbrev pub closing_array : Closing (List ℕ) → ClosingArray
closing_array o = record { number = o.number; tag = o.tag; array = tag_array_of o.state }

abbrev pub two_closing : Closing ℕ → Closing (List ℕ)
two_closing o = record { number = o.number; tag = two o.tag; state = o.state }

-- a one-shot
abbrev pub two_once : Once ℕ → Once (List ℕ)
two_once o = record { number = o.number; tag = two o.tag }
