-- What the C functions of generators give: the inner call's outcome, its state as an array.
use Rattle.std.specs.Prelude.{List, ℕ}
use Rattle.capi_arrays.specs.Arrays.{array_of}
use Rattle.keystream.specs.Draws.{DrawOutcome, FillOutcome}
use Rattle.keystream.specs.Starts.{StartOutcome}
use Rattle.mask.specs.Outcome.{Outcome}

pub record StartArray : Type 0 where
  pub number : ℕ
  pub array : List ℕ

abbrev pub start_array : StartOutcome → StartArray
start_array o = record { number = o.number; array = array_of o.state }

pub record DrawArray : Type 0 where
  pub number : ℕ
  pub word : ℕ
  pub array : List ℕ

abbrev pub draw_array : DrawOutcome → DrawArray
draw_array o = record { number = o.number; word = o.word; array = array_of o.state }

pub record WordsArray : Type 0 where
  pub number : ℕ
  pub array : List ℕ
  pub buffer : List ℕ

abbrev pub words_array : FillOutcome → WordsArray
words_array o = record { number = o.number; array = array_of o.state; buffer = o.buffer }

pub record MaskArray : Type 0 where
  pub number : ℕ
  pub count : ℕ
  pub array : List ℕ
  pub buffer : List ℕ

abbrev pub mask_array : Outcome → MaskArray
mask_array o = record { number = o.number; count = o.count; array = array_of o.state; buffer = o.buffer }
