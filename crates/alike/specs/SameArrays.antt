-- Requests 2026-08 and 2026-09, of the C functions: when two outcomes over lent arrays agree. As in Same.antt, with each array read as the state that it holds.
use Rattle.std.specs.Prelude.{◌≡◌}
use Rattle.capi.specs.Generators.{DrawArray, MaskArray, WordsArray}
use Rattle.capi.specs.Tags.{ClosingArray, TagArray}
use Rattle.capi_arrays.specs.Arrays.{held_in, stored_in}
use Rattle.alike.specs.Alike.{AlikeGenerator, AlikeTag}

pub record AgreeDrawArray (o o' : DrawArray) : Type 0 where
  pub number : o.number ≡ o'.number
  pub word : o.word ≡ o'.word
  pub array : AlikeGenerator (held_in o.array) (held_in o'.array)

pub record AgreeWordsArray (o o' : WordsArray) : Type 0 where
  pub number : o.number ≡ o'.number
  pub array : AlikeGenerator (held_in o.array) (held_in o'.array)
  pub buffer : o.buffer ≡ o'.buffer

pub record AgreeMaskArray (o o' : MaskArray) : Type 0 where
  pub number : o.number ≡ o'.number
  pub count : o.count ≡ o'.count
  pub array : AlikeGenerator (held_in o.array) (held_in o'.array)
  pub buffer : o.buffer ≡ o'.buffer

pub record AgreeTagArray (o o' : TagArray) : Type 0 where
  pub number : o.number ≡ o'.number
  pub array : AlikeTag (stored_in o.array) (stored_in o'.array)

pub record AgreeClosingArray (o o' : ClosingArray) : Type 0 where
  pub number : o.number ≡ o'.number
  pub tag : o.tag ≡ o'.tag
  pub array : AlikeTag (stored_in o.array) (stored_in o'.array)
