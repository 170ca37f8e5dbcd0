-- Words as numbers in decimal digits.
use Rattle.std.specs.Prelude.{Bool, true, false, ◌&&◌, List, [], ◌∷◌, ℕ, ◌+◌, ◌-◌, ◌*◌, min, leb, ltb, length, if◌then◌else◌, Result, Ok, Err}
use Rattle.frame_files.specs.declared.decimal.NumberError.{NumberError}
use Rattle.frame_files.specs.declared.decimal.NumberError.TheVariants.{Above, NotDigits}

-- from `0` to `9` in ASCII
unfoldable pub all_digits : List ℕ → Bool
all_digits [] = true
all_digits (c ∷ rest) = leb 48 c && leb c 57 && all_digits rest

-- what digits behind a number make of it
unfoldable pub value_after : ℕ → List ℕ → ℕ
value_after v [] = v
value_after v (c ∷ rest) = value_after (v * 10 + (c - 48)) rest

abbrev pub value_of : List ℕ → ℕ
value_of digits = value_after 0 digits

-- the number itself exactly if 32 bits hold it
abbrev pub sized : ℕ → Result ℕ NumberError
sized v = if leb v 4294967295 then Ok v else Err Above

-- THE NUMBER that a word is: it has at least one digit, and nothing else
unfoldable pub number_in : List ℕ → Result ℕ NumberError
number_in word = if ltb 0 (length word) && all_digits word then sized (value_of word) else Err NotDigits

abbrev pub is_written : Result ℕ NumberError → Bool
is_written (Ok v) = true
is_written (Err Above) = true
is_written (Err NotDigits) = false

abbrev pub at_most : Result ℕ NumberError → ℕ → ℕ
at_most (Ok v) most = min v most
at_most (Err Above) most = most
at_most (Err NotDigits) most = most
