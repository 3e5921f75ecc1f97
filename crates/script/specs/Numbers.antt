-- Numbers and bytes, written in decimal digits.
use Rattle.std.specs.Prelude.{ℕ, ◌^◌, Bool, cond, ◌&&◌, List, length, Some, None, Option, nat_lt}
use Rattle.std.specs.Str.Parse.{digits_value}
use Rattle.std.specs.Str.{all_ascii_digits}

-- A word writes a number below the limit: it is of one digit or more, and its value is below.
abbrev pub word_is_below : ℕ → List ℕ → Bool
word_is_below limit word = nat_lt 0 (length word) && (all_ascii_digits word && nat_lt (digits_value 10 word) limit)

abbrev pub below : ℕ → List ℕ → Option ℕ
below limit word = cond (word_is_below limit word) (Some (digits_value 10 word)) None

-- The number that a word writes, and the byte.
abbrev pub number_of : List ℕ → Option ℕ
number_of = below (2 ^ 64)

abbrev pub byte_of : List ℕ → Option ℕ
byte_of = below 256
