-- Numbers among the words: decimal digits without a sign and without a zero in front, but for the number 0 itself.
use Rattle.std.specs.Prelude.{ℕ, ◌^◌, ◌==◌, ◌&&◌, ◌||◌, Bool, false, not, nat_lt, List, [], ◌∷◌, length, Option, Some, None, option_and_then, if◌then◌else◌}
use Rattle.std.specs.Char.{is_ascii_digit}
use Rattle.std.specs.List.{list_all}
use Rattle.std.specs.Str.Parse.{digits_value}

-- a zero stands in front of another byte
abbrev pub has_zero_in_front : List ℕ → Bool
has_zero_in_front [] = false
has_zero_in_front (byte ∷ []) = false
has_zero_in_front (byte ∷ next ∷ word) = byte == 48

-- one decimal digit or more, and nothing else
abbrev pub is_number : List ℕ → Bool
is_number word = not (length word == 0) && list_all is_ascii_digit word && not (has_zero_in_front word)

-- the number of a word that is one, if it has no more binary digits than this
unfoldable pub number_of : ℕ → List ℕ → Option ℕ
number_of bits word =
    if is_number word && nat_lt (digits_value 10 word) (2 ^ bits) then Some (digits_value 10 word) else None

-- a number from 1 to this many
abbrev pub from_one_to : ℕ → ℕ → Option ℕ
from_one_to most count = if count == 0 || nat_lt most count then None else Some count

-- how many of something a word says: a number of no more than 32 binary digits, from 1 to this many
abbrev pub count_of : ℕ → List ℕ → Option ℕ
count_of most word = option_and_then (from_one_to most) (number_of 32 word)
