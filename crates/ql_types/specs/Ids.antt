-- The numbers of ids and their texts, by the ledger's own rule: an id is a number that is written in
-- 22 digits of base 62.
use Rattle.std.specs.Prelude.{ℕ, zero, suc, ◌+◌, ◌-◌, ◌*◌, ◌/◌, ◌%◌, ◌^◌, bit_xor, Bool, nat_le, nat_lt, ◌==◌, ◌&&◌, ◌||◌, List, [], ◌∷◌, ◌++◌, slice_index, codes, fold, length, Option, Some, None, option_map, option_and_then, if◌then◌else◌}

-- the number of the thing i that transaction n makes, 0 being the transaction itself, mixed with the mask
abbrev pub raw_id : ℕ → ℕ → ℕ → ℕ
raw_id mask n i = bit_xor (n * 2 ^ 24 + i) mask

-- the number of the transaction in an id's number, and that of the thing which it made
abbrev pub transaction_in : ℕ → ℕ → ℕ
transaction_in mask raw = bit_xor raw mask / 2 ^ 24

abbrev pub thing_in : ℕ → ℕ → ℕ
thing_in mask raw = bit_xor raw mask % 2 ^ 24

-- the 62 digits, from 0 to 61
abbrev pub alphabet : List ℕ
alphabet = codes "0123456789ABCDEFGHIJKLMNOPQRSTUVWXYZabcdefghijklmnopqrstuvwxyz"

-- the last `count` digits of a number, most significant first
unfoldable pub digits_of : ℕ → ℕ → List ℕ
digits_of zero number = []
digits_of (suc count) number = digits_of count (number / 62) ++ slice_index alphabet (number % 62) ∷ []

-- the text of an id
abbrev pub id_text : ℕ → List ℕ
id_text raw = digits_of 22 raw

-- whether a byte is an ASCII letter or digit
abbrev pub is_letter_or_digit : ℕ → Bool
is_letter_or_digit byte =
    (nat_le 48 byte && nat_le byte 57) || (nat_le 65 byte && nat_le byte 90) || (nat_le 97 byte && nat_le byte 122)

-- the value of a digit: its place in the alphabet
abbrev pub value_of : ℕ → Option ℕ
value_of byte =
    if nat_le 48 byte && nat_le byte 57 then Some (byte - 48)
    else if nat_le 65 byte && nat_le byte 90 then Some (byte - 55)
    else if nat_le 97 byte && nat_le byte 122 then Some (byte - 61)
    else None

-- the values of digits; None where a byte isn't a digit
unfoldable pub values_of : List ℕ → Option (List ℕ)
values_of [] = Some []
values_of (byte ∷ bytes) =
    option_and_then (λ value. option_map (λ values. value ∷ values) (values_of bytes)) (value_of byte)

-- the number of digits with these values, most significant first
abbrev pub number_of : List ℕ → ℕ
number_of values = fold (λ number value. number * 62 + value) 0 values

-- a number that fits 128 bits
abbrev pub fitting : ℕ → Option ℕ
fitting number = if nat_lt number (2 ^ 128) then Some number else None

-- the number that a text of digits spells, where it fits
unfoldable pub spelled : List ℕ → Option ℕ
spelled text = option_and_then (λ values. fitting (number_of values)) (values_of text)

-- the number of the id with this text, which is 22 digits
abbrev pub id_in : List ℕ → Option ℕ
id_in text = if length text == 22 then spelled text else None
