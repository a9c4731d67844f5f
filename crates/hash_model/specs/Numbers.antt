-- Numbers as bytes: the magnitude of an int as the Ion Hash specification has it, and the VarUInt, VarInt and Int
-- fields of the Ion 1.0 binary encoding ("Basic Field Formats"), each in its shortest form.
use Rattle.std.specs.Prelude.{ℕ, zero, suc, ◌+◌, ◌/◌, ◌%◌, ◌==◌, ◌&&◌, not, nat_lt, Bool, true, false, List, [], ◌∷◌, ◌++◌, ℤ, pos, negsuc, if◌then◌else◌}

-- the digits of a number in a base, the highest first, with the mark added to the first. The first is below the
-- limit. Each digit past it takes one of the tries
unfoldable pub digits_in : ℕ → ℕ → ℕ → ℕ → ℕ → List ℕ
digits_in base limit mark zero n = (mark + n) ∷ []
digits_in base limit mark (suc tries) n =
    elim (nat_lt n limit) [
      | true ↦ (mark + n) ∷ []
      | false ↦ digits_in base limit mark tries (n / base)
          ++ (n % base) ∷ []
    ]

-- the same with as many tries as suffice, since each digit past the first makes the number less
abbrev pub digits_of : ℕ → ℕ → ℕ → ℕ → List ℕ
digits_of base limit mark n = digits_in base limit mark n n

abbrev pub is_below_zero : ℤ → Bool
is_below_zero (pos n) = false
is_below_zero (negsuc n) = true

-- the magnitude, big-endian; zero has no bytes
abbrev pub magnitude : ℕ → List ℕ
magnitude n = if n == 0 then [] else digits_of 256 256 0 n

-- Int: the magnitude with the top bit of the first byte as sign, in front of which a zero byte goes where the bit is
-- taken. That a positive zero has no bytes is the ledger's own rule
abbrev pub int_field : Bool → ℕ → List ℕ
int_field negative n =
    if (n == 0) && not negative then [] else digits_of 256 128 (if negative then 128 else 0) n

-- groups of 7 bits with the top bit set on the last
unfoldable pub ended : List ℕ → List ℕ
ended [] = []
ended (last ∷ []) = (128 + last) ∷ []
ended (first ∷ next ∷ rest) = first ∷ ended (next ∷ rest)

-- VarUInt: groups of 7 bits
abbrev pub var_uint : ℕ → List ℕ
var_uint n = ended (digits_of 128 128 0 n)

-- VarInt: groups of 7 bits, the second bit of the first byte being the sign
abbrev pub var_int : Bool → ℕ → List ℕ
var_int negative n = ended (digits_of 128 64 (if negative then 64 else 0) n)
