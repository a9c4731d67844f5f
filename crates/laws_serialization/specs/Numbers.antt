-- The bytes of numbers, decimals and timestamps determine them (Amazon Ion 1.0 specification, "Ion Binary Encoding").
use Rattle.std.specs.Prelude.{ℕ, ◌≡◌, Bool, List, ◌++◌, ℤ, IsTrue, Option}
use Rattle.ion_values.specs.declared.time.TimeParts.{TimeParts}
use Rattle.ion_values.specs.Decimal.{DecimalParts}
use Rattle.ion_values.specs.Time.{IsTime}
use Rattle.ion_values.specs.Within.{decimal_within}
use Rattle.hash_model.specs.Numbers.{int_field, magnitude, var_int, var_uint}
use Rattle.hash_model.specs.Serialize.{decimal_bytes}
use Rattle.hash_model.specs.Timestamps.{offset_bytes, timestamp_bytes}

-- ---- numbers ("Basic Field Formats")

-- a magnitude's bytes determine it
abbrev pub MagnitudeIsInjective : Type 0
MagnitudeIsInjective = (m n : ℕ) → magnitude m ≡ magnitude n → m ≡ n

-- an Int's bytes determine its sign, that of zero too, and its magnitude
abbrev pub IntFieldIsInjective : Type 0
IntFieldIsInjective = (a b : Bool) (m n : ℕ) → int_field a m ≡ int_field b n → (a ≡ b) × (m ≡ n)

-- a VarUInt's bytes determine the number and where they end
abbrev pub VarUIntIsPrefixFree : Type 0
VarUIntIsPrefixFree = (m n : ℕ) (r s : List ℕ) → var_uint m ++ r ≡ var_uint n ++ s → (m ≡ n) × (r ≡ s)

-- a VarInt's bytes determine its sign, that of zero too, the number and where they end
abbrev pub VarIntIsPrefixFree : Type 0
VarIntIsPrefixFree =
    (a b : Bool) (m n : ℕ) (r s : List ℕ) → var_int a m ++ r ≡ var_int b n ++ s → (a ≡ b) × (m ≡ n) × (r ≡ s)

-- ---- decimals and timestamps ("5: Decimal" and "6: Timestamp")

-- a decimal's bytes determine it, within its type: outside it -5 with the sign of a negative zero has the bytes of -5
abbrev pub DecimalIsInjective : Type 0
DecimalIsInjective =
    (a b : DecimalParts) → IsTrue (decimal_within a) → IsTrue (decimal_within b)
    → decimal_bytes a ≡ decimal_bytes b → a ≡ b

-- the bytes of an offset determine it and where they end: the unknown offset is a negative zero, which no number of
-- minutes is
abbrev pub OffsetIsPrefixFree : Type 0
OffsetIsPrefixFree = (a b : Option ℤ) (r s : List ℕ) → offset_bytes a ++ r ≡ offset_bytes b ++ s → (a ≡ b) × (r ≡ s)

-- a timestamp's bytes determine it
abbrev pub TimestampIsInjective : Type 0
TimestampIsInjective = (a b : TimeParts) → IsTime a → IsTime b → timestamp_bytes a ≡ timestamp_bytes b → a ≡ b
