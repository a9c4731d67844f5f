-- The serialization and the hash of a value (Ion Hash 1.0 specification, "Algorithm" and "Serialization"), with SHA-256
-- (FIPS 180-4) as the hash function. Frames and escapes alone tell apart what stands side by side.
use Rattle.std.specs.Prelude.{ℕ, ◌==◌, ◌&&◌, ◌||◌, not, Bool, List, [], ◌∷◌, ◌++◌, ℤ, unsigned_abs, if◌then◌else◌}
use Rattle.std.specs.List.{flat_map}
use Rattle.std.specs.Ordering.{nat_cmp, is_lt}
use Rattle.std.specs.Cmp.Lexicographic.{slice_cmp}
use Rattle.sha2.specs.Sha256.{sha256}
use Rattle.ql_types.specs.declared.Hash32.{Hash32}
use Rattle.ion_values.specs.Decimal.{DecimalParts}
use Rattle.ion_values.specs.declared.value.Kind.{Kind}
use Rattle.ion_values.specs.declared.value.Value.{Value}
use Rattle.ion_values.specs.declared.value.Field.{Field}
use Rattle.ion_values.specs.declared.value.Body.{Body}
use Rattle.ion_values.specs.declared.value.Body.TheOpen.{Body-F, Field-F, Value-F}
use Rattle.ion_values.specs.declared.value.Body.TheFolds.{fold-Value, fold-Field, fold-Body}
use Rattle.hash_model.specs.Numbers.{int_field, is_below_zero, magnitude, var_int}
use Rattle.hash_model.specs.Timestamps.{timestamp_bytes}

-- whether a byte begins a frame, ends one, or is the escape
abbrev pub is_control : ℕ → Bool
is_control byte = (byte == 0x0B) || (byte == 0x0C) || (byte == 0x0E)

abbrev pub escaped : ℕ → List ℕ
escaped byte = if is_control byte then 0x0C ∷ byte ∷ [] else byte ∷ []

-- the bytes with an escape before each control byte
abbrev pub escape : List ℕ → List ℕ
escape bytes = flat_map escaped bytes

-- the begin marker, the type qualifier, the content, the end marker
abbrev pub framed : ℕ → List ℕ → List ℕ
framed type_qualifier content = 0x0B ∷ type_qualifier ∷ content ++ 0x0E ∷ []

-- a scalar is its representation, escaped
abbrev pub scalar : ℕ → List ℕ → List ℕ
scalar type_qualifier representation = framed type_qualifier (escape representation)

-- the type qualifier of a null of the type
abbrev pub null_qualifier : Kind → ℕ
null_qualifier Kind.Null = 0x0F
null_qualifier Kind.Bool = 0x1F
null_qualifier Kind.Int = 0x2F
null_qualifier Kind.Decimal = 0x5F
null_qualifier Kind.Timestamp = 0x6F
null_qualifier Kind.Symbol = 0x7F
null_qualifier Kind.String = 0x8F
null_qualifier Kind.Clob = 0x9F
null_qualifier Kind.Blob = 0xAF
null_qualifier Kind.List = 0xBF
null_qualifier Kind.Sexp = 0xCF
null_qualifier Kind.Struct = 0xDF

abbrev pub int_qualifier : ℤ → ℕ
int_qualifier n = if is_below_zero n then 0x30 else 0x20

-- the coefficient is negative, be it zero or not
abbrev pub is_negative_decimal : DecimalParts → Bool
is_negative_decimal d = d.negative_zero || is_below_zero d.coefficient

-- the exponent and the coefficient; that the positive zero with the exponent 0 has no bytes is the rule of Ion 1.0
-- ("5: Decimal")
abbrev pub decimal_bytes : DecimalParts → List ℕ
decimal_bytes d =
    if (unsigned_abs d.exponent == 0) && (unsigned_abs d.coefficient == 0) && not d.negative_zero then []
    else var_int (is_below_zero d.exponent) (unsigned_abs d.exponent)
    ++ int_field (is_negative_decimal d) (unsigned_abs d.coefficient)

abbrev pub symbol_bytes : List ℕ → List ℕ
symbol_bytes text = scalar 0x70 text

-- a hash among hashes in order, before the first that it does not exceed
unfoldable pub put_in_order : List ℕ → List (List ℕ) → List (List ℕ)
put_in_order hash [] = hash ∷ []
put_in_order hash (next ∷ rest) =
    if is_lt (slice_cmp nat_cmp next hash) then next ∷ put_in_order hash rest else hash ∷ next ∷ rest

-- the hashes in the order of their unsigned bytes from the first, repeated ones included
unfoldable pub in_order : List (List ℕ) → List (List ℕ)
in_order [] = []
in_order (hash ∷ rest) = put_in_order hash (in_order rest)

abbrev pub joined : List (List ℕ) → List ℕ
joined pieces = flat_map (λ piece. piece) pieces

-- the hash of a field: of its name as a symbol, and of its value
unfoldable pub field_digest : List ℕ → List ℕ → List ℕ
field_digest name value = sha256 (symbol_bytes name ++ value)

-- a struct, from the hashes of its fields
abbrev pub struct_bytes : List (List ℕ) → List ℕ
struct_bytes hashes = framed 0xD0 (escape (joined (in_order hashes)))

-- one level, with each value inside already serialized, and each field hashed
abbrev pub body_step : Body-F (List ℕ) (List ℕ) (List ℕ) → List ℕ
body_step (Body-F.Null kind) = framed (null_qualifier kind) []
body_step (Body-F.Bool truth) = framed (if truth then 0x11 else 0x10) []
body_step (Body-F.Int n) = scalar (int_qualifier n) (magnitude (unsigned_abs n))
body_step (Body-F.Decimal d) = scalar 0x50 (decimal_bytes d)
body_step (Body-F.Timestamp t) = scalar 0x60 (timestamp_bytes t)
body_step (Body-F.Symbol text) = symbol_bytes text
body_step (Body-F.String text) = scalar 0x80 text
body_step (Body-F.Clob bytes) = scalar 0x90 bytes
body_step (Body-F.Blob bytes) = scalar 0xA0 bytes
body_step (Body-F.List values) = framed 0xB0 (joined values)
body_step (Body-F.Sexp values) = framed 0xC0 (joined values)
body_step (Body-F.Struct hashes) = struct_bytes hashes

abbrev pub field_step : Field-F (List ℕ) (List ℕ) (List ℕ) → List ℕ
field_step f = field_digest f.name f.value

-- the annotations as symbols and then the value without them, in one frame; without annotations, the value alone
abbrev pub annotated : List (List ℕ) → List ℕ → List ℕ
annotated [] value = value
annotated (name ∷ more) value = framed 0xE0 (flat_map symbol_bytes (name ∷ more) ++ value)

abbrev pub value_step : Value-F (List ℕ) (List ℕ) (List ℕ) → List ℕ
value_step v = annotated v.annotations v.body

abbrev pub serialize : Value → List ℕ
serialize = fold-Value (List ℕ) (List ℕ) (List ℕ) body_step field_step value_step

-- the same of a value without annotations
abbrev pub serialize_body : Body → List ℕ
serialize_body = fold-Body (List ℕ) (List ℕ) (List ℕ) body_step field_step value_step

-- the hash of a field
abbrev pub field_hash : Field → List ℕ
field_hash = fold-Field (List ℕ) (List ℕ) (List ℕ) body_step field_step value_step

-- the hash of a value
unfoldable pub hash_of : Value → Hash32
hash_of v = record { bytes = sha256 (serialize v) }

-- the hash of a struct without annotations, from the hashes of its fields
unfoldable pub struct_hash : List (List ℕ) → Hash32
struct_hash hashes = record { bytes = sha256 (struct_bytes hashes) }
