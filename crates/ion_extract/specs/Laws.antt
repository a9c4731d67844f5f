-- The serialization of a value (Ion Hash 1.0 specification, "Serialization") determines it, kind by kind, and
-- equivalent values have one serialization.
use Rattle.std.specs.Prelude.{ℕ, ℤ, ◌≡◌, ◌++◌, true, List, map, length, unsigned_abs, IsTrue}
use Rattle.std.specs.List.{All}
use Rattle.ion_values.specs.declared.value.Kind.{Kind}
use Rattle.ion_values.specs.declared.value.Value.{Value}
use Rattle.ion_values.specs.declared.value.Field.{Field}
use Rattle.ion_values.specs.declared.value.Body.{Body, out-Body}
use Rattle.ion_values.specs.declared.value.Body.TheOpen.{Body-F}
use Rattle.ion_values.specs.Equivalent.{in_any_order, is_equivalent, is_equivalent_body, is_equivalent_field}
use Rattle.ion_values.specs.Within.{body_within}
use Rattle.hash_model.specs.Numbers.{magnitude}
use Rattle.hash_model.specs.Serialize.{annotated, escape, field_hash, framed, in_order, int_qualifier, joined, null_qualifier, serialize, serialize_body, symbol_bytes}

-- ---- frames

-- escaped bytes determine the bytes
abbrev pub EscapeIsInjective : Type 0
EscapeIsInjective = (xs ys : List ℕ) → escape xs ≡ escape ys → xs ≡ ys

-- a frame determines its type qualifier and its content
abbrev pub FrameIsInjective : Type 0
FrameIsInjective = (p q : ℕ) (xs ys : List ℕ) → framed p xs ≡ framed q ys → (p ≡ q) × (xs ≡ ys)

-- values that begin the same bytes have one serialization, and the same bytes follow it
abbrev pub SerializeIsPrefixFree : Type 0
SerializeIsPrefixFree =
    (v w : Value) (r s : List ℕ) → serialize v ++ r ≡ serialize w ++ s → (serialize v ≡ serialize w) × (r ≡ s)

-- the serializations of members, one after the other, determine each of them
abbrev pub JoinedIsInjective : Type 0
JoinedIsInjective =
    (vs ws : List Value) → joined (map serialize vs) ≡ joined (map serialize ws) → map serialize vs ≡ map serialize ws

-- ---- scalars

-- a null's type qualifier determines its type
abbrev pub NullQualifierIsInjective : Type 0
NullQualifierIsInjective = (a b : Kind) → null_qualifier a ≡ null_qualifier b → a ≡ b

-- an int's type qualifier determines its sign
abbrev pub IntIsInjective : Type 0
IntIsInjective =
    (a b : ℤ) → int_qualifier a ≡ int_qualifier b → magnitude (unsigned_abs a) ≡ magnitude (unsigned_abs b) → a ≡ b

-- ---- annotations

-- annotations and the value without them are determined, since the last frame is the value's
abbrev pub AnnotatedIsInjective : Type 0
AnnotatedIsInjective =
    (xs ys : List (List ℕ)) (a b : Body) → annotated xs (serialize_body a) ≡ annotated ys (serialize_body b)
    → (xs ≡ ys) × (serialize_body a ≡ serialize_body b)

-- ---- structs

-- hashes of 32 bytes, joined, determine the hashes
abbrev pub JoinedHashesAreInjective : Type 0
JoinedHashesAreInjective =
    (xs ys : List (List ℕ)) → All (λ x. length x ≡ 32) xs → All (λ y. length y ≡ 32) ys → joined xs ≡ joined ys
    → xs ≡ ys

-- what a field's hash is the hash of determines the name, and the value as far as its serialization does
abbrev pub FieldFormIsInjective : Type 0
FieldFormIsInjective =
    (f g : Field) → symbol_bytes f.name ++ serialize f.value ≡ symbol_bytes g.name ++ serialize g.value
    → (f.name ≡ g.name) × (serialize f.value ≡ serialize g.value)

-- fields of one hash are equivalent
abbrev pub AreOne : Field → Field → Type 0
AreOne f g = field_hash f ≡ field_hash g → is_equivalent_field f g ≡ true

-- one list of hashes in order determines the fields as a multiset, where those of one hash are equivalent
abbrev pub HashesDetermineFields : Type 0
HashesDetermineFields =
    (fs gs : List Field) → in_order (map field_hash fs) ≡ in_order (map field_hash gs) → All (λ f. All (AreOne f) gs) fs
    → in_any_order (map is_equivalent_field fs) gs ≡ true

-- ---- bodies

-- what one serialization determines of two bodies: lists and sexps have members of equal serialization, structs have
-- fields of equal hashes, and all others are equivalent
abbrev pub BodiesAgree : Body-F Body Field Value → Body-F Body Field Value → Type 0 → Type 0
BodiesAgree (Body-F.List vs) (Body-F.List ws) Others = map serialize vs ≡ map serialize ws
BodiesAgree (Body-F.Sexp vs) (Body-F.Sexp ws) Others = map serialize vs ≡ map serialize ws
BodiesAgree (Body-F.Struct fs) (Body-F.Struct gs) Others = in_order (map field_hash fs) ≡ in_order (map field_hash gs)
BodiesAgree _ _ Others = Others

abbrev pub BytesDetermineBodies : Type 0
BytesDetermineBodies =
    (a b : Body) → IsTrue (body_within a) → IsTrue (body_within b) → serialize_body a ≡ serialize_body b
    → BodiesAgree (out-Body a) (out-Body b) (is_equivalent_body a b ≡ true)

-- two bodies within their types that have one serialization
abbrev pub AreAlike : Body → Body → Type 0
AreAlike a b = (serialize_body a ≡ serialize_body b) × IsTrue (body_within a) × IsTrue (body_within b)

-- ---- and back

-- equivalent values have one serialization
abbrev pub EquivalentSerializeAlike : Type 0
EquivalentSerializeAlike = (v w : Value) → is_equivalent v w ≡ true → serialize v ≡ serialize w
