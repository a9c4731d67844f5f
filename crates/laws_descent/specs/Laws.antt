-- The lengths of serializations (Ion Hash 1.0 specification, "Serialization"), and what equivalent headers agree in
-- (Ion 1.0, "The Ion data model").
use Rattle.std.specs.Prelude.{ℕ, ◌<◌, ◌≡◌, true, List, [], ◌∷◌, length}
use Rattle.ion_values.specs.Equivalent.{is_equivalent}
use Rattle.ion_values.specs.declared.value.Field.{Field}
use Rattle.hash_model.specs.Serialize.{field_hash, serialize, struct_bytes}
use Rattle.ledger_model.specs.declared.block.Header.{Header}
use Rattle.ledger_model.specs.Journal.{header_value, id_value, structure}

-- ---- lengths: a pair of hashes is 64 bytes

-- as a header and metadata are
abbrev pub FourFieldsAreLong : Type 0
FourFieldsAreLong = (f g h i : Field) → 64 < length (serialize (structure (f ∷ g ∷ h ∷ i ∷ [])))

-- and what a transaction said and did, by the hashes of its fields, of which one may stand for its field
abbrev pub FourHashesAreLong : Type 0
FourHashesAreLong =
    (a b c d : List ℕ) → length a ≡ 32 → length b ≡ 32 → length c ≡ 32 → length d ≡ 32
    → 64 < length (struct_bytes (a ∷ b ∷ c ∷ d ∷ []))

-- a field's hash has 32 bytes
abbrev pub FieldHashesAreLong : Type 0
FieldHashesAreLong = (f : Field) → length (field_hash f) ≡ 32

abbrev pub IdsAreShort : Type 0
IdsAreShort = (raw : ℕ) → length (serialize (id_value raw)) < 64

-- ---- names of fields

abbrev pub HeadersAgree : Type 0
HeadersAgree =
    (a b : Header) → is_equivalent (header_value a) (header_value b) ≡ true
    → (a.address.sequence ≡ b.address.sequence) × (a.revisions ≡ b.revisions)
