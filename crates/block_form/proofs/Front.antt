-- What stands in front of a block's hashes, in the value of its header.
use Rattle.std.proofs.Common.{◌≡◌, ◌∙◌, List, [], ◌∷◌, ◌++◌, Some, None, take, ap, sym, codes}
use Rattle.ion_values.specs.declared.value.Value.{Value}
use Rattle.ion_values.specs.declared.value.Field.{Field}
use Rattle.ledger_model.specs.declared.block.Header.{Header}
use Rattle.ledger_model.specs.Values.{field, fields_in}
use Rattle.ledger_model.specs.Journal.{front_fields, header_value, number}
use Rattle.value_codec.proofs.SmallParts.{fields-puts}

-- the fields of a header's value
abbrev header_fields : Header → List Field
header_fields h = front_fields h ++ field (codes "revisionCount") (number h.revisions) ∷ []

some_is : {A : Type 0} (a b : A) → Some a ≡ Some b → a ≡ b
some_is a b e = cc

none_is_not : {A : Type 0} (a b c : A) → None ≡ Some a → b ≡ c
none_is_not a b c e = cc

-- the first three fields of a header's value stand in front of a block's hashes
pub front_is : (h : Header) (head : Value) (fields : List Field) → head ≡ header_value h → fields_in head ≡ Some fields
    → take 3 fields ≡ front_fields h
front_is h head fields e some = ap (take 3) (some_is fields (header_fields h) (sym some ∙ ap fields_in e ∙ fields-puts (header_fields h)))

-- a header's value has fields
pub has_fields : (h : Header) (head : Value) (fields : List Field) → head ≡ header_value h → fields_in head ≡ None
    → fields ≡ front_fields h
has_fields h head fields e none = none_is_not (header_fields h) fields (front_fields h) (sym none ∙ ap fields_in e ∙ fields-puts (header_fields h))
