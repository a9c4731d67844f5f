-- What stands in front of a block's revisions, in its value.
use Rattle.std.proofs.Common.{◌≡◌, ◌∙◌, List, [], ◌∷◌, ◌++◌, map, take, Some, None, ap, sym, codes}
use Rattle.ion_values.specs.declared.value.Value.{Value}
use Rattle.ion_values.specs.declared.value.Field.{Field}
use Rattle.ledger_model.specs.declared.block.Block.{Block}
use Rattle.ledger_model.specs.Values.{field, fields_in}
use Rattle.ledger_model.specs.Journal.{structure, list, front_fields, hash_fields, info_value, revision_value, block_value}
use Rattle.value_codec.proofs.SmallParts.{fields-puts}
use Rattle.stream_out.specs.declared.record.Summary.{Summary}
use Rattle.stream_out.specs.Records.{stood_in, listed_value, summary_fields, summary_value}

some_is : {A : Type 0} (a b : A) → Some a ≡ Some b → a ≡ b
some_is a b e = cc

none_is_not : {A : Type 0} (a b c : A) → None ≡ Some a → b ≡ c
none_is_not a b c e = cc

pub front_is : (v : Value) (fields found : List Field) → v ≡ structure fields → fields_in v ≡ Some found → take 8 found ≡ take 8 fields
front_is v fields found e some = ap (λ (fs : List Field). take 8 fs) (some_is found fields (sym some ∙ ap fields_in e ∙ fields-puts fields))

pub no_fields : (v : Value) (fields made : List Field) → v ≡ structure fields → fields_in v ≡ None → made ≡ take 8 fields
no_fields v fields made e none = none_is_not fields made (take 8 fields) (sym none ∙ ap fields_in e ∙ fields-puts fields)

abbrev block_fields : Block → List Field
block_fields b =
    front_fields b.header ++ hash_fields b
    ++ field (codes "transactionInfo") (info_value b.info b.revisions)
    ∷ field (codes "revisions") (list (map revision_value b.revisions)) ∷ []

pub summary_front : (s : Summary) (v : Value) (made : List Field) → v ≡ block_value (stood_in s)
    → ((fields : List Field) → v ≡ structure fields → made ≡ take 8 fields) → made ≡ summary_fields s
summary_front s v made e front = front (block_fields (stood_in s)) e

pub summary_made : (s : Summary) (listed : List Value) (fields made : List Field) (items v : Value) → listed ≡ map listed_value s.listed
    → fields ≡ summary_fields s → items ≡ list listed → made ≡ fields ++ field (codes "revisionSummaries") items ∷ [] → v ≡ structure made → v ≡ summary_value s
summary_made s listed fields made items v all front is more value =
    value
    ∙ ap structure (more ∙ ap (λ (fs : List Field). fs ++ field (codes "revisionSummaries") items ∷ []) front
    ∙ ap (λ (x : Value). summary_fields s ++ field (codes "revisionSummaries") x ∷ []) (is ∙ ap list all))
