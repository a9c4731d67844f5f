-- What a transaction said and did is hashed as its value where its statements are told.
use Rattle.std.proofs.Common.{◌≡◌, true, List, [], ◌∷◌, map, rules}
use Rattle.ion_values.specs.declared.value.Field.{Field}
use Rattle.ion_values.specs.declared.value.Body.TheFolds.{the_lemmas}
use Rattle.hash_model.specs.Serialize.{field_hash, hash_of, serialize, struct_bytes, struct_hash}
use Rattle.hash_model.proofs.StructHash.{struct_hash-is}
use Rattle.ledger_model.specs.declared.block.Info.{Info}
use Rattle.ledger_model.specs.declared.block.Revision.{Revision}
use Rattle.ledger_model.specs.declared.block.Told.{Told}
use Rattle.ledger_model.specs.declared.block.Told.TheVariants as told
use Rattle.ledger_model.specs.Journal.{documents_field, info_value, place_field, schema_field, structure, told_field}
use Rattle.ledger_model.specs.Seals.{info_hash, told_hash}
use Rattle.ledger_model.specs.Whole.{is_said}

struct_is : (fields : List Field) → serialize (structure fields) ≡ struct_bytes (map field_hash fields)
struct_is fields = search (rules, the_lemmas)

of_fields : (fields : List Field) → struct_hash (map field_hash fields) ≡ hash_of (structure fields)
of_fields fields = struct_hash-is (map field_hash fields) (structure fields) (struct_is fields)

of_told : (t : Told) (place schema documents : Field) → is_said t ≡ true
    → struct_hash (field_hash place ∷ told_hash t ∷ field_hash schema ∷ field_hash documents ∷ [])
    ≡ hash_of (structure (place ∷ told_field t ∷ schema ∷ documents ∷ []))
of_told (told.Said said) place schema documents e = of_fields (place ∷ told_field (told.Said said) ∷ schema ∷ documents ∷ [])
of_told (told.Hashed hash) place schema documents e = cc

said_is : (i : Info) (rs : List Revision) → is_said i.said ≡ true → info_hash i rs ≡ hash_of (info_value i rs)
unfolding info_hash
said_is i rs e = of_told i.said (place_field i) (schema_field i) (documents_field i rs) e
