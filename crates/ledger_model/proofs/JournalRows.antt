-- Rows of parts of blocks with their texts.
use Rattle.std.proofs.Common.{◌≡◌, ◌++◌, codes, rules}
use Rattle.std.specs.Fmt.{digits}
use Rattle.ion_values.specs.declared.value.Body.TheFolds.{the_lemmas}
use Rattle.ion_model.specs.Write.{value_text}
use Rattle.ql_types.specs.Ids.{digits_of}
use Rattle.ledger_model.specs.declared.block.Schema.TheVariants.{Redact}
use Rattle.ledger_model.specs.Journal.{schema_value}

-- the revision of document 2 of table 1 in block 3
redact :
    value_text (schema_value (Redact (record { strand = record { raw = 0 }; sequence = 3 }) (record { raw = 1 })
    (record { raw = 2 })))
    ≡ codes "{redact:{strandId:\"0000000000000000000000\",sequenceNo:3},"
    ++ codes "tableId:\"0000000000000000000001\",documentId:\"0000000000000000000002\"}"
unfolding digits digits_of
redact = search (rules, the_lemmas)
