-- The text of an item of a footprint and of a key, in Ion 1.0 text and by the ledger's own rule.
use Rattle.std.specs.Prelude.{ℕ, List, ◌∷◌, ◌++◌, [], codes, ℤ}
use Rattle.std.specs.Fmt.{signed_decimal}
use Rattle.ion_values.specs.declared.value.Key.{Key}
use Rattle.ion_values.specs.declared.value.Key.TheVariants as key
use Rattle.ion_model.specs.Write.{bool_text, string_text, clob_text, blob_text}
use Rattle.ql_types.specs.Ids.{id_text}
use Rattle.ql_types.specs.declared.DocId.{DocId}
use Rattle.ql_types.specs.declared.TableId.{TableId}
use Rattle.ledger_model.specs.declared.outcome.Item.{Item}
use Rattle.ledger_model.specs.declared.outcome.Item.TheVariants as item
use Rattle.ledger_model.specs.Moment.{moment_text}

abbrev pub quoted_id : ℕ → List ℕ
quoted_id raw = (34 ∷ id_text raw) ++ 34 ∷ []

-- the coefficient, `d`, the exponent, which may be outside the limits of a decimal
abbrev pub number_text : ℤ → ℤ → List ℕ
number_text coefficient exponent = signed_decimal coefficient ++ 100 ∷ signed_decimal exponent

abbrev pub key_text : Key → List ℕ
key_text (key.Bool truth) = bool_text truth
key_text (key.Number coefficient exponent) = number_text coefficient exponent
key_text (key.Text text) = string_text text
key_text (key.Moment moment) = moment_text moment
key_text (key.Clob bytes) = clob_text bytes
key_text (key.Blob bytes) = blob_text bytes

abbrev pub table_text : TableId → List ℕ
table_text table = codes "kind:table,table:" ++ quoted_id table.raw

abbrev pub doc_text : TableId → DocId → List ℕ
doc_text table id = codes "kind:doc,table:" ++ quoted_id table.raw ++ codes ",id:" ++ quoted_id id.raw

abbrev pub index_value_text : TableId → List ℕ → Key → List ℕ
index_value_text table field k =
    codes "kind:index_value,table:" ++ quoted_id table.raw ++ codes ",field:" ++ string_text field ++ codes ",value:"
    ++ key_text k

-- the fields of an item
abbrev pub item_text : Item → List ℕ
item_text (item.TableName name) = codes "kind:table_name,name:" ++ string_text name
item_text item.TableList = codes "kind:table_list"
item_text (item.Table table) = table_text table
item_text (item.Doc table id) = doc_text table id
item_text (item.IndexValue table field k) = index_value_text table field k
