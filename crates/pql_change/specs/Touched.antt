-- Changes and documents in memory.
use Rattle.std.specs.Prelude.{ℕ, List, map}
use Rattle.ion_values.specs.declared.value.Value.{Value}
use Rattle.ql_types.specs.declared.DocId.{DocId}
use Rattle.pql_model.specs.declared.expr.Path.{Path}
use Rattle.pql_model.specs.declared.tables.Row.{Row}
use Rattle.pql_model.specs.Changes as changes
use Rattle.pql_model.specs.Meaning.{Context}
use Rattle.pql_change.specs.declared.documents.Alteration.{Alteration}
use Rattle.pql_change.specs.declared.documents.Alteration.TheVariants as alteration

abbrev pub target_of : Alteration → Path
target_of (alteration.Set s) = s.now.target
target_of (alteration.Insert target value at) = target.now
target_of (alteration.Remove target) = target.now

abbrev pub alteration_of : Context → Alteration → changes.Alteration
alteration_of c (alteration.Set s) = changes.setting c s.now
alteration_of c (alteration.Insert target value at) =
    record { target = target.now; made = changes.insert_by c target.now value.now at.now }
alteration_of c (alteration.Remove target) = record { target = target.now; made = changes.remove_by c target.now }

abbrev pub document_of : DocId → Value → Row
document_of id v = record { id = id; value = v }

abbrev pub row_of : ℕ × Value → Row
row_of e = record { id = record { raw = e.0 }; value = e.1 }

-- the documents by their ids, as rows
abbrev pub rows_in : List (ℕ × Value) → List Row
rows_in entries = map row_of entries

abbrev pub id_of : ℕ → DocId
id_of raw = record { raw = raw }

abbrev pub ids_in : List ℕ → List DocId
ids_in keys = map id_of keys
