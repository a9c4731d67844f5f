-- The lines that answer events, each in Ion 1.0 text with a line feed behind it.
use Rattle.std.specs.Prelude.{ℕ, ◌-◌, List, [], ◌∷◌, ◌++◌, map, length, slice_get, codes, Option, Some, None}
use Rattle.std.specs.Fmt.{decimal}
use Rattle.ion_values.specs.declared.value.Value.{Value}
use Rattle.ion_model.specs.Timestamp.{timestamp_text}
use Rattle.ion_model.specs.Write.{blob_text, joined, string_text, value_text}
use Rattle.ql_types.specs.declared.Hash32.{Hash32}
use Rattle.ledger_model.specs.declared.block.Block.{Block}
use Rattle.ledger_model.specs.declared.outcome.Item.{Item}
use Rattle.ledger_model.specs.declared.outcome.Named.{Named}
use Rattle.ledger_model.specs.declared.outcome.Refusal.{Refusal}
use Rattle.ledger_model.specs.ItemText.{quoted_id, item_text}
use Rattle.ledger_model.specs.CauseText.{cause_text}
use Rattle.ion_values.specs.declared.time.TimeParts.{TimeParts}

-- a brace and the line's end
abbrev pub ending : List ℕ
ending = codes "}" ++ 10 ∷ []

-- ---- lines of a name or a number

abbrev pub told : List ℕ → List ℕ → List ℕ
told said name = said ++ string_text name ++ ending

abbrev pub counted : List ℕ → ℕ → List ℕ
counted said number = said ++ decimal number ++ ending

abbrev pub ended : List ℕ → List ℕ
ended name = told (codes "{ended:") name

abbrev pub aborted : List ℕ → List ℕ
aborted name = told (codes "{aborted:") name

abbrev pub nothing : List ℕ → List ℕ
nothing name = told (codes "{nothing:") name

abbrev pub ids_spent : ℕ → List ℕ
ids_spent number = counted (codes "{ids_spent:") number

abbrev pub bad_event : ℕ → List ℕ
bad_event at = counted (codes "{bad_event:") at

abbrev pub journal_full : ℕ → List ℕ
journal_full blocks = counted (codes "{journal_full:") blocks

abbrev pub store_fault : ℕ → List ℕ
store_fault count = counted (codes "{store_fault:") count

-- ---- a begin and a statement

abbrev pub begun : List ℕ → ℕ → ℕ → List ℕ
begun name tx since =
    codes "{begun:" ++ string_text name ++ codes ",tx:" ++ quoted_id tx ++ codes ",since:" ++ decimal since ++ ending

abbrev pub answer : List Value → List ℕ
answer rows = codes "{answer:[" ++ joined (map value_text rows) ++ codes "]" ++ ending

abbrev pub refused : Refusal → List ℕ
refused cause = codes "{refused:{" ++ cause_text cause ++ codes "}" ++ ending

-- ---- a commit

abbrev pub braced : Item → List ℕ
braced i = codes "{" ++ item_text i ++ codes "}"

abbrev pub footprint : List Item → List ℕ
footprint items = joined (map braced items)

-- what the transaction read, at the line's end
abbrev pub read : List ℕ → List ℕ
read items = codes ",footprint:[" ++ items ++ codes "]" ++ ending

abbrev pub committed : ℕ → Hash32 → TimeParts → List ℕ → List ℕ
committed block hash time items =
    codes "{committed:" ++ decimal block ++ codes ",hash:" ++ blob_text hash.bytes ++ codes ",time:"
    ++ timestamp_text time ++ read items

abbrev pub conflict : ℕ → Named → List ℕ → List ℕ
conflict since named items =
    codes "{conflict:{since:" ++ decimal since ++ codes ",block:" ++ decimal named.block ++ codes ",item:"
    ++ braced named.item ++ codes "}" ++ read items

abbrev pub digest_differs : Hash32 → Hash32 → List ℕ
digest_differs mine given =
    codes "{digest_differs:{mine:" ++ blob_text mine.bytes ++ codes ",given:" ++ blob_text given.bytes
    ++ codes "}" ++ ending

-- ---- the last line

abbrev pub tip_of : Option Block → List ℕ
tip_of None = []
tip_of (Some b) = codes ",tip:" ++ blob_text b.hash.bytes

-- of the last block
abbrev pub tip : List Block → List ℕ
tip bs = tip_of (slice_get bs (length bs - 1))

abbrev pub blocks : List Block → List ℕ
blocks bs = codes "{blocks:" ++ decimal (length bs) ++ tip bs ++ ending
