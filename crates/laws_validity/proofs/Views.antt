-- The rows of a view don't nest too deep.
use Rattle.std.proofs.Common.{◌≡◌, ◌≤◌, ◌==◌, ℕ, List, [], ◌∷◌, ◌++◌, map, Option, Some, None, refl, arith}
use Rattle.std.specs.Prelude.{codes, option_and_then, option_map}
use Rattle.std.specs.List.{AllByRecursion, filter_map, cons_option}
use Rattle.std.proofs.lemmas.Bool.{cond_both}
use Rattle.ion_values.specs.Depth.{deepest, field_depth}
use Rattle.ion_values.specs.declared.time.TimeParts.{TimeParts}
use Rattle.ion_values.specs.declared.value.Field.{Field}
use Rattle.ion_values.specs.declared.value.Value.{Value}
use Rattle.pql_model.specs.declared.tables.Row.{Row}
use Rattle.ql_types.specs.Ids.{id_text}
use Rattle.ql_types.specs.declared.BlockAddress.{BlockAddress}
use Rattle.ql_types.specs.declared.DocId.{DocId}
use Rattle.ql_types.specs.declared.TableId.{TableId}
use Rattle.ledger_model.specs.declared.block.Content.{Content}
use Rattle.ledger_model.specs.declared.block.Content.TheVariants.{Deleted, Kept, Redacted}
use Rattle.ledger_model.specs.declared.block.Draft.{Draft}
use Rattle.ledger_model.specs.declared.block.Metadata.{Metadata}
use Rattle.ledger_model.specs.declared.block.Revision.{Revision}
use Rattle.ledger_model.specs.CommittedViews.{committed_row, committed_view, history_view, is_historic, row_showing}
use Rattle.ledger_model.specs.Follows.{latest_of}
use Rattle.ledger_model.specs.Journal.{address_value, data_fields, hash_value, id_value, metadata_value, moment, number, revision_value, string}
use Rattle.ledger_model.specs.State.{Recorded, draft_of}
use Rattle.ledger_model.specs.Views.{latest, live, row_of, user_view}
use Rattle.laws_validity.proofs.Lists.{all_append, all_mapped}
use Rattle.ledger_model.specs.Values.{field}
use Rattle.laws_validity.proofs.Following.{latest_like}
use Rattle.laws_validity.proofs.Latest.{all_latest}
use Rattle.laws_validity.proofs.Shapes.{Shallow, depth_blob, depth_field, depth_moment, depth_number, depth_string, depth_structure}
use Rattle.laws_validity.proofs.Parts.{ShallowContent}

-- ---- rows

RowShallow : Option Row → Type 0
RowShallow (Some row) = Shallow 64 row.value
RowShallow None = Unit {0}

live_shallow : (id : DocId) (c : Content) → ShallowContent c → RowShallow (live id c)
unfolding RowShallow
live_shallow id Deleted h = tt
live_shallow id (Kept v) h = h
live_shallow id (Redacted hash) h = tt

row_shallow : (table : TableId) (d : Draft) → ShallowContent d.content → RowShallow (row_of table d)
unfolding RowShallow
row_shallow table d h =
    cond_both (d.table.raw == table.raw) (live d.id d.content) None RowShallow (λ _. live_shallow d.id d.content h)
    (λ _. tt)

one_row : (o : Option Row) (rest : List Row) → RowShallow o → AllByRecursion (λ r. Shallow 64 r.value) rest
    → AllByRecursion (λ r. Shallow 64 r.value) (cons_option o rest)
unfolding RowShallow
one_row None rest h k = k
one_row (Some x) rest h k = (h, k)

rows_shallow : (table : TableId) (ds : List Draft) → AllByRecursion (λ d. ShallowContent d.content) ds
    → AllByRecursion (λ r. Shallow 64 r.value) (filter_map (row_of table) ds)
unfolding RowShallow
rows_shallow table [] h = tt
rows_shallow table (d ∷ ds) h = one_row (row_of table d) _ (row_shallow table d h.0) (rows_shallow table ds h.1)

committed_shallow : (rs : List Recorded) → AllByRecursion (λ r. ShallowContent r.revision.content) rs
    → AllByRecursion (λ d. ShallowContent d.content) (map draft_of rs)
committed_shallow rs h = all_mapped (λ d. ShallowContent d.content) draft_of rs h

-- each row of a user view is a document of its revisions
pub view_shallow : (table : TableId) (committed : List Recorded) (pending : List Draft)
    → AllByRecursion (λ r. ShallowContent r.revision.content) committed
    → AllByRecursion (λ d. ShallowContent d.content) pending
    → AllByRecursion (λ r. Shallow 64 r.value) (user_view table (map draft_of committed) pending)
view_shallow table committed pending h k =
    let drafts = map draft_of committed ++ pending in
    let each = all_append (λ d. ShallowContent d.content) (map draft_of committed) pending
    (committed_shallow committed h) k in
    rows_shallow table (latest drafts) (all_latest (λ d. ShallowContent d.content) drafts each)

-- ---- the rows that show whole revisions

string_shallow : (name text : List ℕ) → field_depth (field name (string text)) ≤ 0
string_shallow name text =
    let e = depth_field (field name (string text)) in let d = depth_string text in omega (arith, e, d)

number_shallow : (name : List ℕ) (n : ℕ) → field_depth (field name (number n)) ≤ 0
number_shallow name n = let e = depth_field (field name (number n)) in let d = depth_number n in omega (arith, e, d)

moment_shallow : (name : List ℕ) (t : TimeParts) → field_depth (field name (moment t)) ≤ 0
moment_shallow name t = let e = depth_field (field name (moment t)) in let d = depth_moment t in omega (arith, e, d)

address_shallow : (a : BlockAddress) → Shallow 1 (address_value a)
address_shallow a =
    let fields = field (codes "strandId") (id_value a.strand.raw) ∷ field (codes "sequenceNo") (number a.sequence)
    ∷ [] in
    let e = depth_structure fields in
    let strand = string_shallow (codes "strandId") (id_text a.strand.raw) in
    let sequence = number_shallow (codes "sequenceNo") a.sequence in
    omega (arith, e, strand, sequence)

metadata_shallow : (m : Metadata) → Shallow 1 (metadata_value m)
metadata_shallow m =
    let fields = field (codes "id") (id_value m.id.raw) ∷ field (codes "version") (number m.version)
    ∷ field (codes "txTime") (moment m.time) ∷ field (codes "txId") (id_value m.tx.raw) ∷ [] in
    let e = depth_structure fields in
    let id = string_shallow (codes "id") (id_text m.id.raw) in
    let version = number_shallow (codes "version") m.version in
    let time = moment_shallow (codes "txTime") m.time in
    let tx = string_shallow (codes "txId") (id_text m.tx.raw) in
    omega (arith, e, id, version, time, tx)

data_shallow : (c : Content) (behind : List Field) → ShallowContent c → deepest (map field_depth behind) ≤ 64
    → deepest (map field_depth (data_fields c ++ behind)) ≤ 64
data_shallow Deleted behind h k = k
data_shallow (Kept v) behind h k = let e = depth_field (field (codes "data") v) in omega (arith, e, h, k)
data_shallow (Redacted hash) behind h k =
    let e = depth_field (field (codes "dataHash") (hash_value hash)) in
    let d = depth_blob hash.bytes in
    omega (arith, e, d, k)

revision_shallow : (r : Revision) → ShallowContent r.content → Shallow 65 (revision_value r)
revision_shallow r h =
    let behind = field (codes "metadata") (metadata_value r.metadata) ∷ [] in
    let fields = (field (codes "blockAddress") (address_value r.address) ∷ field (codes "hash") (hash_value r.hash)
    ∷ [])
    ++ data_fields r.content ++ behind in
    let e = depth_structure fields in
    let front = depth_field (field (codes "blockAddress") (address_value r.address)) in
    let a = address_shallow r.address in
    let hashed = depth_field (field (codes "hash") (hash_value r.hash)) in
    let blob = depth_blob r.hash.bytes in
    let back = depth_field (field (codes "metadata") (metadata_value r.metadata)) in
    let m = metadata_shallow r.metadata in
    let shown = data_shallow r.content behind h (omega (arith, back, m)) in
    omega (arith, e, front, a, hashed, blob, shown)

abbrev HasShallow : Recorded → Type 0
HasShallow r = ShallowContent r.revision.content

shown_shallow : (o : Option Recorded) (rest : List Row) → ((r : Recorded) → o ≡ Some r → HasShallow r)
    → AllByRecursion (λ r. Shallow 65 r.value) rest
    → AllByRecursion (λ r. Shallow 65 r.value) (cons_option (option_map row_showing o) rest)
shown_shallow None rest h k = k
shown_shallow (Some r) rest h k = (revision_shallow r.revision (h r refl), k)

committed_rows : (table : TableId) (revisions : List Recorded) (ds : List Draft) → AllByRecursion HasShallow revisions
    → AllByRecursion (λ r. Shallow 65 r.value) (filter_map (committed_row table revisions) ds)
committed_rows table revisions [] h = tt
committed_rows table revisions (d ∷ ds) h = by_row (committed_rows table revisions ds h) (row_of table d) where
  by_row : AllByRecursion (λ r. Shallow 65 r.value) (filter_map (committed_row table revisions) ds) → (o : Option Row)
      → AllByRecursion (λ r. Shallow 65 r.value)
      (cons_option (option_and_then (λ (row : Row). option_map row_showing (latest_of revisions row.id.raw)) o)
      (filter_map (committed_row table revisions) ds))
  by_row rest None = rest
  by_row rest (Some row) =
      shown_shallow (latest_of revisions row.id.raw) _
      (λ r e. latest_like HasShallow revisions row.id.raw r h e) rest

-- each row of a committed view shows one of the revisions
pub committed_view_shallow : (table : TableId) (revisions : List Recorded) → AllByRecursion HasShallow revisions
    → AllByRecursion (λ r. Shallow 65 r.value) (committed_view table revisions)
committed_view_shallow table revisions h = committed_rows table revisions (latest (map draft_of revisions)) h

-- and so does each row of a history
pub history_shallow : (table : TableId) (start end : Option Value) (revisions : List Recorded)
    → AllByRecursion HasShallow revisions
    → AllByRecursion (λ r. Shallow 65 r.value) (history_view table start end revisions)
history_shallow table start end [] h = tt
history_shallow table start end (r ∷ later) h =
    cond_both (is_historic table start end r later) (row_showing r ∷ history_view table start end later)
    (history_view table start end later) (AllByRecursion (λ row. Shallow 65 row.value))
    (λ _. (revision_shallow r.revision h.0, history_shallow table start end later h.1))
    (λ _. history_shallow table start end later h.1)
