-- Rows of statements that write documents, index fields and drop tables.
use Rattle.std.proofs.Common.{◌≡◌, ℕ, zero, suc, pos, true, List, [], ◌∷◌, codes, refl, rules, Some, None, Ok, Err}
use Rattle.std.specs.Fmt.{digits}
use Rattle.ion_values.specs.declared.value.Body.TheFolds.{the_lemmas}
use Rattle.ion_values.specs.declared.value.Body.TheVariants as body
use Rattle.ion_values.specs.declared.value.Field.{roll-Field}
use Rattle.ion_values.specs.declared.value.Value.{Value, roll-Value}
use Rattle.ql_types.specs.declared.DocId.{DocId}
use Rattle.ql_types.specs.declared.TableId.{TableId}
use Rattle.pql_model.specs.declared.expr.Path.{Path, roll-Path}
use Rattle.pql_model.specs.declared.expr.PathStep.TheVariants as step
use Rattle.pql_model.specs.declared.statement.Change.{Change}
use Rattle.pql_model.specs.declared.statement.Change.TheVariants as change
use Rattle.pql_model.specs.declared.statement.Source.{Source}
use Rattle.pql_model.specs.declared.statement.SourceKind.{SourceKind}
use Rattle.pql_model.specs.declared.statement.SourceKind.TheVariants as source
use Rattle.ledger_model.specs.declared.block.Content.{Content}
use Rattle.ledger_model.specs.declared.block.Content.TheVariants.{Deleted, Kept}
use Rattle.ledger_model.specs.declared.block.Draft.{Draft}
use Rattle.ledger_model.specs.declared.block.Schema.TheVariants.{Drop, Index}
use Rattle.ledger_model.specs.declared.outcome.Refusal.TheVariants.{IndexExists, NoSuchTable, ReservedName, TooManyIndexes, TooManyRevisions}
use Rattle.ledger_model.specs.Run.{Progress, final_revisions, nothing, start}
use Rattle.ledger_model.specs.SchemaChanges.{created, dropped, indexed, new_table, schema_change}
use Rattle.ledger_model.specs.State.{Indexed, State, empty}
use Rattle.ledger_model.specs.Values.{named_id}
use Rattle.ledger_model.specs.Writing.{deleted, first_own, is_root, no_room, revised, stored_changes, stored_deletes, touching}

abbrev table : ℕ → TableId
table raw = record { raw = raw }

abbrev document : ℕ → DocId
document raw = record { raw = raw }

-- the table t is active
abbrev with_indexes : List Indexed → State
with_indexes indexes =
    record empty { tables = record { name = codes "t"; id = table 5; active = true } ∷ []; indexes = indexes }

abbrev s : State
s = with_indexes []

-- ---- CREATE INDEX

abbrev on_field : List ℕ → Indexed
on_field name = record { table = table 5; field = name }

new_index : indexed s start (codes "t") (codes "a") ≡ Ok (schema_change (table 5) (Index (codes "a") (table 5)))
new_index = refl

same_field :
    indexed (with_indexes (on_field (codes "a") ∷ [])) start (codes "t") (codes "a")
    ≡ Err (IndexExists (codes "t") (codes "a"))
same_field = refl

-- the transaction's own indexes count
same_transaction :
    indexed s (record start { schema = Index (codes "a") (table 5) ∷ [] }) (codes "t") (codes "a")
    ≡ Err (IndexExists (codes "t") (codes "a"))
same_transaction = refl

-- an index of another table doesn't
other_table : indexed (with_indexes (record { table = table 6; field = codes "a" } ∷ [])) start (codes "t") (codes "a")
    ≡ Ok (schema_change (table 5) (Index (codes "a") (table 5)))
other_table = refl

abbrev five : List Indexed
five =
    on_field (codes "a") ∷ on_field (codes "b") ∷ on_field (codes "c") ∷ on_field (codes "d") ∷ on_field (codes "e")
    ∷ []

-- a table has at most five
sixth : indexed (with_indexes five) start (codes "t") (codes "f") ≡ Err (TooManyIndexes 5)
sixth = refl

-- one that is there is told first
there_first : indexed (with_indexes five) start (codes "t") (codes "e") ≡ Err (IndexExists (codes "t") (codes "e"))
there_first = refl

no_table : indexed s start (codes "u") (codes "a") ≡ Err (NoSuchTable (codes "u"))
no_table = refl

own_name : indexed s start (codes "_ql_committed_t") (codes "a") ≡ Err (ReservedName (codes "_ql_committed_t"))
own_name = refl

-- ---- DROP TABLE

drops : dropped s start (codes "t") ≡ Ok (schema_change (table 5) (Drop (codes "t") (table 5)))
drops = refl

drops_none : dropped s start (codes "u") ≡ Err (NoSuchTable (codes "u"))
drops_none = refl

drops_own : dropped s start (codes "_ql_x") ≡ Err (ReservedName (codes "_ql_x"))
drops_own = refl

abbrev after_drop : Progress
after_drop = record start { schema = Drop (codes "t") (table 5) ∷ [] }

-- it is gone for the statements behind it, and its name can be made again, with another id
gone : dropped s after_drop (codes "t") ≡ Err (NoSuchTable (codes "t"))
gone = refl

made_again : created (record { mask = 0; number = 1 }) s after_drop (codes "t") ≡ Ok (new_table 16777217 (codes "t"))
made_again = refl

-- ---- documents

abbrev plain : ℕ → Value
plain n = roll-Value (record { annotations = []; body = body.Int (pos n) })

-- `{a:5}`
abbrev content : Value
content =
    roll-Value (record {
      annotations = [];
      body = body.Struct (roll-Field (record { name = codes "a"; value = plain 5 }) ∷ []);
    })

abbrev draft : ℕ → ℕ → Content → Draft
draft id version c = record { table = table 5; id = document id; version = version; content = c }

abbrev touched : List Draft → Progress
touched log = record start { log = log }

-- the transaction has inserted the document 7 and changed the document 8
abbrev p : Progress
p = touched (draft 7 0 (Kept content) ∷ draft 8 3 (Kept content) ∷ [])

-- it makes one revision of each, however often it touches it
again : revised s p (document 7) Deleted ≡ Some (draft 7 0 Deleted)
again = refl

changed_again : revised s p (document 8) (Kept content) ≡ Some (draft 8 3 (Kept content))
changed_again = refl

-- a deleted document is touched no more, nor is one of a table that is dropped
deleted_before :
    revised s (touched (draft 7 0 (Kept content) ∷ draft 7 0 Deleted ∷ [])) (document 7) (Kept content) ≡ None
deleted_before = refl

of_dropped : revised s (record p { schema = Drop (codes "t") (table 5) ∷ [] }) (document 7) Deleted ≡ None
of_dropped = refl

unknown : touching s p (document 9) Deleted ≡ nothing
unknown = refl

-- a document that is inserted and deleted again leaves no revision, and the deleted one its last
none_left :
    final_revisions (touched (draft 7 0 (Kept content) ∷ draft 8 3 (Kept content) ∷ draft 7 0 Deleted
    ∷ draft 8 3 Deleted ∷ []))
    ≡ draft 8 3 Deleted ∷ []
none_left = refl

two_deleted : stored_deletes s p (document 8 ∷ document 7 ∷ [])
    ≡ Ok (record {
      rows = named_id (codes "documentId") 8 ∷ named_id (codes "documentId") 7 ∷ [];
      schema = [];
      log = draft 8 3 Deleted ∷ draft 7 0 Deleted ∷ [];
      made = 0;
      footprint = [];
    })
two_deleted = refl

none_deleted : stored_deletes s p [] ≡ Ok nothing
none_deleted = refl

one_changed : stored_changes s p (record { id = document 7; value = content } ∷ [])
    ≡ Ok (record {
      rows = named_id (codes "documentId") 7 ∷ [];
      schema = [];
      log = draft 7 0 (Kept content) ∷ [];
      made = 0;
      footprint = [];
    })
unfolding digits
one_changed = search (rules, the_lemmas)

-- ---- a transaction touches 40 documents

numbered : ℕ → List Draft
numbered zero = []
numbered (suc n) = draft n 1 (Kept content) ∷ numbered n

forty_first : no_room (touched (numbered 40)) (document 40) ≡ Some (TooManyRevisions 41)
unfolding numbered
forty_first = refl

-- one that was touched before needs no more room
touched_before : no_room (touched (numbered 40)) (document 0) ≡ None
unfolding numbered
touched_before = refl

fortieth : no_room (touched (numbered 39)) (document 40) ≡ None
unfolding numbered
fortieth = refl

-- ---- tables that are the ledger's own

abbrev from_kind : SourceKind → List ℕ → Source
from_kind kind variable = record { from = kind; variable = variable; id_name = None; on = None }

abbrev of_table : List ℕ → List ℕ → Source
of_table name variable = from_kind (source.Table name) variable

abbrev path : List ℕ → Path
path first = roll-Path (record { first = first; steps = step.Field (codes "a") ∷ [] })

abbrev removes : List ℕ → Change
removes first = change.Remove (path first)

-- `FROM _ql_x AS x, t REMOVE t.a` only reads it
only_read :
    first_own (is_root (of_table (codes "_ql_x") (codes "x") ∷ of_table (codes "t") (codes "t") ∷ [])
    (removes (codes "t"))) 0
    (of_table (codes "_ql_x") (codes "x") ∷ of_table (codes "t") (codes "t") ∷ []) ≡ None
only_read = refl

-- `FROM t, _ql_x AS x REMOVE x.a`
written :
    first_own (is_root (of_table (codes "t") (codes "t") ∷ of_table (codes "_ql_x") (codes "x") ∷ [])
    (removes (codes "x"))) 0
    (of_table (codes "t") (codes "t") ∷ of_table (codes "_ql_x") (codes "x") ∷ []) ≡ Some (ReservedName (codes "_ql_x"))
written = refl

-- `UPDATE _ql_x REMOVE b.a`, whose root is left out
left_out :
    first_own (is_root (of_table (codes "_ql_x") (codes "_ql_x") ∷ []) (removes (codes "b"))) 0
    (of_table (codes "_ql_x") (codes "_ql_x") ∷ [])
    ≡ Some (ReservedName (codes "_ql_x"))
left_out = refl

-- `DELETE FROM _ql_committed_t`
deletes_own :
    deleted s start [] (record {
      sources = of_table (codes "_ql_committed_t") (codes "_ql_committed_t") ∷ [];
      filter = None;
    })
    ≡ Err (ReservedName (codes "_ql_committed_t"))
deletes_own = refl

deletes_unknown :
    deleted s start [] (record { sources = of_table (codes "u") (codes "u") ∷ []; filter = None })
    ≡ Err (NoSuchTable (codes "u"))
deletes_unknown = refl
