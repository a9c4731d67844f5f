-- Each cause for which a statement is refused has a code from 1 to 12, or from 15 to 18.
use Rattle.std.proofs.Common.{◌≡◌, ◌≤◌, ℕ, ◌+◌, ◌==◌, Bool, true, false, if◌then◌else◌, List, [], ◌∷◌, length, Option, None, Some, Result, Ok, Err, arith, refl, sym, subst, inl, inr}
use Rattle.std.specs.Prelude.{IfErr, IfSome, is_some, nat_le, not}
use Rattle.ion_values.specs.declared.value.Body.{out-Body}
use Rattle.ion_values.specs.declared.value.Kind.TheVariants.{Null}
use Rattle.ion_values.specs.declared.value.Value.{Value}
use Rattle.ql_types.specs.declared.DocId.{DocId}
use Rattle.ql_types.specs.declared.TableId.{TableId}
use Rattle.pql_model.specs.Effects.{changed_documents, deleted_documents}
use Rattle.pql_model.specs.Meaning.{meaning, under}
use Rattle.pql_model.specs.Parse.{parsed}
use Rattle.pql_model.specs.Productions.{Fault}
use Rattle.pql_model.specs.declared.expr.Expr.{Expr}
use Rattle.pql_model.specs.declared.scope.Evaluated.{Evaluated}
use Rattle.pql_model.specs.declared.scope.Evaluated.TheVariants.{Missing, Found}
use Rattle.pql_model.specs.declared.statement.Change.{Change}
use Rattle.pql_model.specs.declared.statement.FromClause.{FromClause}
use Rattle.pql_model.specs.declared.statement.Select.{Select}
use Rattle.pql_model.specs.declared.statement.Source.{Source}
use Rattle.pql_model.specs.declared.statement.SourceKind.{SourceKind}
use Rattle.pql_model.specs.declared.statement.SourceKind.TheVariants as source
use Rattle.pql_model.specs.declared.statement.Statement.{Statement}
use Rattle.pql_model.specs.declared.statement.Statement.TheVariants as statement
use Rattle.pql_model.specs.declared.tables.Row.{Row}
use Rattle.ledger_model.specs.declared.block.Content.TheVariants.{Deleted, Kept}
use Rattle.ledger_model.specs.declared.block.Schema.{Schema}
use Rattle.ledger_model.specs.declared.outcome.Item.{Item}
use Rattle.ledger_model.specs.declared.outcome.Refusal.{Refusal}
use Rattle.ledger_model.specs.declared.outcome.Refusal.TheVariants.{AlreadyRedacted, DocumentTooLarge, IndexExists, NoSuchRevision, NoSuchTable, NotADocument, ParameterCount, ParseFault, ReservedName, StillLatest, TableExists, TooDeep, TooManyIndexes, TooManyRedactions, TooManyRevisions, TooManyTables}
use Rattle.ledger_model.specs.declared.script.Request.{Request}
use Rattle.ledger_model.specs.Progress.{Begun, Effect, Progress, and_then, changed_by, first_deep, has_room, is_shallow, is_small, next_id, not_kept, not_stored, on_table, or_else, reserved, start, table_now, tables_now, told_depth, unless}
use Rattle.ledger_model.specs.Run.{Ran, done_by_statement, effect_of, if_read, if_shallow, reading, recorded, refused, run_from, schemas_now, step, then_run, views_of}
use Rattle.ledger_model.specs.Footprints.{footprint_of}
use Rattle.ledger_model.specs.SchemaChanges.{active_count, created, created_count, dropped, existing, existing_index, index_count, indexed, indexes_now, no_index_more, no_table_more}
use Rattle.ledger_model.specs.Selecting.{absent_table, first_absent, selected}
use Rattle.ledger_model.specs.Inserting.{documents_in, if_documents, inserted, new_document, stored}
use Rattle.ledger_model.specs.State.{Recorded, State, Table}
use Rattle.ledger_model.specs.Statements.{is_reserved, statement_of, table_in, wanted, with_parameters}
use Rattle.ledger_model.specs.Follows.{has_index, is_latest, named_by}
use Rattle.ledger_model.specs.Values.{kind_of, is_struct}
use Rattle.ledger_model.specs.Redacting.{is_redacted_so_far, not_redacted, of_name, of_revision, redaction_count}
use Rattle.ledger_model.specs.RedactionArguments.{RevisionName, named_revision, redaction_of}
use Rattle.ledger_model.specs.Writing.{changed, deleted, first_own, has_room_for, is_root, no_room, own_table, rows_now, stored_changes, stored_deletes, touching}
use Rattle.laws_history.specs.Refusals.{HasOwnCode, StatementsAreRefused, code_of}

-- ---- causes

own : (c : Refusal) (n : ℕ) → code_of c ≡ n → 1 ≤ n → n ≤ 12 → HasOwnCode c
own c n e low high = inl (record { least = subst (λ m. 1 ≤ m) (sym e) low; most = subst (λ m. m ≤ 12) (sym e) high })

of_redaction : (c : Refusal) (n : ℕ) → code_of c ≡ n → 15 ≤ n → n ≤ 18 → HasOwnCode c
of_redaction c n e low high =
    inr (record { least = subst (λ m. 15 ≤ m) (sym e) low; most = subst (λ m. m ≤ 18) (sym e) high })

abbrev Fine : Option Refusal → Type 0
Fine o = IfSome o HasOwnCode

abbrev Ends : {A : Type 0} → Result A Refusal → Type 0
Ends r = IfErr r HasOwnCode

either : (b : Bool) (c : Refusal) (o : Option Refusal) → HasOwnCode c → Fine o → Fine (if b then Some c else o)
either true c o h k = h
either false c o h k = k

or_not : (b : Bool) (c : Refusal) → HasOwnCode c → Fine (if b then None else Some c)
or_not true c h = tt
or_not false c h = h

when : (b : Bool) (o : Option Refusal) → Fine o → Fine (if b then o else None)
when true o h = h
when false o h = tt

first_fine : (o q : Option Refusal) → Fine o → Fine q → Fine (or_else o q)
first_fine None q h k = k
first_fine (Some c) q h k = h

-- ---- effects

fine_unless : (o : Option Refusal) (r : Result Effect Refusal) → Fine o → Ends r → Ends (unless o r)
fine_unless None r h k = k
fine_unless (Some c) r h k = h

fine_then : (e : Effect) (r : Result Effect Refusal) → Ends r → Ends (and_then e r)
fine_then e (Err c) k = k
fine_then e (Ok f) k = tt

fine_on : (name : List ℕ) (t : Option TableId) (f : TableId → Result Effect Refusal) → ((x : TableId) → Ends (f x))
    → Ends (on_table name t f)
fine_on name None f k = own (NoSuchTable name) 2 refl (omega arith) (omega arith)
fine_on name (Some x) f k = k x

fine_reserved : (name : List ℕ) → Fine (reserved name)
fine_reserved name =
    either (is_reserved name) (ReservedName name) None (own (ReservedName name) 4 refl (omega arith) (omega arith)) tt

fine_large : (b : Bool) (bytes : ℕ) (o : Option Refusal) → Fine o
    → Fine (if b then Some (DocumentTooLarge bytes) else o)
fine_large b bytes o h =
    either b (DocumentTooLarge bytes) o (own (DocumentTooLarge bytes) 9 refl (omega arith) (omega arith)) h

fine_kept : (room : Bool) (v : Value) → Fine (not_kept room v)
fine_kept room v =
    either (not (is_struct (out-Body v.body))) (NotADocument (kind_of (out-Body v.body))) _
    (own (NotADocument (kind_of (out-Body v.body))) 10 refl (omega arith) (omega arith))
    (either (not (is_shallow v)) (TooDeep (told_depth v)) _
    (own (TooDeep (told_depth v)) 12 refl (omega arith) (omega arith))
    (fine_large (not (is_small v)) _ _
    (either (not room) (TooManyRevisions 41) None
    (own (TooManyRevisions 41) 8 refl (omega arith) (omega arith)) tt)))

-- ---- tables and indexes

fine_existing : (name : List ℕ) (t : Option TableId) → Fine (existing name t)
fine_existing name None = tt
fine_existing name (Some there) = own (TableExists name) 3 refl (omega arith) (omega arith)

fine_more : (tables : List Table) (changes : List Schema) → Fine (no_table_more tables changes)
fine_more tables changes =
    either (nat_le 20 (active_count tables)) (TooManyTables (active_count tables)) _
    (own (TooManyTables (active_count tables)) 6 refl (omega arith) (omega arith))
    (either (nat_le 20 (created_count changes)) (TooManyTables 20) None
    (own (TooManyTables 20) 6 refl (omega arith) (omega arith)) tt)

fine_created : (b : Begun) (s : State) (p : Progress) (name : List ℕ) → Ends (created b s p name)
fine_created b s p name =
    fine_unless (reserved name) _ (fine_reserved name)
    (fine_unless (existing name (table_now s p name)) _ (fine_existing name (table_now s p name))
    (fine_unless (no_table_more (tables_now s p) p.schema) _ (fine_more (tables_now s p) p.schema) tt))

fine_indexed : (s : State) (p : Progress) (name field : List ℕ) → Ends (indexed s p name field)
fine_indexed s p name field =
    fine_unless (reserved name) _ (fine_reserved name)
    (fine_on name (table_now s p name) _ (λ table.
    fine_unless (existing_index (indexes_now s p) name field table) _
    (either (has_index (indexes_now s p) table field) (IndexExists name field) None
    (own (IndexExists name field) 5 refl (omega arith) (omega arith)) tt)
    (fine_unless (no_index_more (indexes_now s p) table) _
    (either (nat_le 5 (index_count (indexes_now s p) table)) (TooManyIndexes (index_count (indexes_now s p) table)) None
    (own (TooManyIndexes (index_count (indexes_now s p) table)) 7 refl (omega arith) (omega arith)) tt) tt)))

fine_dropped : (s : State) (p : Progress) (name : List ℕ) → Ends (dropped s p name)
fine_dropped s p name =
    fine_unless (reserved name) _ (fine_reserved name) (fine_on name (table_now s p name) _ (λ table. tt))

-- ---- selects

fine_absent : (s : State) (p : Progress) (name : Option (List ℕ)) → Fine (absent_table s p name)
fine_absent s p None = tt
fine_absent s p (Some name) =
    or_not (is_some (table_now s p name)) (NoSuchTable name)
    (own (NoSuchTable name) 2 refl (omega arith) (omega arith))

fine_sources : (s : State) (p : Progress) (xs : List Source) → Fine (first_absent s p xs)
fine_sources s p [] = tt
fine_sources s p (x ∷ xs) =
    first_fine (absent_table s p (table_in x.from)) (first_absent s p xs) (fine_absent s p (table_in x.from))
    (fine_sources s p xs)

fine_selected : (s : State) (p : Progress) (params : List Value) (select : Select) (from : FromClause)
    → Ends (selected s p params select from)
fine_selected s p params select from =
    fine_unless (first_absent s p from.sources) _ (fine_sources s p from.sources) tt

-- ---- inserts

fine_stored : (b : Begun) (table : TableId) (p : Progress) (vs : List Value) → Ends (stored b table p vs)
fine_stored b table p [] = tt
fine_stored b table p (v ∷ vs) =
    fine_unless (not_stored p v) _ (fine_kept (has_room p) v)
    (fine_then (new_document (next_id b p) table v) _
    (fine_stored b table (changed_by p (new_document (next_id b p) table v)) vs))

fine_documents : (e : Evaluated) → Ends (documents_in e)
fine_documents Missing = own (NotADocument Null) 10 refl (omega arith) (omega arith)
fine_documents (Found v) = tt

fine_if : (r : Result (List Value) Refusal) (f : List Value → Result Effect Refusal) → Ends r
    → ((vs : List Value) → Ends (f vs)) → Ends (if_documents r f)
fine_if (Err c) f h k = h
fine_if (Ok vs) f h k = k vs

fine_inserted : (b : Begun) (s : State) (p : Progress) (params : List Value) (name : List ℕ) (e : Expr)
    → Ends (inserted b s p params name e)
fine_inserted b s p params name e =
    fine_unless (reserved name) _ (fine_reserved name)
    (fine_on name (table_now s p name) _ (λ table.
    fine_if (documents_in (meaning e (under [] params))) (stored b table p)
    (fine_documents (meaning e (under [] params))) (fine_stored b table p)))

-- ---- changes

fine_own : (k : SourceKind) → Fine (own_table k)
fine_own (source.Table name) = fine_reserved name
fine_own (source.History table from until) = tt
fine_own (source.Path path) = tt

fine_owns : (is_written : ℕ → Bool) (n : ℕ) (ss : List Source) → Fine (first_own is_written n ss)
fine_owns is_written n [] = tt
fine_owns is_written n (x ∷ ss) =
    first_fine (if is_written n then own_table x.from else None) (first_own is_written (n + 1) ss)
    (when (is_written n) (own_table x.from) (fine_own x.from)) (fine_owns is_written (n + 1) ss)

fine_changes : (s : State) (p : Progress) (ds : List Row) → Ends (stored_changes s p ds)
fine_changes s p [] = tt
fine_changes s p (d ∷ ds) =
    fine_unless (not_kept (has_room_for p d.id) d.value) _ (fine_kept (has_room_for p d.id) d.value)
    (fine_then (touching s p d.id (Kept d.value)) _
    (fine_changes s (changed_by p (touching s p d.id (Kept d.value))) ds))

fine_changed : (s : State) (p : Progress) (params : List Value) (from : FromClause) (c : Change)
    → Ends (changed s p params from c)
fine_changed s p params from c =
    fine_unless (first_own (is_root from.sources c) 0 from.sources) _
    (fine_owns (is_root from.sources c) 0 from.sources)
    (fine_unless (first_absent s p from.sources) _ (fine_sources s p from.sources)
    (fine_changes s p (changed_documents params c (rows_now s p params from))))

fine_deletes : (s : State) (p : Progress) (ids : List DocId) → Ends (stored_deletes s p ids)
fine_deletes s p [] = tt
fine_deletes s p (id ∷ ids) =
    fine_unless (no_room p id) _
    (or_not (has_room_for p id) (TooManyRevisions 41) (own (TooManyRevisions 41) 8 refl (omega arith) (omega arith)))
    (fine_then (touching s p id Deleted) _ (fine_deletes s (changed_by p (touching s p id Deleted)) ids))

fine_deleted : (s : State) (p : Progress) (params : List Value) (from : FromClause) → Ends (deleted s p params from)
fine_deleted s p params from =
    fine_unless (first_own (λ n. true) 0 from.sources) _ (fine_owns (λ n. true) 0 from.sources)
    (fine_unless (first_absent s p from.sources) _ (fine_sources s p from.sources)
    (fine_deletes s p (deleted_documents (rows_now s p params from))))

-- ---- redactions

fine_revision : (revisions : List Recorded) (changes : List Schema) (r : Recorded)
    → Fine (not_redacted revisions changes r)
fine_revision revisions changes r =
    let version = r.revision.metadata.version in
    either (is_latest revisions r) (StillLatest version) _
    (of_redaction (StillLatest version) 16 refl (omega arith) (omega arith))
    (either (is_redacted_so_far changes r) (AlreadyRedacted version) _
    (of_redaction (AlreadyRedacted version) 17 refl (omega arith) (omega arith))
    (either (nat_le 40 (redaction_count changes)) (TooManyRedactions 41) None
    (of_redaction (TooManyRedactions 41) 18 refl (omega arith) (omega arith)) tt))

fine_found : (revisions : List Recorded) (changes : List Schema) (c : Schema) (o : Option Recorded)
    → Ends (of_revision revisions changes c o)
fine_found revisions changes c None = of_redaction NoSuchRevision 15 refl (omega arith) (omega arith)
fine_found revisions changes c (Some r) =
    fine_unless (not_redacted revisions changes r) _ (fine_revision revisions changes r) tt

fine_named : (s : State) (p : Progress) (o : Option RevisionName) → Ends (of_name s p o)
fine_named s p None = of_redaction NoSuchRevision 15 refl (omega arith) (omega arith)
fine_named s p (Some n) = fine_found s.revisions p.schema (redaction_of n) (named_by s.revisions (redaction_of n))

-- ---- a statement

fine_done : (b : Begun) (s : State) (p : Progress) (params : List Value) (st : Statement)
    → Ends (done_by_statement b s p params st)
fine_done b s p params (statement.Create name) = fine_created b s p name
fine_done b s p params (statement.Index name field) = fine_indexed s p name field
fine_done b s p params (statement.Drop name) = fine_dropped s p name
fine_done b s p params (statement.Insert name e) = fine_inserted b s p params name e
fine_done b s p params (statement.Select select from) = fine_selected s p params select from
fine_done b s p params (statement.Update from change) = fine_changed s p params from change
fine_done b s p params (statement.From from change) = fine_changed s p params from change
fine_done b s p params (statement.Delete from) = fine_deleted s p params from
fine_done b s p params (statement.Redact address table document) =
    fine_named s p (named_revision params address table document)

fine_reading : (items : List Item) (r : Result Effect Refusal) → Ends r → Ends (reading items r)
fine_reading items (Err c) h = h
fine_reading items (Ok e) h = tt

fine_shallow : (d : Option ℕ) (r : Result Effect Refusal) → Ends r → Ends (if_shallow d r)
fine_shallow None r h = h
fine_shallow (Some depth) r h = own (TooDeep depth) 12 refl (omega arith) (omega arith)

fine_read : (f : Statement → Result Effect Refusal) (r : Result Statement Refusal) → ((st : Statement) → Ends (f st))
    → Ends r → Ends (if_read f r)
fine_read f (Ok st) k h = k st
fine_read f (Err c) k h = h

fine_counted : (b : Bool) (s : Statement) (c : Refusal) → HasOwnCode c
    → Ends (let r : Result Statement Refusal = if b then Ok s else Err c in r)
fine_counted true s c h = tt
fine_counted false s c h = h

fine_parsed : (r : Result Statement Fault) (params : List Value) → Ends (with_parameters r params)
fine_parsed (Ok s) params =
    fine_counted (wanted s == length params) s (ParameterCount (wanted s) (length params))
    (own (ParameterCount (wanted s) (length params)) 11 refl (omega arith) (omega arith))
fine_parsed (Err fault) params = own (ParseFault fault.at fault.kind) 1 refl (omega arith) (omega arith)

fine_recorded : (p : Progress) (r : Request) (e : Result Effect Refusal) → Ends e → Ends (recorded p r e)
fine_recorded p r (Err c) h = h
fine_recorded p r (Ok e) h = tt

fine_step : (b : Begun) (s : State) (p : Progress) (r : Request) → Ends (step b s p r)
fine_step b s p r =
    fine_recorded p r _
    (fine_read (λ st. if_shallow (first_deep r.params) (effect_of b s p r.params st)) (statement_of r)
    (λ st. fine_shallow (first_deep r.params) (effect_of b s p r.params st)
    (fine_reading (footprint_of (schemas_now s p) (views_of s p) r.params st) (done_by_statement b s p r.params st)
    (fine_done b s p r.params st)))
    (fine_parsed (parsed r.text) r.params))

-- ---- a transaction

by_step : (j n : ℕ) (c : Refusal) (rest : Progress → Ran) (x : Result Progress Refusal) → Ends x
    → ((q : Progress) → rest q ≡ refused n c → HasOwnCode c) → then_run j x rest ≡ refused n c → HasOwnCode c
by_step j n c rest (Err cause) h k e = let same : cause ≡ c = cc e in subst HasOwnCode same h
by_step j n c rest (Ok q) h k e = k q e

by_run : (b : Begun) (s : State) (j : ℕ) (p : Progress) (rs : List Request) (n : ℕ) (c : Refusal)
    → run_from b s j p rs ≡ refused n c → HasOwnCode c
by_run b s j p [] n c e = let bad : ⊥ = cc e in absurd bad
by_run b s j p (r ∷ rs) n c e =
    by_step j n c (λ q. run_from b s (j + 1) q rs) (step b s p r) (fine_step b s p r)
    (λ q. by_run b s (j + 1) q rs n c) e

pub statements_are_refused : StatementsAreRefused
statements_are_refused b s asked statement cause e = by_run b s 1 start asked statement cause e
