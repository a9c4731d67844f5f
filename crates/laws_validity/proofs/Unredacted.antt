-- The revisions that a transaction leaves have their data, on whatever state its statements run.
use Rattle.std.proofs.Common.{◌≡◌, ◌+◌, ℕ, true, false, List, [], ◌∷◌, Option, Some, None, Result, Ok, Err, refl, subst}
use Rattle.std.specs.List.{AllByRecursion}
use Rattle.std.proofs.lemmas.Bool.{cond_both}
use Rattle.ion_values.specs.declared.value.Value.{Value}
use Rattle.pql_model.specs.declared.statement.Change.{Change}
use Rattle.pql_model.specs.declared.statement.FromClause.{FromClause}
use Rattle.pql_model.specs.declared.statement.Statement.{Statement}
use Rattle.pql_model.specs.declared.statement.Statement.TheVariants as statement
use Rattle.pql_model.specs.declared.expr.Expr.{Expr}
use Rattle.pql_model.specs.declared.tables.Row.{Row}
use Rattle.pql_model.specs.Effects.{changed_documents, deleted_documents}
use Rattle.pql_model.specs.Meaning.{meaning, under}
use Rattle.ql_types.specs.declared.DocId.{DocId}
use Rattle.ql_types.specs.declared.TableId.{TableId}
use Rattle.ledger_model.specs.declared.block.Content.{Content}
use Rattle.ledger_model.specs.declared.block.Content.TheVariants.{Deleted, Kept}
use Rattle.ledger_model.specs.declared.block.Draft.{Draft}
use Rattle.ledger_model.specs.declared.block.Schema.{Schema}
use Rattle.ledger_model.specs.declared.outcome.Item.{Item}
use Rattle.ledger_model.specs.declared.outcome.Refusal.{Refusal}
use Rattle.ledger_model.specs.declared.script.Request.{Request}
use Rattle.ledger_model.specs.Follows.{is_active, is_kept, latest_of, named_by}
use Rattle.ledger_model.specs.Footprints.{footprint_of}
use Rattle.ledger_model.specs.Redacting.{not_redacted, of_name, of_revision, redaction}
use Rattle.ledger_model.specs.RedactionArguments.{RevisionName, named_revision, redaction_of}
use Rattle.ledger_model.specs.Run.{Begun, Effect, Progress, Ran, and_then, changed_by, created, documents_in, done_by_statement, dropped, effect_of, existing, final_revisions, first_absent, first_deep, if_documents, if_read, if_shallow, indexed, inserted, is_left, new_document, new_table, next_id, no_table_more, not_stored, on_table, ran, reading, recorded, refused, reserved, run, run_from, schemas_now, start, step, stored, table_now, tables_now, then_run, unless, views_of}
use Rattle.ledger_model.specs.SchemaChanges.{existing_index, indexes_now, no_index_more}
use Rattle.ledger_model.specs.Progress.{not_kept}
use Rattle.ledger_model.specs.State.{Recorded, State, Table}
use Rattle.ledger_model.specs.Statements.{statement_of}
use Rattle.ledger_model.specs.Views.{latest}
use Rattle.ledger_model.specs.Whole.{is_redacted}
use Rattle.ledger_model.specs.Writing.{again_of, changed, deleted, first_own, has_room_for, if_active, is_root, next_of, no_room, pending_of, revised, revised_by, rows_now, stored_changes, stored_deletes, touched, touching}
use Rattle.laws_validity.proofs.Latest.{all_latest}
use Rattle.laws_validity.proofs.Lists.{all_append}
use Rattle.laws_validity.proofs.Thinned.{all_thinned}

-- its data aren't redacted
abbrev pub HasData : Draft → Type 0
HasData d = is_redacted d.content ≡ false

abbrev pub HaveData : List Draft → Type 0
HaveData drafts = AllByRecursion HasData drafts

-- those that a statement adds
abbrev Adds : Result Effect Refusal → Type 0
Adds (Ok e) = HaveData e.log
Adds (Err cause) = Unit {0}

-- ---- parts of statements

unless_adds : (o : Option Refusal) (x : Result Effect Refusal) → Adds x → Adds (unless o x)
unless_adds None x h = h
unless_adds (Some cause) x h = tt

on_table_adds : (name : List ℕ) (o : Option TableId) (f : TableId → Result Effect Refusal)
    → ((id : TableId) → Adds (f id)) → Adds (on_table name o f)
on_table_adds name None f h = tt
on_table_adds name (Some id) f h = h id

then_adds : (e : Effect) (x : Result Effect Refusal) → HaveData e.log → Adds x → Adds (and_then e x)
then_adds e (Err cause) one h = tt
then_adds e (Ok f) one h = all_append HasData e.log f.log one h

-- ---- INSERT

stored_adds : (b : Begun) (table : TableId) (vs : List Value) (p : Progress) → Adds (stored b table p vs)
stored_adds b table [] p = tt
stored_adds b table (v ∷ vs) p =
    let one = new_document (next_id b p) table v in
    unless_adds (not_stored p v) (and_then one (stored b table (changed_by p one) vs))
    (then_adds one (stored b table (changed_by p one) vs) (refl, tt) (stored_adds b table vs (changed_by p one)))

documents_add : (b : Begun) (table : TableId) (p : Progress) (x : Result (List Value) Refusal)
    → Adds (if_documents x (stored b table p))
documents_add b table p (Err cause) = tt
documents_add b table p (Ok vs) = stored_adds b table vs p

inserted_adds : (b : Begun) (s : State) (p : Progress) (params : List Value) (name : List ℕ) (e : Expr)
    → Adds (inserted b s p params name e)
inserted_adds b s p params name e =
    unless_adds (reserved name) _
    (on_table_adds name (table_now s p name)
    (λ (table : TableId). if_documents (documents_in (meaning e (under [] params))) (stored b table p))
    (λ table. documents_add b table p (documents_in (meaning e (under [] params)))))

-- ---- UPDATE, FROM with a change, and DELETE

abbrev MayHaveData : Option Draft → Type 0
MayHaveData None = Unit {0}
MayHaveData (Some d) = HasData d

revised_by_has : (c : Content) → is_redacted c ≡ false → (o : Option Draft) (l : Option Recorded)
    → MayHaveData (revised_by c o l)
revised_by_has c h (Some d) l =
    cond_both (is_kept d.content) (Some (again_of d c)) None MayHaveData (λ _. h) (λ _. tt)
revised_by_has c h None (Some last) =
    cond_both (is_kept last.revision.content) (Some (next_of last c)) None MayHaveData (λ _. h) (λ _. tt)
revised_by_has c h None None = tt

active_has : (tables : List Table) (o : Option Draft) → MayHaveData o → MayHaveData (if_active tables o)
active_has tables None h = tt
active_has tables (Some d) h = cond_both (is_active tables d.table) (Some d) None MayHaveData (λ _. h) (λ _. tt)

touched_has : (o : Option Draft) → MayHaveData o → HaveData (touched o).log
touched_has None h = tt
touched_has (Some d) h = (h, tt)

touching_has : (s : State) (p : Progress) (id : DocId) (c : Content) → is_redacted c ≡ false
    → HaveData (touching s p id c).log
touching_has s p id c h =
    touched_has (revised s p id c)
    (active_has (tables_now s p) (revised_by c (pending_of p id) (latest_of s.revisions id.raw))
    (revised_by_has c h (pending_of p id) (latest_of s.revisions id.raw)))

changes_add : (s : State) (ds : List Row) (p : Progress) → Adds (stored_changes s p ds)
changes_add s [] p = tt
changes_add s (d ∷ ds) p =
    let one = touching s p d.id (Kept d.value) in
    unless_adds (not_kept (has_room_for p d.id) d.value) (and_then one (stored_changes s (changed_by p one) ds))
    (then_adds one (stored_changes s (changed_by p one) ds) (touching_has s p d.id (Kept d.value) refl)
    (changes_add s ds (changed_by p one)))

changed_adds : (s : State) (p : Progress) (params : List Value) (from : FromClause) (c : Change)
    → Adds (changed s p params from c)
changed_adds s p params from c =
    unless_adds (first_own (is_root from.sources c) 0 from.sources) _
    (unless_adds (first_absent s p from.sources) _
    (changes_add s (changed_documents params c (rows_now s p params from)) p))

deletes_add : (s : State) (ids : List DocId) (p : Progress) → Adds (stored_deletes s p ids)
deletes_add s [] p = tt
deletes_add s (id ∷ ids) p =
    let one = touching s p id Deleted in
    unless_adds (no_room p id) (and_then one (stored_deletes s (changed_by p one) ids))
    (then_adds one (stored_deletes s (changed_by p one) ids) (touching_has s p id Deleted refl)
    (deletes_add s ids (changed_by p one)))

deleted_adds : (s : State) (p : Progress) (params : List Value) (from : FromClause) → Adds (deleted s p params from)
deleted_adds s p params from =
    unless_adds (first_own (λ n. true) 0 from.sources) _
    (unless_adds (first_absent s p from.sources) _
    (deletes_add s (deleted_documents (rows_now s p params from)) p))

-- ---- statements that leave the documents

created_adds : (b : Begun) (s : State) (p : Progress) (name : List ℕ) → Adds (created b s p name)
created_adds b s p name =
    unless_adds (reserved name) _ (unless_adds (existing name (table_now s p name)) _
    (unless_adds (no_table_more (tables_now s p) p.schema) (Ok (new_table (next_id b p) name)) tt))

indexed_adds : (s : State) (p : Progress) (name field : List ℕ) → Adds (indexed s p name field)
indexed_adds s p name field =
    unless_adds (reserved name) _ (on_table_adds name (table_now s p name) _ (λ table.
    unless_adds (existing_index (indexes_now s p) name field table) _
    (unless_adds (no_index_more (indexes_now s p) table) _ tt)))

dropped_adds : (s : State) (p : Progress) (name : List ℕ) → Adds (dropped s p name)
dropped_adds s p name = unless_adds (reserved name) _ (on_table_adds name (table_now s p name) _ (λ table. tt))

revision_adds : (revisions : List Recorded) (changes : List Schema) (c : Schema) (o : Option Recorded)
    → Adds (of_revision revisions changes c o)
revision_adds revisions changes c None = tt
revision_adds revisions changes c (Some r) = unless_adds (not_redacted revisions changes r) (Ok (redaction c r)) tt

name_adds : (s : State) (p : Progress) (o : Option RevisionName) → Adds (of_name s p o)
name_adds s p None = tt
name_adds s p (Some n) = revision_adds s.revisions p.schema (redaction_of n) (named_by s.revisions (redaction_of n))

-- ---- a transaction

module _ (b : Begun) (s : State) where
  statement_adds : (p : Progress) (params : List Value) (st : Statement) → Adds (done_by_statement b s p params st)
  statement_adds p params (statement.Create name) = created_adds b s p name
  statement_adds p params (statement.Index name field) = indexed_adds s p name field
  statement_adds p params (statement.Drop name) = dropped_adds s p name
  statement_adds p params (statement.Insert name e) = inserted_adds b s p params name e
  statement_adds p params (statement.Select select from) = unless_adds (first_absent s p from.sources) _ tt
  statement_adds p params (statement.Update from c) = changed_adds s p params from c
  statement_adds p params (statement.From from c) = changed_adds s p params from c
  statement_adds p params (statement.Delete from) = deleted_adds s p params from
  statement_adds p params (statement.Redact address table document) =
      name_adds s p (named_revision params address table document)

  reading_adds : (items : List Item) (x : Result Effect Refusal) → Adds x → Adds (reading items x)
  reading_adds items (Err cause) h = tt
  reading_adds items (Ok e) h = h

  effect_adds : (p : Progress) (params : List Value) (st : Statement) → Adds (effect_of b s p params st)
  effect_adds p params st =
      reading_adds (footprint_of (schemas_now s p) (views_of s p) params st) (done_by_statement b s p params st)
      (statement_adds p params st)

  shallow_adds : (o : Option ℕ) (x : Result Effect Refusal) → Adds x → Adds (if_shallow o x)
  shallow_adds None x h = h
  shallow_adds (Some depth) x h = tt

  read_adds : (f : Statement → Result Effect Refusal) → ((st : Statement) → Adds (f st))
      → (x : Result Statement Refusal) → Adds (if_read f x)
  read_adds f h (Ok st) = h st
  read_adds f h (Err cause) = tt

  abbrev Keeps : Result Progress Refusal → Type 0
  Keeps (Ok q) = HaveData q.log
  Keeps (Err cause) = Unit {0}

  recorded_keeps : (p : Progress) (r : Request) → HaveData p.log → (x : Result Effect Refusal) → Adds x
      → Keeps (recorded p r x)
  recorded_keeps p r so (Err cause) h = tt
  recorded_keeps p r so (Ok e) h = all_append HasData p.log e.log so h

  step_keeps : (p : Progress) (r : Request) → HaveData p.log → Keeps (step b s p r)
  step_keeps p r so =
      let f = λ (st : Statement). if_shallow (first_deep r.params) (effect_of b s p r.params st) in
      recorded_keeps p r so (if_read f (statement_of r))
      (read_adds f (λ st. shallow_adds (first_deep r.params) (effect_of b s p r.params st) (effect_adds p r.params st))
      (statement_of r))

  abbrev Ends : Ran → Type 0
  Ends (ran q) = HaveData q.log
  Ends (refused j cause) = Unit {0}

  then_keeps : (j : ℕ) (rest : Progress → Ran) → ((q : Progress) → HaveData q.log → Ends (rest q))
      → (x : Result Progress Refusal) → Keeps x → Ends (then_run j x rest)
  then_keeps j rest f (Ok q) h = f q h
  then_keeps j rest f (Err cause) h = tt

  run_from-keeps : (rs : List Request) (j : ℕ) (p : Progress) → HaveData p.log → Ends (run_from b s j p rs)
  run_from-keeps [] j p so = so
  run_from-keeps (r ∷ rs) j p so =
      then_keeps j _ (λ q more. run_from-keeps rs (j + 1) q more) (step b s p r) (step_keeps p r so)

  -- where all statements were done, no data of what is left are redacted
  pub run_has_data : (asked : List Request) (q : Progress) → run b s asked ≡ ran q → HaveData (final_revisions q)
  run_has_data asked q all =
      let log : HaveData q.log = subst Ends all (run_from-keeps asked 1 start tt) in
      all_thinned HasData is_left (latest q.log) (all_latest HasData q.log log)
