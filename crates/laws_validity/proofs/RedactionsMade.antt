-- What a transaction redacts can be redacted behind the blocks on whose state its statements ran.
use Rattle.std.proofs.Common.{◌≡◌, ◌∙◌, ◌+◌, ◌==◌, ◌&&◌, ℕ, Bool, true, false, not, nat_le, List, [], ◌∷◌, ◌++◌, Option, Some, None, Result, Ok, Err, refl, sym, ap, ap₂, subst, append-nil, append_assoc, if◌then◌else◌}
use Rattle.std.specs.Option.{option_map_or}
use Rattle.std.proofs.lemmas.Bool.{and_from, and_parts, both_ways, eq-eqb, false_from_ne_true, not_from_false, or_parts}
use Rattle.ion_values.specs.declared.value.Value.{Value}
use Rattle.ql_types.specs.declared.DocId.{DocId}
use Rattle.ql_types.specs.declared.TableId.{TableId}
use Rattle.pql_model.specs.declared.statement.Statement.{Statement}
use Rattle.pql_model.specs.declared.statement.Statement.TheVariants as statement
use Rattle.pql_model.specs.declared.tables.Row.{Row}
use Rattle.pql_model.specs.Effects.{changed_documents, deleted_documents}
use Rattle.pql_model.specs.Meaning.{meaning, under}
use Rattle.ledger_model.specs.declared.block.Block.{Block}
use Rattle.ledger_model.specs.declared.block.Content.{Content}
use Rattle.ledger_model.specs.declared.block.Content.TheVariants.{Deleted, Kept, Redacted}
use Rattle.ledger_model.specs.declared.block.Draft.{Draft}
use Rattle.ledger_model.specs.declared.block.Schema.{Schema}
use Rattle.ledger_model.specs.declared.block.Schema.TheVariants.{Create, Index, Drop}
use Rattle.ledger_model.specs.declared.outcome.Item.{Item}
use Rattle.ledger_model.specs.declared.outcome.Refusal.{Refusal}
use Rattle.ledger_model.specs.declared.outcome.Refusal.TheVariants.{StillLatest, AlreadyRedacted, TooManyRedactions}
use Rattle.ledger_model.specs.declared.script.Request.{Request}
use Rattle.ledger_model.specs.Follows.{can_be_redacted, is_kept, is_latest, is_redacted_in, named_by, redaction_follows, redactions_follow}
use Rattle.ledger_model.specs.Progress.{not_kept}
use Rattle.ledger_model.specs.Redacting.{is_redacted_so_far, not_redacted, of_name, of_revision, redaction_count}
use Rattle.ledger_model.specs.RedactionArguments.{RevisionName, named_revision, redaction_of}
use Rattle.ledger_model.specs.Run.{Begun, Effect, Progress, Ran, ran, refused, and_then, changed_by, done_by_statement, documents_in, effect_of, existing, first_absent, first_deep, if_documents, if_read, if_shallow, new_document, next_id, no_table_more, not_stored, on_table, reading, recorded, reserved, run, run_from, start, step, stored, table_now, tables_now, then_run, unless}
use Rattle.ledger_model.specs.SchemaChanges.{existing_index, indexes_now, no_index_more}
use Rattle.ledger_model.specs.State.{Recorded, State, is_redacted_by, redacts, same_address, state}
use Rattle.ledger_model.specs.Statements.{statement_of}
use Rattle.ledger_model.specs.Whole.{is_redacted}
use Rattle.ledger_model.specs.Writing.{first_own, has_room_for, is_root, no_room, revised, rows_now, stored_changes, stored_deletes, touched, touching}
use Rattle.ledger_model.proofs.Redactions.{found_in}
use Rattle.laws_validity.proofs.Redacted.{AreRedacted, deleted_latest, has_data}

-- ---- statements that change no schema

abbrev NoChange : Result Effect Refusal → Type 0
NoChange (Ok e) = e.schema ≡ []
NoChange (Err cause) = Unit {0}

none_unless : (o : Option Refusal) (x : Result Effect Refusal) → NoChange x → NoChange (unless o x)
none_unless None x h = h
none_unless (Some cause) x h = tt

none_then : (e : Effect) (x : Result Effect Refusal) → e.schema ≡ [] → NoChange x → NoChange (and_then e x)
none_then e (Err cause) h k = tt
none_then e (Ok f) h k = ap₂ (λ (xs ys : List Schema). xs ++ ys) h k

none_on : (name : List ℕ) (o : Option TableId) (f : TableId → Result Effect Refusal)
    → ((table : TableId) → NoChange (f table))
    → NoChange (on_table name o f)
none_on name None f h = tt
none_on name (Some table) f h = h table

none_stored : (b : Begun) (table : TableId) (p : Progress) (vs : List Value) → NoChange (stored b table p vs)
none_stored b table p [] = refl
none_stored b table p (v ∷ vs) =
    none_unless (not_stored p v) _ (none_then (new_document (next_id b p) table v) _ refl
    (none_stored b table (changed_by p (new_document (next_id b p) table v)) vs))

none_documents : (b : Begun) (table : TableId) (p : Progress) (x : Result (List Value) Refusal)
    → NoChange (if_documents x (stored b table p))
none_documents b table p (Err cause) = tt
none_documents b table p (Ok vs) = none_stored b table p vs

none_touched : (o : Option Draft) → (touched o).schema ≡ []
none_touched None = refl
none_touched (Some d) = refl

none_changes : (s : State) (p : Progress) (ds : List Row) → NoChange (stored_changes s p ds)
none_changes s p [] = refl
none_changes s p (d ∷ ds) =
    none_unless (not_kept (has_room_for p d.id) d.value) _
    (none_then (touching s p d.id (Kept d.value)) _ (none_touched (revised s p d.id (Kept d.value)))
    (none_changes s (changed_by p (touching s p d.id (Kept d.value))) ds))

none_deletes : (s : State) (p : Progress) (ids : List DocId) → NoChange (stored_deletes s p ids)
none_deletes s p [] = refl
none_deletes s p (id ∷ ids) =
    none_unless (no_room p id) _
    (none_then (touching s p id Deleted) _ (none_touched (revised s p id Deleted))
    (none_deletes s (changed_by p (touching s p id Deleted)) ids))

-- ---- a change more

redactions_push : (blocks : List Block) (rs : List Recorded) (before changes : List Schema) (c : Schema)
    → redactions_follow blocks rs before changes ≡ true → redaction_follows blocks rs (before ++ changes) c ≡ true
    → redactions_follow blocks rs before (changes ++ c ∷ []) ≡ true
redactions_push blocks rs before [] c h k =
    and_from (redaction_follows blocks rs before c) true
    (subst (λ xs. redaction_follows blocks rs xs c ≡ true) (append-nil before) k) refl
redactions_push blocks rs before (d ∷ ds) c h k =
    let parts = and_parts (redaction_follows blocks rs before d)
    (redactions_follow blocks rs (before ++ d ∷ []) ds) h in
    and_from (redaction_follows blocks rs before d)
    (redactions_follow blocks rs (before ++ d ∷ []) (ds ++ c ∷ [])) parts.0
    (redactions_push blocks rs (before ++ d ∷ []) ds c parts.1
    (subst (λ xs. redaction_follows blocks rs xs c ≡ true) (sym (append_assoc before (d ∷ []) ds)) k))

module _ (b : Begun) (blocks : List Block) (so : AreRedacted blocks (state blocks)) where
  abbrev s : State
  s = state blocks

  abbrev Follow : List Schema → Type 0
  Follow changes = redactions_follow blocks s.revisions [] changes ≡ true

  abbrev Follows : Progress → Result Effect Refusal → Type 0
  Follows p (Ok e) = Follow (p.schema ++ e.schema)
  Follows p (Err cause) = Unit {0}

  unchanged : (p : Progress) (x : Result Effect Refusal) → Follow p.schema → NoChange x → Follows p x
  unchanged p (Err cause) h k = tt
  unchanged p (Ok e) h k = subst (λ xs. Follow (p.schema ++ xs)) (sym k) (subst Follow (sym (append-nil p.schema)) h)

  follows_unless : (p : Progress) (o : Option Refusal) (x : Result Effect Refusal) → (o ≡ None → Follows p x)
      → Follows p (unless o x)
  follows_unless p None x h = h refl
  follows_unless p (Some cause) x h = tt

  follows_on : (p : Progress) (name : List ℕ) (o : Option TableId) (f : TableId → Result Effect Refusal)
      → ((table : TableId) → Follows p (f table)) → Follows p (on_table name o f)
  follows_on p name None f h = tt
  follows_on p name (Some table) f h = h table

  -- ---- a redaction

  -- what is not refused
  record Passed (changes : List Schema) (r : Recorded) : Type 0 where
    earlier : is_latest s.revisions r ≡ false
    kept : is_redacted r.revision.content ≡ false
    own : is_redacted_by changes r ≡ false

  passed_by : (changes : List Schema) (r : Recorded) (x y z : Bool) → is_latest s.revisions r ≡ x
      → is_redacted_so_far changes r ≡ y
      → (if x then Some (StillLatest r.revision.metadata.version)
      else if y then Some (AlreadyRedacted r.revision.metadata.version)
      else if z then Some (TooManyRedactions 41) else None) ≡ None → Passed changes r
  passed_by changes r true y z e f h = cc
  passed_by changes r false true z e f h = cc
  passed_by changes r false false true e f h = cc
  passed_by changes r false false false e f h =
      let parts = or_parts (is_redacted r.revision.content) (is_redacted_by changes r) f in
      record { earlier = e; kept = parts.0; own = parts.1 }

  passed : (changes : List Schema) (r : Recorded) → not_redacted s.revisions changes r ≡ None → Passed changes r
  passed changes r h =
      passed_by changes r (is_latest s.revisions r) (is_redacted_so_far changes r)
      (nat_le 40 (redaction_count changes)) refl refl h

  -- where blocks redact it, it has no data: it is redacted, or deleted and its document's latest
  by_content : (r : Recorded) (content : Content) → r.revision.content ≡ content → is_redacted content ≡ false
      → has_data content ≡ false
      → is_kept r.revision.content ≡ false
  by_content r Deleted e h k = ap is_kept e
  by_content r (Kept v) e h k = cc k
  by_content r (Redacted hash) e h k = cc h

  not_in_blocks : (changes : List Schema) (c : Schema) (r : Recorded) → named_by s.revisions c ≡ Some r
      → Passed changes r
      → is_redacted_in blocks r ≡ false
  not_in_blocks changes c r named ok =
      false_from_ne_true (is_redacted_in blocks r) (λ h.
      let none = found_in (λ x. is_redacted_in blocks x ≡ true → has_data x.revision.content ≡ false)
      (λ x. redacts x c) s.revisions r so.hidden named h in
      let gone = by_content r r.revision.content refl ok.kept none in
      let last = deleted_latest s.revisions s.revisions (λ x. redacts x c) r (λ id x e. e) so.ended named gone in
      let here : is_latest s.revisions r ≡ true =
      ap (λ o. option_map_or (λ x. same_address x.revision.address r.revision.address) o false) last
      ∙ and_from (r.revision.address.strand.raw == r.revision.address.strand.raw)
      (r.revision.address.sequence == r.revision.address.sequence)
      (eq-eqb _ _ refl) (eq-eqb _ _ refl) in
      both_ways (is_latest s.revisions r) ok.earlier here)

  one_follows : (changes : List Schema) (n : RevisionName) (r : Recorded)
      → named_by s.revisions (redaction_of n) ≡ Some r → Passed changes r
      → redaction_follows blocks s.revisions changes (redaction_of n) ≡ true
  one_follows changes n r named ok =
      ap (λ o. option_map_or (can_be_redacted blocks s.revisions changes) o false) named
      ∙ and_from (not (is_latest s.revisions r) && not (is_redacted_in blocks r)) (not (is_redacted_by changes r))
      (and_from (not (is_latest s.revisions r)) (not (is_redacted_in blocks r)) (not_from_false _ ok.earlier)
      (not_from_false _ (not_in_blocks changes (redaction_of n) r named ok)))
      (not_from_false _ ok.own)

  follows_revision : (p : Progress) (n : RevisionName) (o : Option Recorded) → Follow p.schema
      → named_by s.revisions (redaction_of n) ≡ o
      → Follows p (of_revision s.revisions p.schema (redaction_of n) o)
  follows_revision p n None h named = tt
  follows_revision p n (Some r) h named =
      follows_unless p (not_redacted s.revisions p.schema r) _ (λ free.
      redactions_push blocks s.revisions [] p.schema (redaction_of n) h
      (one_follows p.schema n r named (passed p.schema r free)))

  follows_name : (p : Progress) (o : Option RevisionName) → Follow p.schema → Follows p (of_name s p o)
  follows_name p None h = tt
  follows_name p (Some n) h = follows_revision p n (named_by s.revisions (redaction_of n)) h refl

  -- ---- one statement

  follows_statement : (p : Progress) (params : List Value) (st : Statement) → Follow p.schema
      → Follows p (done_by_statement b s p params st)
  follows_statement p params (statement.Create name) h =
      follows_unless p (reserved name) _ (λ _. follows_unless p (existing name (table_now s p name)) _ (λ _.
      follows_unless p (no_table_more (tables_now s p) p.schema) _ (λ _.
      redactions_push blocks s.revisions [] p.schema (Create name (record { raw = next_id b p })) h refl)))
  follows_statement p params (statement.Index name field) h =
      follows_unless p (reserved name) _ (λ _. follows_on p name (table_now s p name) _ (λ table.
      follows_unless p (existing_index (indexes_now s p) name field table) _ (λ _.
      follows_unless p (no_index_more (indexes_now s p) table) _ (λ _.
      redactions_push blocks s.revisions [] p.schema (Index field table) h refl))))
  follows_statement p params (statement.Drop name) h =
      follows_unless p (reserved name) _ (λ _. follows_on p name (table_now s p name) _ (λ table.
      redactions_push blocks s.revisions [] p.schema (Drop name table) h refl))
  follows_statement p params (statement.Insert name e) h =
      unchanged p _ h (none_unless (reserved name) _ (none_on name (table_now s p name) _ (λ table.
      none_documents b table p (documents_in (meaning e (under [] params))))))
  follows_statement p params (statement.Select select from) h =
      unchanged p _ h (none_unless (first_absent s p from.sources) _ refl)
  follows_statement p params (statement.Update from c) h =
      unchanged p _ h (none_unless (first_own (is_root from.sources c) 0 from.sources) _
      (none_unless (first_absent s p from.sources) _
      (none_changes s p (changed_documents params c (rows_now s p params from)))))
  follows_statement p params (statement.From from c) h =
      unchanged p _ h (none_unless (first_own (is_root from.sources c) 0 from.sources) _
      (none_unless (first_absent s p from.sources) _
      (none_changes s p (changed_documents params c (rows_now s p params from)))))
  follows_statement p params (statement.Delete from) h =
      unchanged p _ h (none_unless (first_own (λ n. true) 0 from.sources) _
      (none_unless (first_absent s p from.sources) _
      (none_deletes s p (deleted_documents (rows_now s p params from)))))
  follows_statement p params (statement.Redact address table document) h =
      follows_name p (named_revision params address table document) h

  follows_reading : (p : Progress) (items : List Item) (x : Result Effect Refusal) → Follows p x
      → Follows p (reading items x)
  follows_reading p items (Err cause) h = h
  follows_reading p items (Ok e) h = h

  -- ---- all statements

  abbrev Steps : Result Progress Refusal → Type 0
  Steps (Ok q) = Follow q.schema
  Steps (Err cause) = Unit {0}

  steps_recorded : (p : Progress) (r : Request) (x : Result Effect Refusal) → Follows p x → Steps (recorded p r x)
  steps_recorded p r (Err cause) h = tt
  steps_recorded p r (Ok e) h = h

  follows_shallow : (p : Progress) (o : Option ℕ) (x : Result Effect Refusal) → Follows p x → Follows p (if_shallow o x)
  follows_shallow p None x h = h
  follows_shallow p (Some depth) x h = tt

  follows_read : (p : Progress) (r : Request) (x : Result Statement Refusal) → Follow p.schema
      → Follows p (if_read (λ st. if_shallow (first_deep r.params) (effect_of b s p r.params st)) x)
  follows_read p r (Err cause) h = tt
  follows_read p r (Ok st) h =
      follows_shallow p (first_deep r.params) (effect_of b s p r.params st)
      (follows_reading p _ (done_by_statement b s p r.params st) (follows_statement p r.params st h))

  step_follows : (p : Progress) (r : Request) → Follow p.schema → Steps (step b s p r)
  step_follows p r h = steps_recorded p r _ (follows_read p r (statement_of r) h)

  abbrev Ends : Ran → Type 0
  Ends (ran q) = Follow q.schema
  Ends (refused j cause) = Unit {0}

  then_follows : (j : ℕ) (rest : Progress → Ran) → ((q : Progress) → Follow q.schema → Ends (rest q))
      → (x : Result Progress Refusal)
      → Steps x → Ends (then_run j x rest)
  then_follows j rest f (Ok q) h = f q h
  then_follows j rest f (Err cause) h = tt

  run_follows : (rs : List Request) (j : ℕ) (p : Progress) → Follow p.schema → Ends (run_from b s j p rs)
  run_follows [] j p h = h
  run_follows (r ∷ rs) j p h = then_follows j _ (λ q more. run_follows rs (j + 1) q more) (step b s p r)
      (step_follows p r h)

  pub redactions_made : (asked : List Request) (q : Progress) → run b s asked ≡ ran q → Follow q.schema
  redactions_made asked q all = subst Ends all (run_follows asked 1 start refl)
