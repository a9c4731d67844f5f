-- What a run makes is its own, and what it changes stood there.
use Rattle.std.proofs.Common.{◌≡◌, ◌∙◌, ◌⊎◌, inl, inr, ◌≤◌, ◌<◌, ℕ, ◌+◌, ◌*◌, ◌^◌, true, false, nat_lt, List, [], ◌∷◌, ◌++◌, refl, sym, ap, subst, arith, Option, Some, None, Result, Ok, Err}
use Rattle.std.specs.Prelude.{Bool, if◌then◌else◌}
use Rattle.std.specs.List.{AllByRecursion, find}
use Rattle.std.proofs.lemmas.Bool.{eq-eqb, lt-ltb, or_parts}
use Rattle.std.proofs.lemmas.List.Folds.{list_any-append}
use Rattle.std.proofs.lemmas.Nat.{xor_lt}
use Rattle.ion_values.specs.declared.value.Value.{Value}
use Rattle.ql_types.specs.Ids.{raw_id, transaction_in}
use Rattle.ql_types.specs.declared.DocId.{DocId}
use Rattle.ql_types.specs.declared.TableId.{TableId}
use Rattle.ql_types.proofs.Masks.{unmasked}
use Rattle.pql_model.specs.Meaning.{meaning, under}
use Rattle.pql_model.specs.Effects.{changed_documents, deleted_documents}
use Rattle.pql_model.specs.declared.statement.Statement.{Statement}
use Rattle.pql_model.specs.declared.statement.Statement.TheVariants as statement
use Rattle.pql_model.specs.declared.tables.Row.{Row}
use Rattle.ledger_model.specs.declared.block.Content.{Content}
use Rattle.ledger_model.specs.declared.block.Content.TheVariants.{Deleted, Kept}
use Rattle.ledger_model.specs.declared.block.Draft.{Draft}
use Rattle.ledger_model.specs.declared.outcome.Item.{Item}
use Rattle.ledger_model.specs.declared.outcome.Refusal.{Refusal}
use Rattle.ledger_model.specs.declared.script.Request.{Request}
use Rattle.ledger_model.specs.Follows.{created_ids, is_active, is_kept, latest_of, named_by}
use Rattle.ledger_model.specs.Footprints.{footprint_of}
use Rattle.ledger_model.specs.Progress.{not_kept}
use Rattle.ledger_model.specs.Run.{Begun, Effect, Progress, and_then, changed_by, created, documents_in, done_by_statement, existing, first_absent, if_documents, new_document, next_id, no_table_more, not_stored, on_table, ran, reading, recorded, reserved, run_from, schemas_now, stored, table_now, tables_now, unless, views_of}
use Rattle.ledger_model.specs.SchemaChanges.{existing_index, indexes_now, no_index_more}
use Rattle.ledger_model.specs.Redacting.{not_redacted, of_name, of_revision}
use Rattle.ledger_model.specs.RedactionArguments.{RevisionName, named_revision, redaction_of}
use Rattle.ledger_model.specs.State.{Recorded, State, Table}
use Rattle.ledger_model.specs.Views.{latest}
use Rattle.ledger_model.specs.Writing.{again_of, first_own, has_room_for, if_active, is_root, next_of, no_room, revised, revised_by, rows_now, stored_changes, stored_deletes, touched}
use Rattle.laws_footprint.specs.Naming.{is_pending}
use Rattle.laws_footprint.specs.Own.{is_by}
use Rattle.pql_model.proofs.Equality.{inside}
use Rattle.laws_footprint.proofs.Pending.{all_found, is_doc, latest_keeps, not_pending}
use Rattle.laws_footprint.proofs.Rows.{all_joined, all_left, all_right}
use Rattle.laws_footprint.proofs.StillDocuments.{latest_id}
use Rattle.laws_footprint.proofs.Steps.{first_of_run}
use Rattle.laws_footprint.proofs.Transactions.{created_append, reading_says}

-- ---- ids

transaction_of : (mask n i : ℕ) → i < 2 ^ 24 → transaction_in mask (raw_id mask n i) ≡ n
transaction_of mask n i h = rw (unmasked (n * 2 ^ 24 + i) mask) (omega (arith, h))

raw_id_fits : (mask n i : ℕ) → mask < 2 ^ 128 → n < 2 ^ 64 → i < 2 ^ 24 → raw_id mask n i < 2 ^ 128
raw_id_fits mask n i m h k = xor_lt 128 (n * 2 ^ 24 + i) mask (omega (arith, h, k)) m

-- one of the first things that the transaction made
abbrev pub IsMade : Begun → ℕ → ℕ → Type 0
IsMade b made id = (i : ℕ) × (id ≡ raw_id b.mask b.number i) × (i ≤ made)

more_made : (b : Begun) (made more id : ℕ) → made ≤ more → IsMade b made id → IsMade b more id
more_made b made more id h w = (w.0, w.1, omega (arith, w.2, h))

pub made_own : (b : Begun) (made id : ℕ) → made < 2 ^ 24 → IsMade b made id → is_by b.mask b.number id ≡ true
made_own b made id few w =
    let number : transaction_in b.mask id ≡ b.number = ap (transaction_in b.mask) w.1
    ∙ transaction_of b.mask b.number w.0 (omega (arith, w.2, few)) in
    eq-eqb (transaction_in b.mask id) b.number number

pub made_fits : (b : Begun) (made id : ℕ) → b.mask < 2 ^ 128 → b.number < 2 ^ 64 → made < 2 ^ 24 → IsMade b made id
    → nat_lt id (2 ^ 128) ≡ true
made_fits b made id mask number few w =
    lt-ltb id (2 ^ 128) (subst (λ x. x < 2 ^ 128) (sym w.1)
    (raw_id_fits b.mask b.number w.0 mask number (omega (arith, w.2, few))))

-- ---- what a statement adds is made by the transaction, or is an old document

module _ (b : Begun) (s : State) (Old : ℕ → Type 0) where
  abbrev pub Its : ℕ → Draft → Type 0
  Its made d = IsMade b made d.id.raw ⊎ Old d.id.raw

  abbrev pub DraftsMade : ℕ → List Draft → Type 0
  DraftsMade made ds = AllByRecursion (Its made) ds

  abbrev pub IdsMade : ℕ → List ℕ → Type 0
  IdsMade made ids = AllByRecursion (IsMade b made) ids

  its_more : (made more : ℕ) (d : Draft) → made ≤ more → Its made d → Its more d
  its_more made more d h (inl own) = inl (more_made b made more d.id.raw h own)
  its_more made more d h (inr old) = inr old

  drafts_more : (made more : ℕ) (ds : List Draft) → made ≤ more → DraftsMade made ds → DraftsMade more ds
  drafts_more made more [] h all = tt
  drafts_more made more (d ∷ ds) h all = (its_more made more d h all.0, drafts_more made more ds h all.1)

  ids_more : (made more : ℕ) (ids : List ℕ) → made ≤ more → IdsMade made ids → IdsMade more ids
  ids_more made more [] h all = tt
  ids_more made more (id ∷ ids) h all = (more_made b made more id h all.0, ids_more made more ids h all.1)

  -- ---- effects

  abbrev EffectMade : Progress → Effect → Type 0
  EffectMade p e = DraftsMade (p.made + e.made) e.log × IdsMade (p.made + e.made) (created_ids e.schema)

  abbrev ResultMade : Progress → Result Effect Refusal → Type 0
  ResultMade p (Err cause) = Unit {0}
  ResultMade p (Ok e) = EffectMade p e

  unless_made : (p : Progress) (o : Option Refusal) (x : Result Effect Refusal) → ResultMade p x
      → ResultMade p (unless o x)
  unless_made p None x h = h
  unless_made p (Some cause) x h = tt

  next_made : (p : Progress) → IsMade b (p.made + 1) (next_id b p)
  next_made p = (p.made + 1, refl, omega arith)

  created_made : (p : Progress) (name : List ℕ) → ResultMade p (created b s p name)
  created_made p name =
      unless_made p (reserved name) _ (unless_made p
      (existing name (table_now s p name))
      _ (unless_made p (no_table_more (tables_now s p) p.schema) _ (tt, (next_made p, tt))))

  then_made : (p : Progress) (table : TableId) (v : Value) (x : Result Effect Refusal)
      → ResultMade (changed_by p (new_document (next_id b p) table v)) x
      → ResultMade p (and_then (new_document (next_id b p) table v) x)
  then_made p table v (Err cause) h = tt
  then_made p table v (Ok f) h =
      let same : p.made + 1 + f.made ≡ p.made + (1 + f.made) = omega arith in
      let first : IsMade b (p.made + (1 + f.made)) (next_id b p) =
      more_made b (p.made + 1) (p.made + (1 + f.made)) (next_id b p) (omega arith) (next_made p) in
      ((inl first, subst (λ n. DraftsMade n f.log) same h.0), subst (λ n. IdsMade n (created_ids f.schema)) same h.1)

  stored_made : (table : TableId) (p : Progress) (vs : List Value) → ResultMade p (stored b table p vs)
  stored_made table p [] = (tt, tt)
  stored_made table p (v ∷ vs) =
      unless_made p (not_stored p v) _ (then_made p table v
      (stored b table (changed_by p (new_document (next_id b p) table v)) vs)
      (stored_made table (changed_by p (new_document (next_id b p) table v)) vs))

  documents_made : (table : TableId) (p : Progress) (x : Result (List Value) Refusal)
      → ResultMade p (if_documents x (stored b table p))
  documents_made table p (Err cause) = tt
  documents_made table p (Ok vs) = stored_made table p vs

  on_table_made : (p : Progress) (name : List ℕ) (o : Option TableId) (f : TableId → Result Effect Refusal)
      → ((table : TableId) → ResultMade p (f table)) → ResultMade p (on_table name o f)
  on_table_made p name None f each = tt
  on_table_made p name (Some table) f each = each table

  -- ---- changed documents

  -- it is old, where no change of it pends and the state has it
  abbrev pub Found : List Draft → DocId → Type 0
  Found log id = is_pending id.raw log ≡ false → (r : Recorded) → latest_of s.revisions id.raw ≡ Some r → Old id.raw

  found_more : (log more : List Draft) (id : DocId) → Found log id → Found (log ++ more) id
  found_more log more id h e =
      h (or_parts (is_pending id.raw log) (is_pending id.raw more)
      (sym (list_any-append (is_doc id.raw) log more) ∙ e)).0

  module _ (p : Progress) (made : DraftsMade p.made p.log) (id : DocId) (c : Content) (found : Found p.log id) where
    by_draft : (d x : Draft) (k : Bool) → (if k then Some d else None) ≡ Some x → Its p.made d → Its p.made x
    by_draft d x true e h = subst (Its p.made) (inside d x e) h
    by_draft d x false e h = cc

    by_last : (o : Option Draft) (last : Option Recorded) (x : Draft) → find (is_doc id.raw) (latest p.log) ≡ o
        → latest_of s.revisions id.raw ≡ last → revised_by c o last ≡ Some x → Its p.made x
    by_last (Some d) last x is there e =
        by_draft (again_of d c) x (is_kept d.content) e
        (all_found (Its p.made) id.raw (latest p.log) d (latest_keeps (Its p.made) [] p.log tt made) is)
    by_last None (Some r) x is there e =
        by_draft (next_of r c) x (is_kept r.revision.content) e
        (inr (subst Old (sym (latest_id id.raw s.revisions r there)) (found (not_pending id.raw p.log is) r there)))
    by_last None None x is there e = cc

    by_active : (ts : List Table) (o : Option Draft) (x : Draft) → if_active ts o ≡ Some x
        → (o ≡ Some x → Its p.made x) → Its p.made x
    by_active ts None x e h = cc
    by_active ts (Some d) x e h = by_active_draft (is_active ts d.table) e where
      by_active_draft : (k : Bool) → (if k then Some d else None) ≡ Some x → Its p.made x
      by_active_draft true e = h e
      by_active_draft false e = cc

    revised_made : (x : Draft) → revised s p id c ≡ Some x → Its p.made x
    revised_made x e =
        by_active (tables_now s p) (revised_by c (find (is_doc id.raw) (latest p.log)) (latest_of s.revisions id.raw))
        x e
        (by_last (find (is_doc id.raw) (latest p.log)) (latest_of s.revisions id.raw) x refl refl)

  abbrev AllIts : Progress → Option Draft → Type 0
  AllIts p o = (x : Draft) → o ≡ Some x → Its p.made x

  then_touched : (p : Progress) (o : Option Draft) (x : Result Effect Refusal) → AllIts p o
      → ResultMade (changed_by p (touched o)) x → ResultMade p (and_then (touched o) x)
  then_touched p o (Err cause) h k = tt
  then_touched p None (Ok f) h k =
      let same : p.made + 0 + f.made ≡ p.made + (0 + f.made) = omega arith in
      (subst (λ n. DraftsMade n f.log) same k.0, subst (λ n. IdsMade n (created_ids f.schema)) same k.1)
  then_touched p (Some d) (Ok f) h k =
      let same : p.made + 0 + f.made ≡ p.made + (0 + f.made) = omega arith in
      let first : Its (p.made + (0 + f.made)) d = its_more p.made (p.made + (0 + f.made)) d (omega arith) (h d refl) in
      ((first, subst (λ n. DraftsMade n f.log) same k.0), subst (λ n. IdsMade n (created_ids f.schema)) same k.1)

  log_after : (p : Progress) (o : Option Draft) → AllIts p o → DraftsMade p.made p.log
      → DraftsMade (changed_by p (touched o)).made (changed_by p (touched o)).log
  log_after p None h made =
      all_joined (Its (p.made + 0)) p.log [] (drafts_more p.made (p.made + 0) p.log (omega arith) made) tt
  log_after p (Some d) h made =
      all_joined (Its (p.made + 0)) p.log (d ∷ []) (drafts_more p.made (p.made + 0) p.log (omega arith) made)
      (its_more p.made (p.made + 0) d (omega arith) (h d refl), tt)

  abbrev pub AllFound : List Draft → List Row → Type 0
  AllFound log ds = AllByRecursion (λ (d : Row). Found log d.id) ds

  all_found_more : (log more : List Draft) (ds : List Row) → AllFound log ds → AllFound (log ++ more) ds
  all_found_more log more [] h = tt
  all_found_more log more (d ∷ ds) h = (found_more log more d.id h.0, all_found_more log more ds h.1)

  changes_made : (ds : List Row) (p : Progress) → DraftsMade p.made p.log → AllFound p.log ds
      → ResultMade p (stored_changes s p ds)
  changes_made [] p made all = (tt, tt)
  changes_made (d ∷ ds) p made all =
      let o = revised s p d.id (Kept d.value) in
      let its = revised_made p made d.id (Kept d.value) all.0 in
      unless_made p (not_kept (has_room_for p d.id) d.value) _
      (then_touched p o (stored_changes s (changed_by p (touched o)) ds) its
      (changes_made ds (changed_by p (touched o)) (log_after p o its made)
      (all_found_more p.log (touched o).log ds all.1)))

  all_ids_more : (log more : List Draft) (ids : List DocId) → AllByRecursion (Found log) ids
      → AllByRecursion (Found (log ++ more)) ids
  all_ids_more log more [] h = tt
  all_ids_more log more (id ∷ ids) h = (found_more log more id h.0, all_ids_more log more ids h.1)

  deletes_made : (ids : List DocId) (p : Progress) → DraftsMade p.made p.log → AllByRecursion (Found p.log) ids
      → ResultMade p (stored_deletes s p ids)
  deletes_made [] p made all = (tt, tt)
  deletes_made (id ∷ ids) p made all =
      let o = revised s p id Deleted in
      let its = revised_made p made id Deleted all.0 in
      unless_made p (no_room p id) _
      (then_touched p o (stored_deletes s (changed_by p (touched o)) ids) its
      (deletes_made ids (changed_by p (touched o)) (log_after p o its made)
      (all_ids_more p.log (touched o).log ids all.1)))

  -- ---- one statement

  abbrev pub Made : Progress → Type 0
  Made p = DraftsMade p.made p.log × IdsMade p.made (created_ids p.schema)

  -- the documents that it changes or deletes are old, where no change of them pends
  abbrev pub AreOld : Progress → List Value → Statement → Type 0
  AreOld p params (statement.Update from change) =
      AllFound p.log (changed_documents params change (rows_now s p params from))
  AreOld p params (statement.From from change) =
      AllFound p.log (changed_documents params change (rows_now s p params from))
  AreOld p params (statement.Delete from) = AllByRecursion (Found p.log) (deleted_documents (rows_now s p params from))
  AreOld p params _ = Unit {0}

  revision_made : (p : Progress) (n : RevisionName) (o : Option Recorded)
      → ResultMade p (of_revision s.revisions p.schema (redaction_of n) o)
  revision_made p n None = tt
  revision_made p n (Some r) = unless_made p (not_redacted s.revisions p.schema r) _ (tt, tt)

  redaction_made : (p : Progress) (o : Option RevisionName) → ResultMade p (of_name s p o)
  redaction_made p None = tt
  redaction_made p (Some n) = revision_made p n (named_by s.revisions (redaction_of n))

  statement_made : (p : Progress) (params : List Value) (st : Statement) → DraftsMade p.made p.log → AreOld p params st
      → ResultMade p (done_by_statement b s p params st)
  statement_made p params (statement.Create name) made old = created_made p name
  statement_made p params (statement.Index name field) made old =
      unless_made p (reserved name) _ (on_table_made p name (table_now s p name) _ (λ table.
      unless_made p (existing_index (indexes_now s p) name field table)
      _ (unless_made p (no_index_more (indexes_now s p) table) _ (tt, tt))))
  statement_made p params (statement.Drop name) made old =
      unless_made p (reserved name) _ (on_table_made p name (table_now s p name) _ (λ table. (tt, tt)))
  statement_made p params (statement.Insert name e) made old =
      unless_made p (reserved name) _ (on_table_made p name
      (table_now s p name) _ (λ table. documents_made table p (documents_in (meaning e (under [] params)))))
  statement_made p params (statement.Select select from) made old =
      unless_made p (first_absent s p from.sources) _ (tt, tt)
  statement_made p params (statement.Update from change) made old =
      unless_made p (first_own (is_root from.sources change) 0 from.sources)
      _ (unless_made p (first_absent s p from.sources) _ (changes_made _ p made old))
  statement_made p params (statement.From from change) made old =
      unless_made p (first_own (is_root from.sources change) 0 from.sources)
      _ (unless_made p (first_absent s p from.sources) _ (changes_made _ p made old))
  statement_made p params (statement.Delete from) made old =
      unless_made p (first_own (λ n. true) 0 from.sources)
      _ (unless_made p (first_absent s p from.sources) _ (deletes_made _ p made old))
  statement_made p params (statement.Redact address table document) made old =
      redaction_made p (named_revision params address table document)

  reading_made : (p : Progress) (items : List Item) (x : Result Effect Refusal) → ResultMade p x
      → ResultMade p (reading items x)
  reading_made p items (Err cause) h = tt
  reading_made p items (Ok e) h = h

  recorded_made : (p : Progress) (r : Request) (f : Effect) (q : Progress) → Made p → EffectMade p f
      → recorded p r (Ok f) ≡ Ok q → Made q
  recorded_made p r f q made h e =
      let same : record {
        said = q.said;
        schema = p.schema ++ f.schema;
        log = p.log ++ f.log;
        made =
            p.made + f.made;
        footprint = q.footprint;
      } ≡ q = cc e in
      let count : p.made ≤ p.made + f.made = omega arith in
      subst Made same (
        all_joined _ p.log f.log (drafts_more p.made (p.made + f.made) p.log count made.0) h.0,
        subst (IdsMade (p.made + f.made)) (sym (created_append p.schema f.schema))
            (all_joined _ (created_ids p.schema) (created_ids f.schema)
            (ids_more p.made (p.made + f.made) (created_ids p.schema) count made.1) h.1),
      )

  -- ---- all statements

  -- what holds of a run's footprint and its count, and so of those before
  module _ (F : Item → Type 0) (limit : ℕ) where
    abbrev pub Fine : Progress → Type 0
    Fine p = AllByRecursion F p.footprint × (p.made ≤ limit)

    recorded_fine : (p : Progress) (r : Request) (f : Effect) (q : Progress) → recorded p r (Ok f) ≡ Ok q → Fine q
        → Fine p × AllByRecursion F f.footprint
    recorded_fine p r f q h fine =
        let same : record {
          said = q.said;
          schema = q.schema;
          log = q.log;
          made = p.made + f.made;
          footprint =
              p.footprint ++ f.footprint;
        } ≡ q = cc h in
        let items = subst (AllByRecursion F) (sym (ap (λ (x : Progress). x.footprint) same)) fine.0 in
        let count : p.made + f.made ≤ limit =
        subst (λ n. n ≤ limit) (sym (ap (λ (x : Progress). x.made) same)) fine.1 in
        ((all_left F p.footprint f.footprint items, omega (arith, count)), all_right F p.footprint f.footprint items)

    run_fine : (j : ℕ) (p : Progress) (rs : List Request) (q : Progress) → run_from b s j p rs ≡ ran q → Fine q
        → Fine p
    run_fine j p [] q h fine = let same : q ≡ p = cc h in subst Fine same fine
    run_fine j p (r ∷ rs) q h fine =
        let w = first_of_run b s j p r rs q h in
        (recorded_fine p r w.effect w.after w.records (run_fine (j + 1) w.after rs q w.others fine)).0

    -- where all that is changed is old
    module _ (each : (p : Progress) (params : List Value) (st : Statement) → Made p → Fine p
        → AllByRecursion F (footprint_of (schemas_now s p) (views_of s p) params st) → AreOld p params st) where
      pub run_made : (j : ℕ) (p : Progress) (rs : List Request) (q : Progress) → Fine q → Made p
          → run_from b s j p rs ≡ ran q → Made q
      run_made j p [] q fine made h = let same : p ≡ q = cc h in subst Made same made
      run_made j p (r ∷ rs) q fine made h =
          let w = first_of_run b s j p r rs q h in
          let before = recorded_fine p r w.effect w.after w.records (run_fine (j + 1) w.after rs q w.others fine) in
          let read =
          subst (AllByRecursion F) (reading_says _ (done_by_statement b s p r.params w.st) w.effect w.does)
          before.1 in
          let old = each p r.params w.st made before.0 read in
          let does =
          subst (ResultMade p) w.does (reading_made p (footprint_of (schemas_now s p) (views_of s p) r.params w.st)
          (done_by_statement b s p r.params w.st) (statement_made p r.params w.st made.0 old)) in
          run_made (j + 1) w.after rs q fine (recorded_made p r w.effect w.after made does w.records) w.others
