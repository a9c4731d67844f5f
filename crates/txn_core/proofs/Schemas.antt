-- Statements that change the schema of a table that is there.
use Rattle.std.proofs.Common.{◌≡◌, ℕ, List, [], ◌∷◌, ◌++◌, Option, Some, None, Result, Ok, Err, refl, sym, ◌∙◌, ap, ap₂}
use Rattle.std.specs.Prelude.{codes}
use Rattle.ql_types.specs.declared.TableId.{TableId}
use Rattle.ion_values.specs.declared.value.Value.{Value}
use Rattle.ledger_model.specs.declared.block.Schema.{Schema}
use Rattle.ledger_model.specs.declared.block.Schema.TheVariants.{Drop, Index}
use Rattle.ledger_model.specs.declared.outcome.Refusal.{Refusal}
use Rattle.ledger_model.specs.Script.{or_else}
use Rattle.ledger_model.specs.State as state
use Rattle.ledger_model.specs.Values.{named_id}
use Rattle.ledger_model.specs.Run.{Effect, Progress, dropped, indexed, nothing, on_table, reserved, table_now, unless}
use Rattle.ledger_model.specs.SchemaChanges.{existing_index, indexes_now, no_index_more, schema_change}
use Rattle.txn_core.specs.declared.stopped.ExecuteFault.{ExecuteFault}
use Rattle.txn_core.specs.declared.stopped.ExecuteFault.TheVariants as stopped
use Rattle.txn_core.specs.Stops.{StopsFor}
use Rattle.txn_core.specs.Transactions.{found_unless, not_indexed}
use Rattle.txn_core.proofs.Effects.{on-found, on-none}

pub schema_changed : (table : TableId) (change : Schema) (e : Effect) (row : Value) (rows : List Value) (changes : List Schema)
    → e ≡ nothing → row ≡ named_id (codes "tableId") table.raw → rows ≡ e.rows ++ row ∷ [] → changes ≡ e.schema ++ change ∷ []
    → record { rows = rows; schema = changes; log = e.log; made = e.made; footprint = e.footprint } ≡ schema_change table change
schema_changed table change e row rows changes empty row_is rows_is changes_is =
    let rows_now : rows ≡ (schema_change table change).rows = rows_is ∙ ap₂ (λ (x : Effect) (r : Value). x.rows ++ r ∷ []) empty row_is in
    let changes_now : changes ≡ change ∷ [] = changes_is ∙ ap (λ (x : Effect). x.schema ++ change ∷ []) empty in
    λ i. record {
      rows = rows_now i;
      schema = changes_now i;
      log = ap (λ (x : Effect). x.log) empty i;
      made = ap (λ (x : Effect). x.made) empty i;
      footprint = ap (λ (x : Effect). x.footprint) empty i;
    }

-- ---- the table that a statement changes

on-free : (own : Option Refusal) (name : List ℕ) (t : Option TableId) (table : TableId) (f : TableId → Result Effect Refusal)
    → found_unless own name t ≡ Ok table → unless own (on_table name t f) ≡ f table
on-free None name t table f is = on-found name t table f is
on-free (Some cause) name t table f is = let bad : ⊥ = cc in absurd bad

on-stopped : (own : Option Refusal) (name : List ℕ) (t : Option TableId) (f : TableId → Result Effect Refusal) (why : ExecuteFault)
    → StopsFor why (λ cause. found_unless own name t ≡ Err cause) → StopsFor why (λ cause. unless own (on_table name t f) ≡ Err cause)
on-stopped None name t f (stopped.Refused cause) is = on-none name t cause f is
on-stopped (Some own) name t f (stopped.Refused cause) is = let same : own ≡ cause = cc in ap (λ (x : Refusal). Err x) same
on-stopped own name t f stopped.OutOfMemory is = tt

-- ---- DROP TABLE

pub dropped_there : (s : state.State) (p : Progress) (name kept : List ℕ) (table : TableId) (e : Effect)
    → found_unless (reserved name) name (table_now s p name) ≡ Ok table → kept ≡ name → e ≡ schema_change table (Drop kept table) → dropped s p name ≡ Ok e
dropped_there s p name kept table e there kept_is is =
    on-free (reserved name) name (table_now s p name) table (λ t. Ok (schema_change t (Drop name t))) there
    ∙ ap (λ (x : List ℕ). Ok (schema_change table (Drop x table))) (sym kept_is) ∙ ap (λ (x : Effect). Ok x) (sym is)

pub dropped_nowhere : (s : state.State) (p : Progress) (name : List ℕ) (why : ExecuteFault)
    → StopsFor why (λ cause. found_unless (reserved name) name (table_now s p name) ≡ Err cause) → StopsFor why (λ cause. dropped s p name ≡ Err cause)
dropped_nowhere s p name why is = on-stopped (reserved name) name (table_now s p name) (λ t. Ok (schema_change t (Drop name t))) why is

-- ---- CREATE INDEX

abbrev index_on : state.State → Progress → List ℕ → List ℕ → TableId → Result Effect Refusal
index_on s p name field t =
    unless (existing_index (indexes_now s p) name field t) (unless (no_index_more (indexes_now s p) t) (Ok (schema_change t (Index field t))))

by-two : (a b : Option Refusal) (e : Result Effect Refusal) → unless a (unless b e) ≡ unless (or_else a b) e
by-two (Some cause) b e = refl
by-two None b e = refl

indexed-on : (s : state.State) (p : Progress) (name field : List ℕ) (table : TableId) (cause : Option Refusal)
    → found_unless (reserved name) name (table_now s p name) ≡ Ok table → not_indexed (indexes_now s p) name field table ≡ cause
    → indexed s p name field ≡ unless cause (Ok (schema_change table (Index field table)))
indexed-on s p name field table cause there is =
    on-free (reserved name) name (table_now s p name) table (index_on s p name field) there
    ∙ by-two (existing_index (indexes_now s p) name field table) (no_index_more (indexes_now s p) table) (Ok (schema_change table (Index field table)))
    ∙ ap (λ (x : Option Refusal). unless x (Ok (schema_change table (Index field table)))) is

pub indexed_there : (s : state.State) (p : Progress) (name field kept : List ℕ) (table : TableId) (e : Effect)
    → found_unless (reserved name) name (table_now s p name) ≡ Ok table → not_indexed (indexes_now s p) name field table ≡ None
    → kept ≡ field → e ≡ schema_change table (Index kept table) → indexed s p name field ≡ Ok e
indexed_there s p name field kept table e there free kept_is is =
    indexed-on s p name field table None there free
    ∙ ap (λ (x : List ℕ). Ok (schema_change table (Index x table))) (sym kept_is) ∙ ap (λ (x : Effect). Ok x) (sym is)

pub indexed_refused : (s : state.State) (p : Progress) (name field : List ℕ) (table : TableId) (cause : Refusal)
    → found_unless (reserved name) name (table_now s p name) ≡ Ok table → not_indexed (indexes_now s p) name field table ≡ Some cause
    → indexed s p name field ≡ Err cause
indexed_refused s p name field table cause there is = indexed-on s p name field table (Some cause) there is

pub indexed_nowhere : (s : state.State) (p : Progress) (name field : List ℕ) (why : ExecuteFault)
    → StopsFor why (λ cause. found_unless (reserved name) name (table_now s p name) ≡ Err cause) → StopsFor why (λ cause. indexed s p name field ≡ Err cause)
indexed_nowhere s p name field why is = on-stopped (reserved name) name (table_now s p name) (index_on s p name field) why is
