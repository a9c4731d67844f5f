-- CREATE INDEX and DROP TABLE keep what holds of a transaction so far.
use Rattle.std.proofs.Common.{◌≡◌, ℕ, Bool, true, false, List, [], ◌∷◌, Some, None, refl, sym, append-nil, if◌then◌else◌, arith}
use Rattle.std.specs.Prelude.{codes}
use Rattle.std.proofs.lemmas.Bool.{and_from, eq-eqb, not_from_false}
use Rattle.ql_types.specs.declared.TableId.{TableId}
use Rattle.ledger_model.specs.declared.block.Schema.{Schema}
use Rattle.ledger_model.specs.declared.block.Schema.TheVariants.{Drop, Index}
use Rattle.ledger_model.specs.declared.outcome.Refusal.TheVariants.{IndexExists}
use Rattle.ledger_model.specs.Follows.{created_id, change_follows, has_index, is_named}
use Rattle.ledger_model.specs.Run.{Begun, Progress, created_count, reserved, table_now, tables_now}
use Rattle.ledger_model.specs.SchemaChanges.{dropped, existing_index, indexed, indexes_now, no_index_more, schema_change}
use Rattle.ledger_model.specs.State.{Indexed, State, Table, active_table, all_changed, all_indexed}
use Rattle.ledger_model.specs.Whole.{schema_fits}
use Rattle.laws_validity.proofs.Changes.{change_more}
use Rattle.laws_validity.proofs.Effects.{FineEffect, Leaves, MadeBy, on_table_leaves, same_made, table_there, unless_leaves}
use Rattle.laws_validity.proofs.Parts.{shallow_id}
use Rattle.laws_validity.proofs.Ready.{IsReady}
use Rattle.laws_validity.proofs.Tables.{active_is}

free_field : (is : List Indexed) (name field : List ℕ) (table : TableId) → existing_index is name field table ≡ None
    → has_index is table field ≡ false
free_field is name field table e = by_test (has_index is table field) e where
  by_test : (b : Bool) → (if b then Some (IndexExists name field) else None) ≡ None → b ≡ false
  by_test true k = cc
  by_test false k = refl

named_by : (ts : List Table) (name : List ℕ) (id : TableId) → active_table ts name ≡ Some id
    → is_named ts name id ≡ true
named_by ts name id e = rw e (eq-eqb id.raw id.raw refl)

module _ (b : Begun) (s : State) (ready : IsReady b s) where
  -- a change that creates no table and follows those before it
  fine_change : (p : Progress) (table : TableId) (c : Schema) → MadeBy b s p → created_id c ≡ []
      → created_count (c ∷ []) ≡ 0 → schema_fits c ≡ true
      → change_follows (all_changed s.tables p.schema) (all_indexed s.indexes p.schema) c ≡ true
      → FineEffect b s p (schema_change table c)
  fine_change p table c m none uncounted fits follows =
      let more = change_more b s p.schema p.log p.made m c none uncounted fits follows in
      record {
        rows = (shallow_id (codes "tableId") table.raw, tt);
        made = same_made b s _ _ _ _ _ _ refl (sym (append-nil p.log)) (omega arith) more;
      }

  pub leaves_index : (p : Progress) (name field : List ℕ) → MadeBy b s p → Leaves b s p (indexed s p name field)
  leaves_index p name field m =
      unless_leaves b s p (reserved name) _ (λ _. on_table_leaves b s p name _ (table_now s p name) (λ id t.
      unless_leaves b s p (existing_index (indexes_now s p) name field id) _ (λ free.
      unless_leaves b s p (no_index_more (indexes_now s p) id) _ (λ _.
      fine_change p id (Index field id) m refl refl (table_there b s ready p m name id t).fits
      (and_from _ _ (active_is (tables_now s p) name id t)
      (not_from_false _ (free_field (indexes_now s p) name field id free)))))))

  pub leaves_drop : (p : Progress) (name : List ℕ) → MadeBy b s p → Leaves b s p (dropped s p name)
  leaves_drop p name m =
      unless_leaves b s p (reserved name) _ (λ _. on_table_leaves b s p name _ (table_now s p name) (λ id t.
      fine_change p id (Drop name id) m refl refl (table_there b s ready p m name id t).fits
      (named_by (tables_now s p) name id t)))
