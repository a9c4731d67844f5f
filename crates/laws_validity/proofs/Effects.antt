-- What a statement adds to a transaction keeps what holds of it so far.
use Rattle.std.proofs.Common.{◌≡◌, ◌+◌, ℕ, true, List, [], ◌++◌, Option, Some, None, Result, Ok, Err, refl, sym, subst, append-nil, append_assoc, arith}
use Rattle.std.specs.List.{AllByRecursion}
use Rattle.ql_types.specs.declared.TableId.{TableId}
use Rattle.ledger_model.specs.declared.block.Draft.{Draft}
use Rattle.ledger_model.specs.declared.block.Schema.{Schema}
use Rattle.ledger_model.specs.declared.outcome.Item.{Item}
use Rattle.ledger_model.specs.declared.outcome.Refusal.{Refusal}
use Rattle.ledger_model.specs.State.{State}
use Rattle.ledger_model.specs.Run.{Begun, Progress, Effect, unless, and_then, reading, changed_by, on_table, tables_now, table_now}
use Rattle.ledger_model.specs.Whole.{id_fits}
use Rattle.ledger_model.specs.Follows.{created_ids, has_table}
use Rattle.laws_validity.proofs.Lists.{all_append}
use Rattle.laws_validity.proofs.Shapes.{Shallow}
use Rattle.laws_validity.proofs.Tables.{active_is, active_has, active_fits, tables_fit}
use Rattle.laws_validity.proofs.Ready.{IsReady}
use Rattle.laws_validity.proofs.Progress.{ShallowSaid, Made}

-- a table that is active by now, or was before these changes
pub record IsThere (s : State) (schema : List Schema) (id : TableId) : Type 0 where
  pub table : has_table s.tables (created_ids schema) id ≡ true
  pub fits : id_fits id.raw ≡ true

module _ (b : Begun) (s : State) where
  abbrev pub MadeBy : Progress → Type 0
  MadeBy p = Made b s p.schema p.log p.made

  -- what holds of the transaction so far
  pub record FineProgress (p : Progress) : Type 0 where
    pub said : AllByRecursion ShallowSaid p.said
    pub made : MadeBy p

  -- what a statement adds
  pub record FineEffect (p : Progress) (e : Effect) : Type 0 where
    pub rows : AllByRecursion (Shallow 130) e.rows
    pub made : MadeBy (changed_by p e)

  abbrev pub Leaves : Progress → Result Effect Refusal → Type 0
  Leaves p (Ok e) = FineEffect p e
  Leaves p (Err cause) = Unit {0}

  pub same_made : (schema other : List Schema) (log others : List Draft) (made count : ℕ) → schema ≡ other
      → log ≡ others → made ≡ count
      → Made b s schema log made → Made b s other others count
  same_made schema other log others made count x y z m =
      subst (λ n. Made b s other others n) z
      (subst (λ l. Made b s other l made) y (subst (λ cs. Made b s cs log made) x m))

  -- ---- parts of statements

  pub unless_leaves : (p : Progress) (o : Option Refusal) (x : Result Effect Refusal) → (o ≡ None → Leaves p x)
      → Leaves p (unless o x)
  unless_leaves p None x h = h refl
  unless_leaves p (Some cause) x h = tt

  pub on_table_leaves : (p : Progress) (name : List ℕ) (f : TableId → Result Effect Refusal) (o : Option TableId)
      → ((id : TableId) → o ≡ Some id → Leaves p (f id)) → Leaves p (on_table name o f)
  on_table_leaves p name f None h = tt
  on_table_leaves p name f (Some id) h = h id refl

  -- one effect and then another
  pub then_leaves : (p : Progress) (e : Effect) → FineEffect p e → (x : Result Effect Refusal)
      → Leaves (changed_by p e) x → Leaves p (and_then e x)
  then_leaves p e one (Err cause) h = tt
  then_leaves p e one (Ok f) h = record {
    rows = all_append (Shallow 130) e.rows f.rows one.rows h.rows;
    made = same_made _ _ _ _ _ _ (append_assoc p.schema e.schema f.schema) (append_assoc p.log e.log f.log)
        (omega arith) h.made;
  }

  -- whatever it reads
  pub reading_leaves : (p : Progress) (items : List Item) (x : Result Effect Refusal) → Leaves p x
      → Leaves p (reading items x)
  reading_leaves p items (Err cause) h = tt
  reading_leaves p items (Ok e) h = record { rows = h.rows; made = h.made }

  -- no change and no document
  pub same_progress : (p : Progress) → MadeBy p → Made b s (p.schema ++ []) (p.log ++ []) (p.made + 0)
  same_progress p m = same_made _ _ _ _ _ _ (sym (append-nil p.schema)) (sym (append-nil p.log)) (omega arith) m

  -- the table that has a name by now
  pub table_there : IsReady b s → (p : Progress) → MadeBy p → (name : List ℕ) (id : TableId)
      → table_now s p name ≡ Some id → IsThere s p.schema id
  table_there ready p m name id t =
      let now = tables_now s p in
      record {
        table = active_has p.schema s.tables id (active_is now name id t);
        fits = active_fits now name id (tables_fit p.schema s.tables ready.tables m.fits) t;
      }
