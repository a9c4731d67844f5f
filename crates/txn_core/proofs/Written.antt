-- UPDATE, FROM with a change, and DELETE, as they end.
use Rattle.std.proofs.Common.{◌≡◌, ◌∙◌, ℕ, Bool, true, List, Option, Some, None, Result, Ok, Err, sym, ap, ap₂, subst}
use Rattle.ion_values.specs.declared.value.Value.{Value}
use Rattle.pql_model.specs.declared.statement.Change.{Change}
use Rattle.pql_model.specs.declared.statement.FromClause.{FromClause}
use Rattle.pql_model.specs.declared.tables.Row.{Row}
use Rattle.pql_model.specs.Effects.{changed_documents, deleted_documents}
use Rattle.pql_model.specs.From.{Combined}
use Rattle.ql_types.specs.declared.DocId.{DocId}
use Rattle.ledger_model.specs.declared.outcome.Refusal.{Refusal}
use Rattle.ledger_model.specs.State as state
use Rattle.ledger_model.specs.Run.{Progress, Effect, first_absent, tables_now, unless}
use Rattle.ledger_model.specs.Writing.{changed, deleted, first_own, is_root, rows_now, stored_changes, stored_deletes}
use Rattle.txn_core.specs.declared.effect.Effect as held
use Rattle.txn_core.specs.declared.stopped.ExecuteFault.{ExecuteFault}
use Rattle.txn_core.specs.declared.stopped.ExecuteFault.TheVariants as stopped
use Rattle.txn_core.specs.Inserts.{without}
use Rattle.txn_core.specs.Stops.{Does, StopsFor}
use Rattle.txn_core.specs.Writes.{rows_seen}
use Rattle.txn_core.proofs.Selects.{documents_now, first-absent-is, from-is}

-- ---- the rows

abbrev rows_wanted : state.State → Progress → List Value → FromClause → Result (List Combined) Refusal
rows_wanted s p params from = without (first_absent s p from.sources) (Ok (rows_now s p params from))

abbrev pub rows_held : state.State → Progress → List Value → FromClause → Result (List Combined) Refusal
rows_held s p params from = rows_seen (tables_now s p) s (documents_now s p) params from

rows-are : (s : state.State) (p : Progress) (params : List Value) (from : FromClause)
    → rows_held s p params from ≡ rows_wanted s p params from
rows-are s p params from =
    ap₂ (λ (cause : Option Refusal) (rows : List Combined). without cause (Ok rows))
    (first-absent-is s p from.sources) (sym (from-is s p params from))

-- what is done with rows, where there are some
on-rows : (cause : Option Refusal) (rows got : List Combined) (f : List Combined → Result Effect Refusal) → without cause (Ok rows) ≡ Ok got → unless cause (f rows) ≡ f got
on-rows None rows got f is = let same : rows ≡ got = cc in ap f same
on-rows (Some cause) rows got f is = let bad : ⊥ = cc in absurd bad

no-rows : (cause : Option Refusal) (rows : List Combined) (e : Result Effect Refusal) (why : Refusal) → without cause (Ok rows) ≡ Err why → unless cause e ≡ Err why
no-rows None rows e why is = let bad : ⊥ = cc in absurd bad
no-rows (Some cause) rows e why is = let same : cause ≡ why = cc in ap (λ (x : Refusal). Err x) same

module _ (s : state.State) (p : Progress) (params : List Value) (from : FromClause)
    (w : ℕ → Bool) (f : List Combined → Result Effect Refusal) where
  abbrev written : Result Effect Refusal
  written = unless (first_own w 0 from.sources) (unless (first_absent s p from.sources) (f (rows_now s p params from)))

  written-own : (cause : Refusal) → first_own w 0 from.sources ≡ Some cause → written ≡ Err cause
  written-own cause is = ap (λ (x : Option Refusal). unless x (unless (first_absent s p from.sources) (f (rows_now s p params from)))) is

  written-free : first_own w 0 from.sources ≡ None → written ≡ unless (first_absent s p from.sources) (f (rows_now s p params from))
  written-free is = ap (λ (x : Option Refusal). unless x (unless (first_absent s p from.sources) (f (rows_now s p params from)))) is

  written-nowhere : (why : ExecuteFault) → first_own w 0 from.sources ≡ None → StopsFor why (λ cause. rows_held s p params from ≡ Err cause)
      → StopsFor why (λ cause. written ≡ Err cause)
  written-nowhere (stopped.Refused cause) free is =
      written-free free
      ∙ no-rows (first_absent s p from.sources) (rows_now s p params from) (f (rows_now s p params from)) cause (sym (rows-are s p params from) ∙ is)
  written-nowhere stopped.OutOfMemory free is = tt

  written-there : (rows : List Combined) (result : Result held.Effect ExecuteFault) → first_own w 0 from.sources ≡ None → rows_held s p params from ≡ Ok rows
      → Does result (f rows) → Does result written
  written-there rows result free there does =
      let same : f rows ≡ written =
      sym (written-free free
      ∙ on-rows (first_absent s p from.sources) (rows_now s p params from) rows f (sym (rows-are s p params from) ∙ there)) in
      subst (λ (r : Result Effect Refusal). Does result r) same does

-- ---- UPDATE, and FROM with a change

module _ (s : state.State) (p : Progress) (params : List Value) (from : FromClause) (c : Change)
    (w : ℕ → Bool) (roots : w ≡ is_root from.sources c) where
  own-is : (cause : Option Refusal) → cause ≡ first_own w 0 from.sources → first_own (is_root from.sources c) 0 from.sources ≡ cause
  own-is cause is = sym (is ∙ ap (λ (x : ℕ → Bool). first_own x 0 from.sources) roots)

  abbrev stores : List Combined → Result Effect Refusal
  stores rows = stored_changes s p (changed_documents params c rows)

  pub changed_own : (o : Option Refusal) (cause : Refusal) → o ≡ first_own w 0 from.sources → o ≡ Some cause → changed s p params from c ≡ Err cause
  changed_own o cause own is = written-own s p params from (is_root from.sources c) stores cause (own-is o own ∙ is)

  pub changed_nowhere : (o : Option Refusal) (why : ExecuteFault) → o ≡ first_own w 0 from.sources → o ≡ None
      → StopsFor why (λ cause. rows_held s p params from ≡ Err cause) → StopsFor why (λ cause. changed s p params from c ≡ Err cause)
  changed_nowhere o why own none is = written-nowhere s p params from (is_root from.sources c) stores why (own-is o own ∙ none) is

  pub changed_there : (o : Option Refusal) (rows : List Combined) (documents : List Row) (result : Result held.Effect ExecuteFault) → o ≡ first_own w 0 from.sources → o ≡ None
      → rows_held s p params from ≡ Ok rows → documents ≡ changed_documents params c rows → Does result (stored_changes s p documents)
      → Does result (changed s p params from c)
  changed_there o rows documents result own none there are does =
      written-there s p params from (is_root from.sources c) stores rows result (own-is o own ∙ none) there
      (subst (λ (ds : List Row). Does result (stored_changes s p ds)) are does)

-- ---- DELETE

module _ (s : state.State) (p : Progress) (params : List Value) (from : FromClause) where
  abbrev ends : List Combined → Result Effect Refusal
  ends rows = stored_deletes s p (deleted_documents rows)

  pub deleted_own : (o : Option Refusal) (cause : Refusal) → o ≡ first_own (λ n. true) 0 from.sources → o ≡ Some cause → deleted s p params from ≡ Err cause
  deleted_own o cause own is = written-own s p params from (λ n. true) ends cause (sym own ∙ is)

  pub deleted_nowhere : (o : Option Refusal) (why : ExecuteFault) → o ≡ first_own (λ n. true) 0 from.sources → o ≡ None
      → StopsFor why (λ cause. rows_held s p params from ≡ Err cause) → StopsFor why (λ cause. deleted s p params from ≡ Err cause)
  deleted_nowhere o why own none is = written-nowhere s p params from (λ n. true) ends why (sym own ∙ none) is

  pub deleted_there : (o : Option Refusal) (rows : List Combined) (ids : List DocId) (result : Result held.Effect ExecuteFault) → o ≡ first_own (λ n. true) 0 from.sources → o ≡ None
      → rows_held s p params from ≡ Ok rows → ids ≡ deleted_documents rows → Does result (stored_deletes s p ids) → Does result (deleted s p params from)
  deleted_there o rows ids result own none there are does =
      written-there s p params from (λ n. true) ends rows result (sym own ∙ none) there
      (subst (λ (xs : List DocId). Does result (stored_deletes s p xs)) are does)
