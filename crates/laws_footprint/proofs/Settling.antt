-- What a run has touched is its own or stood there before it, and behind blocks that don't touch what it read it is
-- settled.
use Rattle.std.proofs.Common.{◌≡◌, inl, inr, ◌<◌, ℕ, ◌^◌, Bool, true, false, nat_lt, ◌==◌, List, [], ◌∷◌, drop, map, take, ap, subst, arith, Option, Some, None}
use Rattle.std.specs.Prelude.{is_none, if◌then◌else◌}
use Rattle.std.specs.List.{AllByRecursion, list_any}
use Rattle.ion_values.specs.declared.value.Value.{Value}
use Rattle.ql_types.specs.declared.DocId.{DocId}
use Rattle.pql_model.specs.Effects.{changed_documents, deleted_documents}
use Rattle.pql_model.specs.declared.statement.FromClause.{FromClause}
use Rattle.pql_model.specs.declared.statement.Statement.{Statement}
use Rattle.pql_model.specs.declared.statement.Statement.TheVariants as statement
use Rattle.pql_model.specs.declared.tables.Row.{Row}
use Rattle.ledger_model.specs.declared.block.Block.{Block}
use Rattle.ledger_model.specs.declared.block.Draft.{Draft}
use Rattle.ledger_model.specs.declared.outcome.Item.{Item}
use Rattle.ledger_model.specs.Follows.{created_ids, latest_of}
use Rattle.ledger_model.specs.Footprints.{footprint_of, read_by_sources}
use Rattle.ledger_model.specs.Run.{Begun, Progress, schemas_now, start, views_of}
use Rattle.ledger_model.specs.Script.{or_else}
use Rattle.ledger_model.specs.State.{Recorded, State, draft_of, empty, state}
use Rattle.ledger_model.specs.Writing.{rows_now}
use Rattle.laws_footprint.specs.Framed.{IsSettled}
use Rattle.laws_footprint.specs.Naming.{is_pending}
use Rattle.laws_footprint.specs.Own.{IdsFit, is_by}
use Rattle.laws_footprint.specs.RunIsOwn.{IsOwnOrOld, RunIsKept, RunIsSettled, RunOwnsAll}
use Rattle.laws_footprint.specs.Stillness.{block_revises}
use Rattle.laws_footprint.specs.Touches.{id_of}
use Rattle.pql_model.proofs.Equality.{inside}
use Rattle.laws_footprint.proofs.Histories.{Steady, steady_behind}
use Rattle.laws_footprint.proofs.Owning.{follow_take}
use Rattle.laws_footprint.proofs.NamedBy.{changed_named, deleted_named}
use Rattle.laws_footprint.proofs.Naming.{NamedDoc, OfRows, all_named_docs, of_rows}
use Rattle.laws_footprint.proofs.Rows.{all_untouched, fits_before, no_conflict}
use Rattle.laws_footprint.proofs.RunsOwn.{AllFound, AreOld, DraftsMade, Fine, Found, IdsMade, IsMade, Its, Made, made_fits, made_own, run_made}
use Rattle.laws_footprint.proofs.Schemas.{Untouched}
use Rattle.laws_footprint.proofs.Still.{state_split}
use Rattle.laws_footprint.proofs.StillDocuments.{latest_id}
use Rattle.laws_footprint.proofs.Transactions.{transaction_is_framed}

module _ (b : Begun) (s : State) (Old : ℕ → Type 0) where
  created_own : (made : ℕ) (ids : List ℕ) → made < 2 ^ 24 → IdsMade b s Old made ids
      → AllByRecursion (λ id. is_by b.mask b.number id ≡ true) ids
  created_own made [] few h = tt
  created_own made (id ∷ ids) few h = (made_own b made id few h.0, created_own made ids few h.1)

  its_fits : (made : ℕ) (d : Draft) → b.mask < 2 ^ 128 → b.number < 2 ^ 64 → made < 2 ^ 24
      → (Old d.id.raw → nat_lt d.id.raw (2 ^ 128) ≡ true) → Its b s Old made d → nat_lt d.id.raw (2 ^ 128) ≡ true
  its_fits made d mask number few fits (inl own) = made_fits b made d.id.raw mask number few own
  its_fits made d mask number few fits (inr old) = fits old

  drafts_fit : (made : ℕ) (ds : List Draft) → b.mask < 2 ^ 128 → b.number < 2 ^ 64 → made < 2 ^ 24
      → ((id : ℕ) → Old id → nat_lt id (2 ^ 128) ≡ true) → DraftsMade b s Old made ds → IdsFit ds
  drafts_fit made [] mask number few fits h = tt
  drafts_fit made (d ∷ ds) mask number few fits h =
      (its_fits made d mask number few (fits d.id.raw) h.0, drafts_fit made ds mask number few fits h.1)

  by_its : (P : Draft → Type 0) (made : ℕ) (d : Draft) → (IsMade b made d.id.raw → P d) → (Old d.id.raw → P d)
      → Its b s Old made d → P d
  by_its P made d own old (inl h) = own h
  by_its P made d own old (inr h) = old h

  all_its : (P : Draft → Type 0) (made : ℕ) (ds : List Draft) → ((d : Draft) → IsMade b made d.id.raw → P d)
      → ((d : Draft) → Old d.id.raw → P d) → DraftsMade b s Old made ds → AllByRecursion P ds
  all_its P made [] own old h = tt
  all_its P made (d ∷ ds) own old h = (by_its P made d (own d) (old d) h.0, all_its P made ds own old h.1)

-- ---- its own, or old

abbrev Stood : State → ℕ → Type 0
Stood s id =
    (is_none (latest_of s.revisions id) ≡ false) × (IdsFit (map draft_of s.revisions) → nat_lt id (2 ^ 128) ≡ true)

found_fits : (id : ℕ) (r x : Recorded) (b : Bool) → (if b then Some r else None) ≡ Some x
    → nat_lt (id_of r) (2 ^ 128) ≡ true → nat_lt (id_of x) (2 ^ 128) ≡ true
found_fits id r x true e h = subst (λ (y : Recorded). nat_lt (id_of y) (2 ^ 128) ≡ true) (inside r x e) h
found_fits id r x false e h = cc

rest_fits : (id : ℕ) (r x : Recorded) (o : Option Recorded)
    → or_else o (if id_of r == id then Some r else None) ≡ Some x → nat_lt (id_of r) (2 ^ 128) ≡ true
    → (o ≡ Some x → nat_lt (id_of x) (2 ^ 128) ≡ true) → nat_lt (id_of x) (2 ^ 128) ≡ true
rest_fits id r x None e h rest = found_fits id r x (id_of r == id) e h
rest_fits id r x (Some y) e h rest = rest e

latest_fits : (rs : List Recorded) (id : ℕ) (x : Recorded) → IdsFit (map draft_of rs) → latest_of rs id ≡ Some x
    → nat_lt (id_of x) (2 ^ 128) ≡ true
latest_fits [] id x fit e = cc
latest_fits (r ∷ rs) id x fit e = rest_fits id r x (latest_of rs id) e fit.0 (latest_fits rs id x fit.1)

module _ (s : State) where
  stood : (log : List Draft) (id : DocId) → is_pending id.raw log ≡ false → (r : Recorded)
      → latest_of s.revisions id.raw ≡ Some r → Stood s id.raw
  stood log id not r is = (
    ap is_none is,
    λ fit. subst (λ n. nat_lt n (2 ^ 128) ≡ true) (latest_id id.raw s.revisions r is)
        (latest_fits s.revisions id.raw r fit is),
  )

  all_stood : (b : Begun) (log : List Draft) (ds : List Row) → AllFound b s (Stood s) log ds
  all_stood b log [] = tt
  all_stood b log (d ∷ ds) = (stood log d.id, all_stood b log ds)

  all_ids_stood : (b : Begun) (log : List Draft) (ids : List DocId) → AllByRecursion (Found b s (Stood s) log) ids
  all_ids_stood b log [] = tt
  all_ids_stood b log (id ∷ ids) = (stood log id, all_ids_stood b log ids)

  are_old : (b : Begun) (p : Progress) (params : List Value) (st : Statement) → AreOld b s (Stood s) p params st
  are_old b p params (statement.Update from change) =
      all_stood b p.log (changed_documents params change (rows_now s p params from))
  are_old b p params (statement.From from change) =
      all_stood b p.log (changed_documents params change (rows_now s p params from))
  are_old b p params (statement.Delete from) = all_ids_stood b p.log (deleted_documents (rows_now s p params from))
  are_old b p params (statement.Create name) = tt
  are_old b p params (statement.Index name field) = tt
  are_old b p params (statement.Drop name) = tt
  are_old b p params (statement.Redact address table document) = tt
  are_old b p params (statement.Insert name e) = tt
  are_old b p params (statement.Select select from) = tt

no_demand : (items : List Item) → AllByRecursion (λ (i : Item). Unit {0}) items
no_demand [] = tt
no_demand (i ∷ items) = (tt, no_demand items)

pub run_owns_all : RunOwnsAll
run_owns_all b s asked p h within =
    let made =
    run_made b s (Stood s) (λ i. Unit {0}) p.made (λ q params st m fine read. are_old s b q params st) 1 start asked p
    (no_demand p.footprint, omega arith) (tt, tt) h in
    record {
      documents =
          all_its b s (Stood s) (IsOwnOrOld b.mask b.number s) p.made p.log
          (λ d m. inl (made_own b p.made d.id.raw within.made m)) (λ d old. inr old.0) made.0;
      tables = created_own b s (Stood s) p.made (created_ids p.schema) within.made made.1;
      fit =
          λ fits. drafts_fit b s (Stood s) p.made p.log within.mask within.number within.made
          (λ id old. old.1 fits) made.0;
    }

-- ---- settled

module _ (b : Begun) (m : ℕ) (s : State) (later : List Block) (fit : IdsFit (map draft_of s.revisions))
    (steady : Steady s) where
  -- no later block has a revision of it
  abbrev Kept : ℕ → Type 0
  Kept id = (list_any (block_revises id) later ≡ false) × (nat_lt id (2 ^ 128) ≡ true)

  named_found : (p : Progress) (from : FromClause) (n : ℕ) (id : DocId) → NamedDoc s later p from n id
      → Found b s Kept p.log id
  named_found p from n id named not r is = (named.unrevised not, named.fits)

  module _ (limit : ℕ) (mask : b.mask < 2 ^ 128) (number : b.number < 2 ^ 64) (few : limit < 2 ^ 24) where
    docs_found : (p : Progress) (params : List Value) (from : FromClause) → Made b s Kept p
        → Fine b s Kept (Untouched s later) limit p
        → AllByRecursion (Untouched s later)
        (read_by_sources (schemas_now s p) (views_of s p) params from)
        → OfRows (Found b s Kept p.log) (rows_now s p params from)
    docs_found p params from made fine read =
        of_rows s later p from (Found b s Kept p.log) (rows_now s p params from) (named_found p from)
        (all_named_docs m s later p params from fit
        (drafts_fit b s Kept p.made p.log mask number (omega (arith, fine.1, few)) (λ id old. old.1) made.0)
        (inr steady) (no_conflict m s later (read_by_sources (schemas_now s p) (views_of s p) params from) read))

    are_kept : (p : Progress) (params : List Value) (st : Statement) → Made b s Kept p
        → Fine b s Kept (Untouched s later) limit p
        → AllByRecursion (Untouched s later) (footprint_of (schemas_now s p) (views_of s p) params st)
        → AreOld b s Kept p params st
    are_kept p params (statement.Update from change) made fine read =
        changed_named (Found b s Kept p.log) params change (rows_now s p params from)
        (docs_found p params from made fine read)
    are_kept p params (statement.From from change) made fine read =
        changed_named (Found b s Kept p.log) params change (rows_now s p params from)
        (docs_found p params from made fine read)
    are_kept p params (statement.Delete from) made fine read =
        deleted_named (Found b s Kept p.log) (rows_now s p params from) (docs_found p params from made fine read)
    are_kept p params (statement.Create name) made fine read = tt
    are_kept p params (statement.Index name field) made fine read = tt
    are_kept p params (statement.Drop name) made fine read = tt
    are_kept p params (statement.Redact address table document) made fine read = tt
    are_kept p params (statement.Insert name e) made fine read = tt
    are_kept p params (statement.Select select from) made fine read = tt

pub run_is_settled : RunIsSettled
run_is_settled b blocks since asked p h within journal none =
    let s = state (take since blocks) in
    let later = drop since blocks in
    let fit_all =
    subst (λ (x : State). IdsFit (map draft_of x.revisions)) (state_split empty since blocks) journal.fit in
    let fit = fits_before s later fit_all in
    let steady =
    steady_behind b.mask empty (take since blocks)
    (follow_take b.mask b.number since empty blocks journal.follow) tt in
    let Old = Kept b since s later fit steady in
    let made =
    run_made b s Old (Untouched s later) p.made
    (are_kept b since s later fit steady p.made within.mask within.number within.made) 1 start asked p
    (all_untouched since s later p.footprint none, omega arith) (tt, tt) h in
    record {
      follow = journal.follow;
      number = journal.number;
      documents =
          all_its b s Old (IsSettled b.mask b.number later) p.made p.log
          (λ d m. inl (made_own b p.made d.id.raw within.made m)) (λ d old. inr old.0) made.0;
      tables = created_own b s Old p.made (created_ids p.schema) within.made made.1;
      fit = journal.fit;
      own_fit = drafts_fit b s Old p.made p.log within.mask within.number within.made (λ id old. old.1) made.0;
    }

pub run_is_kept : RunIsKept
run_is_kept b blocks since asked p h within journal none =
    transaction_is_framed b blocks since asked p h (run_is_settled b blocks since asked p h within journal none) none
