-- The frame of UPDATE, FROM with a change, and DELETE: what each touch makes of a document is the same.
use Rattle.std.proofs.Common.{◌≡◌, ◌∙◌, ◌⊎◌, inl, inr, ℕ, Bool, true, false, not, cond, ◌==◌, ◌&&◌, ◌||◌, List, [], ◌∷◌, ◌++◌, map, refl, sym, ap, subst, slice_get, Option, Some, None, Result, Ok, Err}
use Rattle.std.specs.Prelude.{if◌then◌else◌}
use Rattle.std.specs.List.{AllByRecursion, find}
use Rattle.std.specs.Str.{bytes_eq}
use Rattle.std.proofs.lemmas.Bool.{eq-eqb, eqb-true, false≢true, or_left, or_right, true≢false}
use Rattle.std.proofs.lemmas.List.{append-nil}
use Rattle.std.proofs.lemmas.List.Folds.{list_any-append}
use Rattle.ql_types.specs.declared.DocId.{DocId}
use Rattle.ql_types.specs.declared.TableId.{TableId}
use Rattle.pql_model.specs.declared.statement.FromClause.{FromClause}
use Rattle.pql_model.specs.declared.statement.Source.{Source}
use Rattle.pql_model.specs.declared.tables.Row.{Row}
use Rattle.ledger_model.specs.declared.block.Block.{Block}
use Rattle.ledger_model.specs.declared.block.Content.{Content}
use Rattle.ledger_model.specs.declared.block.Content.TheVariants.{Deleted, Kept}
use Rattle.ledger_model.specs.declared.block.Draft.{Draft}
use Rattle.ledger_model.specs.declared.block.Schema.{Schema}
use Rattle.ledger_model.specs.declared.block.Schema.TheVariants.{Create, Index, Drop, Redact}
use Rattle.ledger_model.specs.declared.outcome.Item.TheVariants as item
use Rattle.ledger_model.specs.declared.outcome.Refusal.{Refusal}
use Rattle.ledger_model.specs.Follows.{is_active, is_kept, latest_of}
use Rattle.ledger_model.specs.Progress.{Effect, Progress, and_then, changed_by, not_kept, table_now, tables_now, unless}
use Rattle.ledger_model.specs.State.{Recorded, State, Table, active_table, all_changed, changed, dropped, state_from}
use Rattle.ledger_model.specs.Views.{latest}
use Rattle.ledger_model.specs.Writing.{again_of, has_room_for, if_active, next_of, no_room, revised, revised_by, stored_changes, stored_deletes, touched, touching}
use Rattle.pql_model.proofs.Equality.{inside}
use Rattle.laws_footprint.proofs.Naming.{NamedDoc}
use Rattle.laws_footprint.proofs.Pending.{all_found, find_more, is_doc, latest_keeps, none_of, not_pending}
use Rattle.laws_footprint.proofs.Revised.{latest_behind}
use Rattle.laws_footprint.proofs.Rows.{is_plain, table_same}
use Rattle.laws_footprint.proofs.Schemas.{Untouched}

-- ---- which tables are active

drop_by : (a b c d r : Bool) → (b ≡ true → c ≡ a)
    → (((if c then false else d) && b) || (not a && r)) ≡ (not a && ((d && b) || r))
drop_by true true true d r h = refl
drop_by true true false d r h = absurd (false≢true (h refl))
drop_by true false true d r h = refl
drop_by true false false true r h = refl
drop_by true false false false r h = refl
drop_by false true true d r h = absurd (true≢false (h refl))
drop_by false true false d r h = refl
drop_by false false true true r h = refl
drop_by false false true false r h = refl
drop_by false false false d r h = refl

active_dropped : (ts : List Table) (id t : TableId)
    → is_active (map (dropped id) ts) t ≡ (not (t.raw == id.raw) && is_active ts t)
active_dropped [] id t = none (t.raw == id.raw) where
  none : (b : Bool) → false ≡ (not b && false)
  none true = refl
  none false = refl
active_dropped (x ∷ xs) id t =
    ap (λ r. ((if x.id.raw == id.raw then false else x.active) && (x.id.raw == t.raw)) || r) (active_dropped xs id t)
    ∙ drop_by (t.raw == id.raw) (x.id.raw == t.raw) (x.id.raw == id.raw) x.active (is_active xs t)
    (λ e. ap (λ n. n == id.raw) (eqb-true x.id.raw t.raw e))

active_by_change : (xs ys : List Table) (c : Schema) (t : TableId) → is_active xs t ≡ is_active ys t
    → is_active (changed xs c) t ≡ is_active (changed ys c) t
active_by_change xs ys (Create name id) t h =
    let one : List Table = record { name = name; id = id; active = true } ∷ [] in
    list_any-append (λ (x : Table). x.active && (x.id.raw == t.raw)) xs one ∙ ap (λ b. b || is_active one t) h
    ∙ sym (list_any-append (λ (x : Table). x.active && (x.id.raw == t.raw)) ys one)
active_by_change xs ys (Index field id) t h = h
active_by_change xs ys (Drop name id) t h = active_dropped xs id t ∙ ap (λ b. not (t.raw == id.raw) && b) h
    ∙ sym (active_dropped ys id t)
active_by_change xs ys (Redact address id document) t h = h

active_by_changes : (xs ys : List Table) (cs : List Schema) (t : TableId) → is_active xs t ≡ is_active ys t
    → is_active (all_changed xs cs) t ≡ is_active (all_changed ys cs) t
active_by_changes xs ys [] t h = h
active_by_changes xs ys (c ∷ cs) t h =
    active_by_changes (changed xs c) (changed ys c) cs t (active_by_change xs ys c t h)

changed_append : (ts : List Table) (cs ds : List Schema)
    → all_changed ts (cs ++ ds) ≡ all_changed (all_changed ts cs) ds
changed_append ts [] ds = refl
changed_append ts (c ∷ cs) ds = changed_append (changed ts c) cs ds

named_by : (x : Table) (t : TableId) (o : Option TableId) (a b r : Bool) → cond (a && b) (Some x.id) o ≡ Some t
    → (o ≡ Some t → r ≡ true) → ((a && (x.id.raw == t.raw)) || r) ≡ true
named_by x t o true true r h rest =
    or_left (x.id.raw == t.raw) r (eq-eqb x.id.raw t.raw (ap (λ (i : TableId). i.raw) (inside x.id t h)))
named_by x t o true false r h rest = or_right (x.id.raw == t.raw) r (rest h)
named_by x t o false true r h rest = rest h
named_by x t o false false r h rest = rest h

pub active_named : (ts : List Table) (name : List ℕ) (t : TableId) → active_table ts name ≡ Some t
    → is_active ts t ≡ true
active_named [] name t h = cc
active_named (x ∷ xs) name t h =
    named_by x t (active_table xs name) x.active (bytes_eq x.name name) (is_active xs t) h (active_named xs name t)

module _ (s : State) (later : List Block) where
  abbrev now : State
  now = state_from s later

  -- it is as active behind the blocks as before them
  abbrev pub Stands : List Schema → TableId → Type 0
  Stands cs table = is_active (all_changed now.tables cs) table ≡ is_active (all_changed s.tables cs) table

  pub stands_more : (cs ds : List Schema) (table : TableId) → Stands cs table → Stands (cs ++ ds) table
  stands_more cs ds table h =
      ap (λ ts. is_active ts table) (changed_append now.tables cs ds)
      ∙ active_by_changes (all_changed now.tables cs) (all_changed s.tables cs) ds table h
      ∙ sym (ap (λ ts. is_active ts table) (changed_append s.tables cs ds))

  -- the table of a name that isn't touched
  pub named_stands : (p : Progress) (name : List ℕ) (table : TableId) → table_now s p name ≡ Some table
      → Untouched s later (item.TableName name) → Stands p.schema table
  named_stands p name table is un =
      active_named (tables_now now p) name table (table_same s later p name un ∙ is)
      ∙ sym (active_named (tables_now s p) name table is)

-- ---- one document

-- what a touch makes of the document is the same
pub record Touchable (s : State) (later : List Block) (log : List Draft) (cs : List Schema) (id : DocId) : Type 0 where
  pub pends : (d : Draft) → find (is_doc id.raw) (latest log) ≡ Some d → Stands s later cs d.table
  pub kept : find (is_doc id.raw) (latest log) ≡ None
      → latest_of (state_from s later).revisions id.raw ≡ latest_of s.revisions id.raw
  pub last : find (is_doc id.raw) (latest log) ≡ None → (r : Recorded) → latest_of s.revisions id.raw ≡ Some r
      → Stands s later cs r.table

if_some : (b : Bool) (d x : Draft) → cond b (Some d) None ≡ Some x → d ≡ x
if_some true d x h = inside d x h
if_some false d x h = cc

module _ (s : State) (later : List Block) where
  abbrev then_state : State
  then_state = state_from s later

  module _ (log : List Draft) (cs : List Schema) (id : DocId) (c : Content) (t : Touchable s later log cs id) where
    made_stands : (o : Option Draft) (last : Option Recorded) → find (is_doc id.raw) (latest log) ≡ o
        → latest_of s.revisions id.raw ≡ last → (x : Draft) → revised_by c o last ≡ Some x
        → Stands s later cs x.table
    made_stands (Some d) last is there x e =
        subst (λ (y : Draft). Stands s later cs y.table) (if_some (is_kept d.content) (again_of d c) x e)
        (t.pends d is)
    made_stands None (Some r) is there x e =
        subst (λ (y : Draft). Stands s later cs y.table) (if_some (is_kept r.revision.content) (next_of r c) x e)
        (t.last is r there)
    made_stands None None is there x e = cc

    active_same : (o : Option Draft) → ((x : Draft) → o ≡ Some x → Stands s later cs x.table)
        → if_active (all_changed then_state.tables cs) o ≡ if_active (all_changed s.tables cs) o
    active_same None h = refl
    active_same (Some d) h = ap (λ b. if b then Some d else None) (h d refl)

    by_pending : (o : Option Draft) → find (is_doc id.raw) (latest log) ≡ o
        → if_active (all_changed then_state.tables cs) (revised_by c o (latest_of then_state.revisions id.raw))
        ≡ if_active (all_changed s.tables cs) (revised_by c o (latest_of s.revisions id.raw))
    by_pending (Some d) is =
        active_same (revised_by c (Some d) (latest_of s.revisions id.raw))
        (made_stands (Some d) (latest_of s.revisions id.raw) is refl)
    by_pending None is =
        ap (λ o. if_active (all_changed then_state.tables cs) (revised_by c None o)) (t.kept is)
        ∙ active_same (revised_by c None (latest_of s.revisions id.raw))
        (made_stands None (latest_of s.revisions id.raw) is refl)

    active_some : (ts : List Table) (o : Option Draft) (x : Draft) → if_active ts o ≡ Some x → o ≡ Some x
    active_some ts None x e = cc
    active_some ts (Some d) x e = ap Some (if_some (is_active ts d.table) d x e)

  pub revised_same : (p : Progress) (id : DocId) (c : Content) → Touchable s later p.log p.schema id
      → revised then_state p id c ≡ revised s p id c
  revised_same p id c t = by_pending p.log p.schema id c t (find (is_doc id.raw) (latest p.log)) refl

  pub revised_stands : (p : Progress) (id : DocId) (c : Content) → Touchable s later p.log p.schema id → (x : Draft)
      → revised s p id c ≡ Some x → Stands s later p.schema x.table
  revised_stands p id c t x e =
      made_stands p.log p.schema id c t (find (is_doc id.raw) (latest p.log))
      (latest_of s.revisions id.raw) refl refl x
      (active_some p.log p.schema id c t (tables_now s p)
      (revised_by c (find (is_doc id.raw) (latest p.log)) (latest_of s.revisions id.raw)) x e)

  -- ---- one touch more

  more_pends : (cs : List Schema) (d x : Draft) (b : Bool) (rest : Option Draft) → cond b (Some d) rest ≡ Some x
      → Stands s later cs d.table → (rest ≡ Some x → Stands s later cs x.table)
      → Stands s later cs x.table
  more_pends cs d x true rest e h k = subst (λ (y : Draft). Stands s later cs y.table) (inside d x e) h
  more_pends cs d x false rest e h k = k e

  one_more : (log : List Draft) (cs : List Schema) (d : Draft) (id : DocId) → Stands s later cs d.table
      → Touchable s later log cs id → Touchable s later (log ++ d ∷ []) cs id
  one_more log cs d id h t = record {
    pends =
        λ x e. more_pends cs d x (d.id.raw == id.raw) (find (is_doc id.raw) (latest log))
        (sym (find_more id.raw log d) ∙ e) h (t.pends x);
    kept =
        λ e. t.kept (none_of d (d.id.raw == id.raw) (find (is_doc id.raw) (latest log))
        (sym (find_more id.raw log d) ∙ e)).1;
    last =
        λ e. t.last (none_of d (d.id.raw == id.raw) (find (is_doc id.raw) (latest log))
        (sym (find_more id.raw log d) ∙ e)).1;
  }

  no_schema : (log : List Draft) (cs : List Schema) (id : DocId) → Touchable s later log cs id
      → Touchable s later log (cs ++ []) id
  no_schema log cs id t = subst (λ xs. Touchable s later log xs id) (sym (append-nil cs)) t

  abbrev pub TouchableBy : Progress → DocId → Type 0
  TouchableBy p id = Touchable s later p.log p.schema id

  after_touch : (p : Progress) (id : DocId) (o : Option Draft)
      → ((x : Draft) → o ≡ Some x → Stands s later p.schema x.table) → TouchableBy p id
      → TouchableBy (changed_by p (touched o)) id
  after_touch p id None h t =
      no_schema (p.log ++ []) p.schema id (subst (λ xs. Touchable s later xs p.schema id) (sym (append-nil p.log)) t)
  after_touch p id (Some d) h t = no_schema (p.log ++ d ∷ []) p.schema id (one_more p.log p.schema d id (h d refl) t)

  -- ---- all documents of a statement

  rows_after : (p : Progress) (o : Option Draft) (ds : List Row)
      → ((x : Draft) → o ≡ Some x → Stands s later p.schema x.table)
      → AllByRecursion (λ (d : Row). TouchableBy p d.id) ds
      → AllByRecursion (λ (d : Row). TouchableBy (changed_by p (touched o)) d.id) ds
  rows_after p o [] h all = tt
  rows_after p o (d ∷ ds) h all = (after_touch p d.id o h all.0, rows_after p o ds h all.1)

  pub changes_same : (ds : List Row) (p : Progress) → AllByRecursion (λ (d : Row). TouchableBy p d.id) ds
      → stored_changes then_state p ds ≡ stored_changes s p ds
  changes_same [] p all = refl
  changes_same (d ∷ ds) p all =
      ap (λ o. unless (not_kept (has_room_for p d.id) d.value)
      (and_then (touched o) (stored_changes then_state (changed_by p (touched o)) ds)))
      (revised_same p d.id (Kept d.value) all.0)
      ∙ ap (λ e. unless (not_kept (has_room_for p d.id) d.value) (and_then (touching s p d.id (Kept d.value)) e))
      (changes_same ds (changed_by p (touching s p d.id (Kept d.value)))
      (rows_after p (revised s p d.id (Kept d.value)) ds (revised_stands p d.id (Kept d.value) all.0) all.1))

  ids_after : (p : Progress) (o : Option Draft) (ids : List DocId)
      → ((x : Draft) → o ≡ Some x → Stands s later p.schema x.table)
      → AllByRecursion (TouchableBy p) ids → AllByRecursion (TouchableBy (changed_by p (touched o))) ids
  ids_after p o [] h all = tt
  ids_after p o (id ∷ ids) h all = (after_touch p id o h all.0, ids_after p o ids h all.1)

  pub deletes_same : (ids : List DocId) (p : Progress) → AllByRecursion (TouchableBy p) ids
      → stored_deletes then_state p ids ≡ stored_deletes s p ids
  deletes_same [] p all = refl
  deletes_same (id ∷ ids) p all =
      ap (λ o. unless (no_room p id) (and_then (touched o) (stored_deletes then_state (changed_by p (touched o)) ids)))
      (revised_same p id Deleted all.0)
      ∙ ap (λ e. unless (no_room p id) (and_then (touching s p id Deleted) e))
      (deletes_same ids (changed_by p (touching s p id Deleted))
      (ids_after p (revised s p id Deleted) ids (revised_stands p id Deleted all.0) all.1))

-- ---- a document that a row names

-- the tables of what pends stand
abbrev pub Pends : State → List Block → Progress → Type 0
Pends s later p = AllByRecursion (λ (d : Draft). Stands s later p.schema d.table) p.log

-- or the source at this place shows what pends in its table
abbrev pub Told : State → List Block → Progress → FromClause → ℕ → Type 0
Told s later p from n =
    ((x : Source) → slice_get from.sources n ≡ Some x → is_plain x.from ≡ true) ⊎ Pends s later p

pub named_touchable : (s : State) (later : List Block) (p : Progress) (from : FromClause) (n : ℕ) (id : DocId)
    → Told s later p from n → NamedDoc s later p from n id → Touchable s later p.log p.schema id
named_touchable s later p from n id told named =
    let here = named_stands s later p named.name named.table named.active named.untouched in
    let alike = λ (t : TableId) (same : t.raw ≡ (named.table).raw).
    subst (λ i. Stands s later p.schema (record { raw = i })) (sym same) here in
    record {
      pends = λ d e.
          elim told as (λ _. Stands s later p.schema d.table) [
            | inl user ↦ alike d.table (named.pends_in user d e)
            | inr pends ↦ all_found (λ (x : Draft). Stands s later p.schema x.table) id.raw (latest p.log) d
                (latest_keeps (λ (x : Draft). Stands s later p.schema x.table) [] p.log tt pends) e
          ];
      kept = λ e. latest_behind s later id.raw (named.unrevised (not_pending id.raw p.log e));
      last = λ e r is. alike r.table (named.in_table (not_pending id.raw p.log e) r is);
    }

-- ---- what the changes of a statement pend

module _ (s : State) (later : List Block) where
  abbrev pub ResultStands : List Schema → Result Effect Refusal → Type 0
  ResultStands cs (Err cause) = Unit {0}
  ResultStands cs (Ok e) = AllByRecursion (λ (d : Draft). Stands s later cs d.table) e.log

  pub unless_stands : (cs : List Schema) (o : Option Refusal) (x : Result Effect Refusal) → ResultStands cs x
      → ResultStands cs (unless o x)
  unless_stands cs None x h = h
  unless_stands cs (Some cause) x h = tt

  then_stands : (cs : List Schema) (o : Option Draft) (x : Result Effect Refusal)
      → ((d : Draft) → o ≡ Some d → Stands s later cs d.table) → ResultStands (cs ++ []) x
      → ResultStands cs (and_then (touched o) x)
  then_stands cs o (Err cause) h k = tt
  then_stands cs None (Ok f) h k =
      subst (λ xs. AllByRecursion (λ (d : Draft). Stands s later xs d.table) f.log) (append-nil cs) k
  then_stands cs (Some d) (Ok f) h k =
      (h d refl, subst (λ xs. AllByRecursion (λ (d : Draft). Stands s later xs d.table) f.log) (append-nil cs) k)

  as_schema : (p : Progress) (o : Option Draft) (x : Result Effect Refusal)
      → ResultStands (changed_by p (touched o)).schema x → ResultStands (p.schema ++ []) x
  as_schema p None x h = h
  as_schema p (Some d) x h = h

  pub changes_stand : (ds : List Row) (p : Progress) → AllByRecursion (λ (d : Row). TouchableBy s later p d.id) ds
      → ResultStands p.schema (stored_changes s p ds)
  changes_stand [] p all = tt
  changes_stand (d ∷ ds) p all =
      let o = revised s p d.id (Kept d.value) in
      let stands = revised_stands s later p d.id (Kept d.value) all.0 in
      unless_stands p.schema (not_kept (has_room_for p d.id) d.value) _
      (then_stands p.schema o (stored_changes s (changed_by p (touched o)) ds) stands
      (as_schema p o _ (changes_stand ds (changed_by p (touched o)) (rows_after s later p o ds stands all.1))))

  pub deletes_stand : (ids : List DocId) (p : Progress) → AllByRecursion (TouchableBy s later p) ids
      → ResultStands p.schema (stored_deletes s p ids)
  deletes_stand [] p all = tt
  deletes_stand (id ∷ ids) p all =
      let o = revised s p id Deleted in
      let stands = revised_stands s later p id Deleted all.0 in
      unless_stands p.schema (no_room p id) _
      (then_stands p.schema o (stored_deletes s (changed_by p (touched o)) ids) stands
      (as_schema p o _ (deletes_stand ids (changed_by p (touched o)) (ids_after s later p o ids stands all.1))))
