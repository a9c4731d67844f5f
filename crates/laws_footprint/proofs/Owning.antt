-- Blocks of other transactions have no revision of a transaction's own documents.
use Rattle.std.proofs.Common.{◌≡◌, ◌∙◌, ◌⊎◌, inl, inr, ℕ, zero, suc, Bool, true, false, cond, ◌==◌, ◌&&◌, List, [], ◌∷◌, ◌++◌, map, take, drop, refl, sym, ap, subst, Option, Some, None, option_map}
use Rattle.std.specs.Prelude.{is_none}
use Rattle.std.specs.List.{AllByRecursion, filter, list_all, list_any}
use Rattle.std.proofs.lemmas.Bool.{and_from, and_parts, both_ways, eq-eqb, eqb-true, false_from_ne_true, false≢true, or_cases, or_from, or_left, or_right, true≢false}
use Rattle.std.proofs.lemmas.List.{append_assoc}
use Rattle.std.proofs.lemmas.List.Elements.{filter-append}
use Rattle.std.proofs.lemmas.List.Folds.{list_any-append}
use Rattle.ql_types.specs.Ids.{transaction_in}
use Rattle.ql_types.specs.declared.TableId.{TableId}
use Rattle.ledger_model.specs.declared.block.Block.{Block}
use Rattle.ledger_model.specs.declared.block.Draft.{Draft}
use Rattle.ledger_model.specs.declared.block.Revision.{Revision}
use Rattle.ledger_model.specs.declared.block.Schema.{Schema}
use Rattle.ledger_model.specs.declared.block.Schema.TheVariants.{Create, Index, Drop, Redact}
use Rattle.ledger_model.specs.Follows.{all_differ, change_follows, created_ids, document_ids, follows, ids_follow, is_active, is_made_by, is_new, latest_of, made_ids, revision_follows, schema_follows}
use Rattle.ledger_model.specs.Script.{or_else}
use Rattle.ledger_model.specs.Footprints.{first_of}
use Rattle.ledger_model.specs.State.{Indexed, Recorded, State, Table, active_table, after, all_changed, all_indexed, changed, dropped, empty, indexed, recorded_in, revisions_after, state, state_from}
use Rattle.laws_footprint.specs.Framed.{indexes_of}
use Rattle.laws_footprint.specs.Own.{AllCreated, AllFollow, AllOwn, OwnIsApart, StandsInNone, StillnessOfOwn, is_by}
use Rattle.laws_footprint.specs.Stillness.{Apart, block_revises, has_revision_of}
use Rattle.laws_footprint.specs.Touches.{has_name, id_of, revisions_in}
use Rattle.pql_model.proofs.Equality.{inside}
use Rattle.ledger_model.proofs.Redactions.{each_after}
use Rattle.laws_footprint.proofs.Schemas.{active_is, called, called_dropped, has_id, has_name_is, is_called, keeps, no_index_more}
use Rattle.laws_footprint.proofs.Still.{stillness_with_pending}

all_append : {A : Type 0} (P : A → Type 0) (xs ys : List A) → AllByRecursion P xs → AllByRecursion P ys
    → AllByRecursion P (xs ++ ys)
all_append P [] ys h k = k
all_append P (x ∷ xs) ys h k = (h.0, all_append P xs ys h.1 k)

all_drop : {A : Type 0} (P : A → Type 0) (n : ℕ) (xs : List A) → AllByRecursion P xs → AllByRecursion P (drop n xs)
all_drop P zero xs h = h
all_drop P (suc n) [] h = tt
all_drop P (suc n) (x ∷ xs) h = all_drop P n xs h.1

list_all_right : (p : ℕ → Bool) (xs ys : List ℕ) → list_all p (xs ++ ys) ≡ true → list_all p ys ≡ true
list_all_right p [] ys h = h
list_all_right p (x ∷ xs) ys h = list_all_right p xs ys (and_parts (p x) (list_all p (xs ++ ys)) h).1

module _ (mask n : ℕ) where
  -- of another transaction
  abbrev NotBy : ℕ → Type 0
  NotBy id = is_by mask n id ≡ false

  abbrev NoneBy : List Recorded → Type 0
  NoneBy rs = AllByRecursion (λ r. NotBy (id_of r)) rs

  by_latest : (id : ℕ) (r : Recorded) (o : Option Recorded) (b : Bool) → (id_of r == id) ≡ b
      → is_none (or_else o (cond b (Some r) None)) ≡ false
      → (is_none o ≡ false → NotBy id) → NotBy (id_of r) → NotBy id
  by_latest id r (Some x) b e h ih not = ih refl
  by_latest id r None true e h ih not = ap (is_by mask n) (sym (eqb-true (id_of r) id e)) ∙ not
  by_latest id r None false e h ih not = absurd (true≢false h)

  -- a document that was there before
  not_by_latest : (rs : List Recorded) (id : ℕ) → is_new rs id ≡ false → NoneBy rs → NotBy id
  not_by_latest [] id h all = absurd (true≢false h)
  not_by_latest (r ∷ rs) id h all =
      by_latest id r (latest_of rs id) (id_of r == id) refl h (λ k. not_by_latest rs id k all.1) all.0

  -- one that another transaction makes
  not_by_maker : (tx id : ℕ) → NotBy tx → is_made_by mask (transaction_in mask tx) id ≡ true → NotBy id
  not_by_maker tx id other h =
      let same : transaction_in mask id ≡ transaction_in mask tx =
      eqb-true (transaction_in mask id) (transaction_in mask tx)
      (and_parts (transaction_in mask id == transaction_in mask tx) _ h).0 in
      ap (λ t. t == n) same ∙ other

  first_id : (rs : List Recorded) (tx id : ℕ) (ids : List ℕ) (b : Bool) → is_new rs id ≡ b → NoneBy rs → NotBy tx
      → list_all (is_made_by mask (transaction_in mask tx))
      (cond b (id ∷ filter (is_new rs) ids) (filter (is_new rs) ids)) ≡ true
      → NotBy id × (list_all (is_made_by mask (transaction_in mask tx)) (filter (is_new rs) ids) ≡ true)
  first_id rs tx id ids true e all other h =
      let parts = and_parts (is_made_by mask (transaction_in mask tx) id) _ h in
      (not_by_maker tx id other parts.0, parts.1)
  first_id rs tx id ids false e all other h = (not_by_latest rs id e all, h)

  all_ids : (rs : List Recorded) (tx : ℕ) (ids : List ℕ) → NoneBy rs → NotBy tx
      → list_all (is_made_by mask (transaction_in mask tx)) (filter (is_new rs) ids) ≡ true → AllByRecursion NotBy ids
  all_ids rs tx [] all other h = tt
  all_ids rs tx (id ∷ ids) all other h =
      let parts = first_id rs tx id ids (is_new rs id) refl all other h in
      (parts.0, all_ids rs tx ids all other parts.1)

  in_block : (ts : List TableId) (rs : List Revision) → AllByRecursion NotBy (document_ids rs)
      → NoneBy (recorded_in ts rs)
  in_block [] [] h = tt
  in_block [] (r ∷ rs) h = tt
  in_block (t ∷ ts) [] h = tt
  in_block (t ∷ ts) (r ∷ rs) h = (h.0, in_block ts rs h.1)

  block_by_others : (s : State) (b : Block) → follows mask s b ≡ true → NotBy b.header.tx.raw → NoneBy s.revisions
      → NoneBy (revisions_in b)
  block_by_others s b h other all =
      let three = (and_parts _ (all_differ (document_ids b.revisions)) h).0 in
      let two = (and_parts _ (list_all (revision_follows s b) (recorded_in b.info.tables b.revisions)) three).0 in
      let ids =
      (and_parts (schema_follows s.tables s.indexes b.info.schema)
      (ids_follow mask (made_ids s b) b.header.tx.raw) two).1 in
      let made =
      (and_parts (list_all (is_made_by mask (transaction_in mask b.header.tx.raw)) (made_ids s b))
      (all_differ (made_ids s b)) ids).0 in
      in_block b.info.tables b.revisions
      (all_ids s.revisions b.header.tx.raw (document_ids b.revisions) all other
      (list_all_right (is_made_by mask (transaction_in mask b.header.tx.raw)) (created_ids b.info.schema)
      (filter (is_new s.revisions) (document_ids b.revisions)) made))

  all_by_others : (s : State) (blocks : List Block) → AllFollow mask s blocks → StandsInNone mask n blocks
      → NoneBy s.revisions
      → AllByRecursion (λ (b : Block). NoneBy (revisions_in b)) blocks
  all_by_others s [] h none all = tt
  all_by_others s (b ∷ bs) h none all =
      let here = block_by_others s b h.0 none.0 all in (
        here,
        all_by_others (after s b) bs h.1 none.1
            (all_append (λ r. NotBy (id_of r)) (revisions_after b.info.schema s.revisions) (revisions_in b)
            (each_after b.info.schema (λ r. NotBy (id_of r)) (λ c r h. h) s.revisions all) here),
      )

  no_revision : (id : ℕ) (rs : List Recorded) → is_by mask n id ≡ true → NoneBy rs
      → list_any (has_revision_of id) rs ≡ false
  no_revision id [] own h = refl
  no_revision id (r ∷ rs) own h =
      or_from (id_of r == id) _
      (false_from_ne_true (id_of r == id) (λ e. both_ways (is_by mask n id)
      (ap (is_by mask n) (sym (eqb-true (id_of r) id e)) ∙ h.0) own))
      (no_revision id rs own h.1)

  no_block : (id : ℕ) (blocks : List Block) → is_by mask n id ≡ true
      → AllByRecursion (λ (b : Block). NoneBy (revisions_in b)) blocks → list_any (block_revises id) blocks ≡ false
  no_block id [] own h = refl
  no_block id (b ∷ bs) own h =
      or_from (block_revises id b) _ (no_revision id (revisions_in b) own h.0) (no_block id bs own h.1)

  all_apart : (later : List Block) (pending : List Draft)
      → AllByRecursion (λ (b : Block). NoneBy (revisions_in b)) later → AllOwn mask n pending → Apart later pending
  all_apart later [] h own = tt
  all_apart later (d ∷ ds) h own = (no_block d.id.raw later own.0 h, all_apart later ds h own.1)

pub own_is_apart : OwnIsApart
own_is_apart mask n blocks since pending follow none own =
    all_apart mask n (drop since blocks) pending
    (all_drop _ since blocks (all_by_others mask n empty blocks follow none tt)) own

pub stillness_of_own : StillnessOfOwn
stillness_of_own mask n blocks since table items pending follow none own still =
    stillness_with_pending blocks since table items pending still
    (own_is_apart mask n blocks since pending follow none own)

-- ---- tables

module _ (mask n : ℕ) where
  abbrev NoTableBy : List Table → Type 0
  NoTableBy ts = AllByRecursion (λ (t : Table). is_by mask n t.id.raw ≡ false) ts

  abbrev NoneCreated : List Schema → Type 0
  NoneCreated cs = AllByRecursion (λ id. is_by mask n id ≡ false) (created_ids cs)

  drop_keeps : (id : TableId) (ts : List Table) → NoTableBy ts → NoTableBy (map (dropped id) ts)
  drop_keeps id [] h = tt
  drop_keeps id (t ∷ ts) h = (h.0, drop_keeps id ts h.1)

  one_change : (ts : List Table) (c : Schema) (cs : List Schema) → NoTableBy ts → NoneCreated (c ∷ cs)
      → NoTableBy (changed ts c) × NoneCreated cs
  one_change ts (Create name id) cs h k = (
    all_append (λ (t : Table). is_by mask n t.id.raw ≡ false) ts
        (record { name = name; id = id; active = true } ∷ []) h (k.0, tt),
    k.1,
  )
  one_change ts (Index field id) cs h k = (h, k)
  one_change ts (Drop name id) cs h k = (drop_keeps id ts h, k)
  one_change ts (Redact address id document) cs h k = (h, k)

  all_changes : (ts : List Table) (cs : List Schema) → NoTableBy ts → NoneCreated cs → NoTableBy (all_changed ts cs)
  all_changes ts [] h k = h
  all_changes ts (c ∷ cs) h k = let next = one_change ts c cs h k in all_changes (changed ts c) cs next.0 next.1

  -- an active table is another's
  active_other : (ts : List Table) (id : TableId) → NoTableBy ts → is_active ts id ≡ true → is_by mask n id.raw ≡ false
  active_other [] id h a = absurd (false≢true a)
  active_other (t ∷ ts) id h a =
      elim (or_cases (t.active && (t.id.raw == id.raw)) (is_active ts id) a) as (λ _. is_by mask n id.raw ≡ false) [
        | inl here ↦ ap (is_by mask n) (sym (eqb-true t.id.raw id.raw (and_parts t.active _ here).1)) ∙ h.0
        | inr later ↦ active_other ts id h.1 later
      ]

  -- so no index is made on the transaction's own
  index_of_other : (ts : List Table) (ix : List Indexed) (table : TableId) (c : Schema) → is_by mask n table.raw ≡ true
      → NoTableBy ts
      → change_follows ts ix c ≡ true → indexes_of table (indexed ix c) ≡ indexes_of table ix
  index_of_other ts ix table (Create name id) own h k = refl
  index_of_other ts ix table (Index field id) own h k =
      let other = active_other ts id h (and_parts (is_active ts id) _ k).0 in
      no_index_more ix (record { table = id; field = field }) table
      (false_from_ne_true (id.raw == table.raw)
      (λ e. both_ways (is_by mask n table.raw) (ap (is_by mask n) (sym (eqb-true id.raw table.raw e)) ∙ other) own))
  index_of_other ts ix table (Drop name id) own h k = refl
  index_of_other ts ix table (Redact address id document) own h k = refl

  index_by_others : (ts : List Table) (ix : List Indexed) (table : TableId) (cs : List Schema)
      → is_by mask n table.raw ≡ true → NoTableBy ts → NoneCreated cs
      → schema_follows ts ix cs ≡ true → indexes_of table (all_indexed ix cs) ≡ indexes_of table ix
  index_by_others ts ix table [] own h k follow = refl
  index_by_others ts ix table (c ∷ cs) own h k follow =
      let parts = and_parts (change_follows ts ix c) (schema_follows (changed ts c) (indexed ix c) cs) follow in
      let next = one_change ts c cs h k in
      index_by_others (changed ts c) (indexed ix c) table cs own next.0 next.1 parts.1
      ∙ index_of_other ts ix table c own h parts.0

  list_all_left : (p : ℕ → Bool) (xs ys : List ℕ) → list_all p (xs ++ ys) ≡ true → list_all p xs ≡ true
  list_all_left p [] ys h = refl
  list_all_left p (x ∷ xs) ys h =
      let parts = and_parts (p x) (list_all p (xs ++ ys)) h in
      and_from (p x) (list_all p xs) parts.0 (list_all_left p xs ys parts.1)

  all_made : (tx : ℕ) (ids : List ℕ) → is_by mask n tx ≡ false
      → list_all (is_made_by mask (transaction_in mask tx)) ids ≡ true
      → AllByRecursion (λ id. is_by mask n id ≡ false) ids
  all_made tx [] other h = tt
  all_made tx (id ∷ ids) other h =
      let parts = and_parts (is_made_by mask (transaction_in mask tx) id) _ h in
      (not_by_maker mask n tx id other parts.0, all_made tx ids other parts.1)

  -- what a block that follows says of its changes of the schema
  schema_by_others : (s : State) (b : Block) → follows mask s b ≡ true → is_by mask n b.header.tx.raw ≡ false
      → (schema_follows s.tables s.indexes b.info.schema ≡ true) × NoneCreated b.info.schema
  schema_by_others s b h other =
      let three = (and_parts _ (all_differ (document_ids b.revisions)) h).0 in
      let two = (and_parts _ (list_all (revision_follows s b) (recorded_in b.info.tables b.revisions)) three).0 in
      let parts =
      and_parts (schema_follows s.tables s.indexes b.info.schema)
      (ids_follow mask (made_ids s b) b.header.tx.raw) two in
      let made =
      (and_parts (list_all (is_made_by mask (transaction_in mask b.header.tx.raw)) (made_ids s b))
      (all_differ (made_ids s b)) parts.1).0 in (
        parts.0,
        all_made b.header.tx.raw (created_ids b.info.schema) other
            (list_all_left (is_made_by mask (transaction_in mask b.header.tx.raw)) (created_ids b.info.schema)
            (filter (is_new s.revisions) (document_ids b.revisions)) made),
      )

  tables_by_others : (s : State) (blocks : List Block) → AllFollow mask s blocks → StandsInNone mask n blocks
      → NoTableBy s.tables → NoTableBy (state_from s blocks).tables
  tables_by_others s [] h none all = all
  tables_by_others s (b ∷ bs) h none all =
      tables_by_others (after s b) bs h.1 none.1
      (all_changes s.tables b.info.schema all (schema_by_others s b h.0 none.0).1)

  own_index : (s : State) (later : List Block) (table : TableId) → is_by mask n table.raw ≡ true
      → AllFollow mask s later → StandsInNone mask n later → NoTableBy s.tables
      → indexes_of table (state_from s later).indexes ≡ indexes_of table s.indexes
  own_index s [] table own h none all = refl
  own_index s (b ∷ bs) table own h none all =
      let says = schema_by_others s b h.0 none.0 in
      own_index (after s b) bs table own h.1 none.1 (all_changes s.tables b.info.schema all says.1)
      ∙ index_by_others s.tables s.indexes table b.info.schema own all says.1 says.0

  all_take : {A : Type 0} (P : A → Type 0) (k : ℕ) (xs : List A) → AllByRecursion P xs → AllByRecursion P (take k xs)
  all_take P zero xs h = tt
  all_take P (suc k) [] h = tt
  all_take P (suc k) (x ∷ xs) h = (h.0, all_take P k xs h.1)

  pub follow_take : (k : ℕ) (s : State) (blocks : List Block) → AllFollow mask s blocks
      → AllFollow mask s (take k blocks)
  follow_take zero s blocks h = tt
  follow_take (suc k) s [] h = tt
  follow_take (suc k) s (b ∷ bs) h = (h.0, follow_take k (after s b) bs h.1)

  follow_drop : (k : ℕ) (s : State) (blocks : List Block) → AllFollow mask s blocks
      → AllFollow mask (state_from s (take k blocks)) (drop k blocks)
  follow_drop zero s blocks h = h
  follow_drop (suc k) s [] h = tt
  follow_drop (suc k) s (b ∷ bs) h = follow_drop k (after s b) bs h.1

  -- behind a place in the journal
  pub own_index_behind : (blocks : List Block) (since : ℕ) (table : TableId) → is_by mask n table.raw ≡ true
      → AllFollow mask empty blocks → StandsInNone mask n blocks
      → indexes_of table (state_from (state (take since blocks)) (drop since blocks)).indexes
      ≡ indexes_of table (state (take since blocks)).indexes
  own_index_behind blocks since table own h none =
      own_index (state (take since blocks)) (drop since blocks) table own (follow_drop since empty blocks h)
      (all_drop _ since blocks none)
      (tables_by_others empty (take since blocks) (follow_take since empty blocks h) (all_take _ since blocks none) tt)

  -- ---- the tables of a name behind the transaction's own changes

  -- an active table of the name before, or its own
  abbrev Old : List Table → TableId → Type 0
  Old xs id = (list_any (has_id id) xs ≡ true) ⊎ (is_by mask n id.raw ≡ true)

  filter_keeps : (P : Table → Type 0) (p : Table → Bool) (ts : List Table) → AllByRecursion P ts
      → AllByRecursion P (filter p ts)
  filter_keeps P p [] h = tt
  filter_keeps P p (t ∷ ts) h = kept_by (p t) (filter_keeps P p ts h.1) where
    kept_by : (b : Bool) → AllByRecursion P (filter p ts) → AllByRecursion P (cond b (t ∷ filter p ts) (filter p ts))
    kept_by true ih = (h.0, ih)
    kept_by false ih = ih

  old_by_change : (xs ts : List Table) (name : List ℕ) (c : Schema) (cs : List Schema)
      → AllByRecursion (λ (t : Table). Old xs t.id) (called name ts) → AllCreated mask n (c ∷ cs)
      → AllByRecursion (λ (t : Table). Old xs t.id) (called name (changed ts c)) × AllCreated mask n cs
  old_by_change xs ts name (Create m id) cs h k = (
    subst (AllByRecursion (λ (t : Table). Old xs t.id))
        (sym (filter-append (is_called name) ts (record { name = m; id = id; active = true } ∷ [])))
        (all_append (λ (t : Table). Old xs t.id) (called name ts)
        (called name (record { name = m; id = id; active = true } ∷ [])) h
        (filter_keeps (λ (t : Table). Old xs t.id) (is_called name) (record { name = m; id = id; active = true } ∷ [])
        (inr k.0, tt))),
    k.1,
  )
  old_by_change xs ts name (Index field id) cs h k = (h, k)
  old_by_change xs ts name (Drop m id) cs h k = (
    subst (AllByRecursion (λ (t : Table). Old xs t.id)) (sym (called_dropped name id ts))
        (filter_keeps (λ (t : Table). Old xs t.id) (keeps id) (called name ts) h),
    k,
  )
  old_by_change xs ts name (Redact address id document) cs h k = (h, k)

  all_old : (xs ts : List Table) (name : List ℕ) (cs : List Schema)
      → AllByRecursion (λ (t : Table). Old xs t.id) (called name ts) → AllCreated mask n cs
      → AllByRecursion (λ (t : Table). Old xs t.id) (called name (all_changed ts cs))
  all_old xs ts name [] h k = h
  all_old xs ts name (c ∷ cs) h k = let next =
      old_by_change xs ts name c cs h k in all_old xs (changed ts c) name cs next.0 next.1

  each_there : (front ts xs : List Table) → xs ≡ front ++ ts → AllByRecursion (λ (t : Table). Old xs t.id) ts
  each_there front [] xs e = tt
  each_there front (t ∷ ts) xs e = (
    inl (ap (list_any (has_id t.id)) e ∙ list_any-append (has_id t.id) front (t ∷ ts)
        ∙ or_right _ _ (or_left (has_id t.id t) _ (eq-eqb t.id.raw t.id.raw refl))),
    each_there (front ++ t ∷ []) ts xs (e ∙ sym (append_assoc front (t ∷ []) ts)),
  )

  first_old : (xs ts : List Table) (table : TableId) → AllByRecursion (λ (t : Table). Old xs t.id) ts
      → option_map (λ (t : Table). t.id) (first_of ts) ≡ Some table → Old xs table
  first_old xs [] table h e = cc
  first_old xs (t ∷ ts) table h e = subst (Old xs) (inside t.id table e) h.0

  -- the active table of a name is one that had it before the transaction, or its own
  pub old_or_own : (tables : List Table) (cs : List Schema) (name : List ℕ) (table : TableId) → AllCreated mask n cs
      → active_table (all_changed tables cs) name ≡ Some table
      → (has_name tables name table ≡ true) ⊎ (is_by mask n table.raw ≡ true)
  old_or_own tables cs name table own e =
      elim (first_old (called name tables) (called name (all_changed tables cs)) table
      (all_old (called name tables) tables name cs (each_there [] (called name tables) (called name tables) refl) own)
      (sym (active_is (all_changed tables cs) name) ∙ e)) as
      (λ _. (has_name tables name table ≡ true) ⊎ (is_by mask n table.raw ≡ true)) [
        | inl there ↦ inl (has_name_is tables name table ∙ there)
        | inr made ↦ inr made
      ]
