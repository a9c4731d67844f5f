-- Stillness: a block that touches none of the items leaves the rows that meet one of them as they are.
use Rattle.std.proofs.Common.{◌≡◌, ◌∙◌, ◌⊎◌, inl, inr, ℕ, zero, suc, ◌+◌, Bool, true, false, cond, ◌==◌, ◌&&◌, ◌||◌, List, [], ◌∷◌, map, take, drop, refl, sym, ap, subst, Option, Some, None, option_map}
use Rattle.std.specs.List.{AllByRecursion, find, list_any}
use Rattle.std.proofs.lemmas.Bool.{and_cases, and_left, and_right, both_ways, eq-eqb, eqb-true, false_from_ne_true, or_cases, or_from, or_left, or_parts, or_right}
use Rattle.std.proofs.lemmas.List.{map-append}
use Rattle.ion_values.specs.declared.value.Key.{Key}
use Rattle.ion_values.specs.declared.value.Value.{Value}
use Rattle.ql_types.specs.declared.TableId.{TableId}
use Rattle.pql_model.specs.declared.tables.Row.{Row}
use Rattle.pql_model.specs.Steps.{field_of}
use Rattle.pql_model.specs.Tables.{has_key, key_in}
use Rattle.ledger_model.specs.declared.block.Block.{Block}
use Rattle.ledger_model.specs.declared.block.Content.{Content}
use Rattle.ledger_model.specs.declared.block.Content.TheVariants.{Deleted, Kept, Redacted}
use Rattle.ledger_model.specs.declared.block.Draft.{Draft}
use Rattle.ledger_model.specs.declared.outcome.Item.{Item}
use Rattle.ledger_model.specs.declared.outcome.Item.TheVariants as item
use Rattle.ledger_model.specs.declared.outcome.Named.{Named}
use Rattle.ledger_model.specs.Follows.{latest_of}
use Rattle.ledger_model.specs.Script.{or_else}
use Rattle.ledger_model.specs.State.{Recorded, State, after, draft_of, empty, revisions_after, state, state_from}
use Rattle.ledger_model.specs.Views.{latest, latest_from, live, row_of}
use Rattle.ledger_model.specs.Meets.{meets, meets_one}
use Rattle.laws_footprint.specs.Stillness.{Apart, Stillness, StillnessWithPending, block_revises, has_revision_of, rows_met}
use Rattle.laws_footprint.specs.Touches.{conflict_from, content_in, has_key_at, has_key_in, id_of, is_in, is_of_table, kept, named_or, redacts_document, redacts_in, revisions_in, touched, touches_document, touches_key}
use Rattle.ledger_model.proofs.Redactions.{latest_stands}
use Rattle.pql_model.proofs.Equality.{inside}
use Rattle.laws_footprint.proofs.Documents.{IsLatest, Silent, alike, all_latest, latest_after, latest_of-append, meets_row, met, others_after}

-- ---- items one by one

-- a document shows a row that doesn't meet the item
abbrev Unmet : TableId → Item → Draft → Type 0
Unmet table i d = meets_row (meets table i) (row_of table d) ≡ false

-- what holds of a document that an untouched revision is of: where the revision isn't of a table, the document isn't
-- in it
abbrev NotIn : Draft → TableId → Type 0
NotIn d read = (d.table.raw == read.raw) ≡ false

other_table : (d : Draft) (read table : TableId) → (d.table.raw == table.raw) ≡ true → NotIn d read
    → (read.raw == table.raw) ≡ false
other_table d read table here not =
    false_from_ne_true (read.raw == table.raw) (λ same.
    both_ways (d.table.raw == read.raw) not
    (eq-eqb d.table.raw read.raw (eqb-true d.table.raw table.raw here ∙ sym (eqb-true read.raw table.raw same))))

-- where a document is in the table and has a content
abbrev UnmetThere : TableId → Item → Draft → Type 0
UnmetThere table i d = (v : Value) → (d.table.raw == table.raw) ≡ true → d.content ≡ Kept v
    → meets table i (record { id = d.id; value = v }) ≡ false

unmet_live : (table : TableId) (i : Item) (d : Draft) (content : Content) → d.content ≡ content
    → (d.table.raw == table.raw) ≡ true → UnmetThere table i d
    → meets_row (meets table i) (live d.id content) ≡ false
unmet_live table i d Deleted e here h = refl
unmet_live table i d (Redacted hash) e here h = refl
unmet_live table i d (Kept v) e here h = h v here e

unmet_by : (table : TableId) (i : Item) (d : Draft) (b : Bool) → (d.table.raw == table.raw) ≡ b → UnmetThere table i d
    → meets_row (meets table i) (cond b (live d.id d.content) None) ≡ false
unmet_by table i d true e h = unmet_live table i d d.content refl e h
unmet_by table i d false e h = refl

unmet : (table : TableId) (i : Item) (d : Draft) → UnmetThere table i d → Unmet table i d
unmet table i d h = unmet_by table i d (d.table.raw == table.raw) refl h

-- ---- a revision that touches nothing, and a document that it is of

-- whether a revision of the block touches the item
abbrev pub revision_touches : State → Block → Item → Recorded → Bool
revision_touches s b (item.TableName name) r = false
revision_touches s b item.TableList r = false
revision_touches s b (item.Table read) r = is_of_table s read r
revision_touches s b (item.Doc read id) r = touches_document s read id.raw r
revision_touches s b (item.IndexValue read field k) r = touches_key s (after s b) read field k r

module _ (s : State) (b : Block) (table : TableId) (d : Draft) (r : Recorded) where
  -- its table before or after the block, and its content's keys
  abbrev Shown : Type 0
  Shown =
      ((read : TableId) → is_of_table s read r ≡ false → NotIn d read)
      × ((field : List ℕ) (k : Key) → (has_key_at s field k (id_of r) || has_key_at (after s b) field k (id_of r))
      ≡ false → has_key_in field k (kept d.content) ≡ false)

  unmet_here : (i : Item) → id_of r ≡ d.id.raw → Shown → revision_touches s b i r ≡ false → UnmetThere table i d
  unmet_here (item.TableName name) same shown un v here e = refl
  unmet_here item.TableList same shown un v here e = refl
  unmet_here (item.Table read) same shown un v here e = other_table d read table here (shown.0 read un)
  unmet_here (item.Doc read id) same shown un v here e =
      elim (and_cases (is_of_table s read r) (id_of r == id.raw) un) as
      (λ _. ((read.raw == table.raw) && (d.id.raw == id.raw)) ≡ false) [
        | inl not ↦ and_left (read.raw == table.raw) _ (other_table d read table here (shown.0 read not))
        | inr not ↦ and_right (read.raw == table.raw) _ (subst (λ n. (n == id.raw) ≡ false) same not)
      ]
  unmet_here (item.IndexValue read field k) same shown un v here e =
      elim (and_cases (is_of_table s read r)
      (has_key_at s field k (id_of r) || has_key_at (after s b) field k (id_of r)) un) as
      (λ _. ((read.raw == table.raw) && has_key k (key_in (field_of field v))) ≡ false) [
        | inl not ↦ and_left (read.raw == table.raw) _ (other_table d read table here (shown.0 read not))
        | inr not ↦ and_right (read.raw == table.raw)
            _ (sym (ap (λ c. has_key_in field k (kept c)) e) ∙ shown.1 field k not)
      ]

-- ---- revisions in a block

-- one with that id that doesn't pass
abbrev OneOf : (Recorded → Bool) → ℕ → Type 0
OneOf p id = (r : Recorded) × (id_of r ≡ id) × (p r ≡ false)

pub one_of : (p : Recorded → Bool) (id : ℕ) (rs : List Recorded) → list_any (has_revision_of id) rs ≡ true
    → list_any p rs ≡ false
    → (r : Recorded) × (id_of r ≡ id) × (p r ≡ false)
one_of p id [] has none = absurd (both_ways false refl has)
one_of p id (r ∷ rs) has none =
    let parts = or_parts (p r) (list_any p rs) none in
    elim (or_cases (id_of r == id) (list_any (has_revision_of id) rs) has) as
    (λ _. (x : Recorded) × (id_of x ≡ id) × (p x ≡ false)) [
      | inl here ↦ (r, eqb-true (id_of r) id here, parts.0)
      | inr later ↦ one_of p id rs later parts.1
    ]

-- the latest of them
abbrev LatestOne : (Recorded → Bool) → ℕ → List Recorded → Type 0
LatestOne p id rs = (r : Recorded) × (latest_of rs id ≡ Some r) × (id_of r ≡ id) × (p r ≡ false)

latest_by : (p : Recorded → Bool) (id : ℕ) (r : Recorded) (rs : List Recorded) (b : Bool) → (id_of r == id) ≡ b
    → p r ≡ false
    → LatestOne p id rs ⊎ ((latest_of rs id ≡ None) × (list_any (has_revision_of id) rs ≡ false))
    → LatestOne p id (r ∷ rs) ⊎ ((latest_of (r ∷ rs) id ≡ None) × (list_any (has_revision_of id) (r ∷ rs) ≡ false))
latest_by p id r rs b e not (inl w) = inl (w.0, ap (λ o. or_else o (cond (id_of r == id) (Some r) None)) w.1, w.2, w.3)
latest_by p id r rs true e not (inr none) =
    inl (
      r,
      ap (λ o. or_else o (cond (id_of r == id) (Some r) None)) none.0
          ∙ ap (λ c. cond c (Some r) None) e,
      eqb-true (id_of r) id e,
      not,
    )
latest_by p id r rs false e not (inr none) =
    inr (
      ap (λ o. or_else o (cond (id_of r == id) (Some r) None)) none.0
          ∙ ap (λ c. cond c (Some r) None) e,
      or_from (id_of r == id) _ e none.1,
    )

latest_or : (p : Recorded → Bool) (id : ℕ) (rs : List Recorded) → list_any p rs ≡ false
    → LatestOne p id rs ⊎ ((latest_of rs id ≡ None) × (list_any (has_revision_of id) rs ≡ false))
latest_or p id [] none = inr (refl, refl)
latest_or p id (r ∷ rs) none =
    let parts = or_parts (p r) (list_any p rs) none in
    latest_by p id r rs (id_of r == id) refl parts.0 (latest_or p id rs parts.1)

latest_one : (p : Recorded → Bool) (id : ℕ) (rs : List Recorded) → list_any (has_revision_of id) rs ≡ true
    → list_any p rs ≡ false → LatestOne p id rs
latest_one p id rs has none =
    elim (latest_or p id rs none) as (λ _. LatestOne p id rs)
    [ inl w ↦ w | inr not ↦ absurd (both_ways (list_any (has_revision_of id) rs) not.1 has) ]

-- ---- one block

in_option : (rs : List Recorded) (id : ℕ) (d : Draft) (o : Option Recorded) → latest_of rs id ≡ o
    → option_map draft_of o ≡ Some d
    → (r : Recorded) × (latest_of rs id ≡ Some r) × (draft_of r ≡ d)
in_option rs id d None e h = cc
in_option rs id d (Some r) e h = (r, e, inside (draft_of r) d h)

module _ (s : State) (b : Block) (table : TableId) where
  abbrev new : List Recorded
  new = revisions_in b

  -- the revisions of the blocks before, as they are after the block
  abbrev before : List Recorded
  before = revisions_after b.info.schema s.revisions

  shown_before : (d : Draft) (r : Recorded) → id_of r ≡ d.id.raw → IsLatest s.revisions d → Shown s b table d r
  shown_before d r same is =
      let w = in_option s.revisions d.id.raw d (latest_of s.revisions d.id.raw) refl is in
      let at : latest_of s.revisions (id_of r) ≡ Some w.0 = ap (latest_of s.revisions) same ∙ w.1 in (
        (λ read not.
            let parts = or_parts (is_in read (Some r)) (is_in read (latest_of s.revisions (id_of r))) not in
            sym (ap (λ (x : Draft). x.table.raw == read.raw) w.2) ∙ (sym (ap (is_in read) at) ∙ parts.1)),
        (λ field k not.
            let parts = or_parts (has_key_at s field k (id_of r)) (has_key_at (after s b) field k (id_of r)) not in
            sym (ap (λ (x : Draft). has_key_in field k (kept x.content)) w.2)
            ∙ (sym (ap (λ o. has_key_in field k (content_in o)) at) ∙ parts.0)),
      )

  shown_after : (d : Draft) (r : Recorded) → id_of r ≡ d.id.raw → latest_of new d.id.raw ≡ Some r
      → IsLatest (after s b).revisions d → Shown s b table d r
  shown_after d r same last is =
      let at : latest_of (after s b).revisions d.id.raw ≡ Some r =
      latest_of-append before new d.id.raw ∙ ap (λ o. or_else o (latest_of before d.id.raw)) last in
      let there : latest_of (after s b).revisions (id_of r) ≡ Some r = ap (latest_of (after s b).revisions) same
      ∙ at in
      let it : draft_of r ≡ d = inside (draft_of r) d (sym (ap (option_map draft_of) at) ∙ is) in (
        (λ read not.
            let parts = or_parts (is_in read (Some r)) (is_in read (latest_of s.revisions (id_of r))) not in
            sym (ap (λ (x : Draft). x.table.raw == read.raw) it) ∙ parts.0),
        (λ field k not.
            let parts = or_parts (has_key_at s field k (id_of r)) (has_key_at (after s b) field k (id_of r)) not in
            sym (ap (λ (x : Draft). has_key_in field k (kept x.content)) it)
            ∙ (sym (ap (λ o. has_key_in field k (content_in o)) there) ∙ parts.1)),
      )

  -- the block's revisions don't touch an item of documents that isn't touched
  pub revisions_untouched : (i : Item) → touched s b i ≡ false → list_any (revision_touches s b i) new ≡ false
  revisions_untouched (item.TableName name) h = none new where
    none : (rs : List Recorded) → list_any (λ r. false) rs ≡ false
    none [] = refl
    none (r ∷ rs) = none rs
  revisions_untouched item.TableList h = none new where
    none : (rs : List Recorded) → list_any (λ r. false) rs ≡ false
    none [] = refl
    none (r ∷ rs) = none rs
  revisions_untouched (item.Table read) h =
      (or_parts (list_any (is_of_table s read) new) (list_any (redacts_in read) b.info.schema) h).0
  revisions_untouched (item.Doc read id) h =
      (or_parts (list_any (touches_document s read id.raw) new)
      (list_any (redacts_document read id.raw) b.info.schema) h).0
  revisions_untouched (item.IndexValue read field k) h = h

  pub unmet_before : (i : Item) (d : Draft) → touched s b i ≡ false → block_revises d.id.raw b ≡ true
      → IsLatest s.revisions d → Unmet table i d
  unmet_before i d un has is =
      let w = one_of (revision_touches s b i) d.id.raw new has (revisions_untouched i un) in
      unmet table i d (unmet_here s b table d w.0 i w.1 (shown_before d w.0 w.1 is) w.2)

  pub unmet_after : (i : Item) (d : Draft) → touched s b i ≡ false → block_revises d.id.raw b ≡ true
      → IsLatest (after s b).revisions d → Unmet table i d
  unmet_after i d un has is =
      let w = latest_one (revision_touches s b i) d.id.raw new has (revisions_untouched i un) in
      unmet table i d (unmet_here s b table d w.0 i w.2 (shown_after d w.0 w.2 w.1 is) w.3)

  -- ---- all items

  abbrev AllUntouched : List Item → Type 0
  AllUntouched items = AllByRecursion (λ i. touched s b i ≡ false) items

  none_met : (row : Row) (items : List Item) → AllByRecursion (λ i. meets table i row ≡ false) items
      → meets_one table items row ≡ false
  none_met row [] h = refl
  none_met row (i ∷ items) h = or_from (meets table i row) _ h.0 (none_met row items h.1)

  pub each_unmet : (o : Option Row) (items : List Item)
      → AllByRecursion (λ i. meets_row (meets table i) o ≡ false) items → meets_row (meets_one table items) o ≡ false
  each_unmet None items h = refl
  each_unmet (Some row) items h = none_met row items h

  pub all_items : (P : Item → Type 0) (items : List Item) → AllUntouched items
      → ((i : Item) → touched s b i ≡ false → P i) → AllByRecursion P items
  all_items P [] h f = tt
  all_items P (i ∷ items) h f = (f i h.0, all_items P items h.1 f)

  silent_by : (rs : List Recorded) (items : List Item) → AllUntouched items
      → ((i : Item) (d : Draft) → touched s b i ≡ false → block_revises d.id.raw b ≡ true → IsLatest rs d
      → Unmet table i d)
      → (docs : List Draft) → AllByRecursion (IsLatest rs) docs
      → Silent table (meets_one table items) (λ id. block_revises id b) docs
  silent_by rs items h f [] all = tt
  silent_by rs items h f (d ∷ ds) all = (
    (λ has. each_unmet (row_of table d) items
        (all_items (λ i. Unmet table i d) items h (λ i un. f i d un has all.0))),
    silent_by rs items h f ds all.1,
  )

  has_own : (rs all : List Recorded) → ((r : Recorded) → list_any (has_revision_of (id_of r)) rs ≡ true
      → list_any (has_revision_of (id_of r)) all ≡ true)
      → AllByRecursion (λ (p : Draft). list_any (has_revision_of p.id.raw) all ≡ true) (map draft_of rs)
  has_own [] all f = tt
  has_own (r ∷ rs) all f = (
    f r (or_left (id_of r == id_of r) _ (eq-eqb (id_of r) (id_of r) refl)),
    has_own rs all (λ x h. f x (or_right (id_of r == id_of x) _ h)),
  )

  pub one_block : (items : List Item) (pending : List Draft) → AllUntouched items
      → AllByRecursion (λ (p : Draft). block_revises p.id.raw b ≡ false) pending
      → rows_met table items (after s b) pending ≡ rows_met table items s pending
  one_block items pending h apart =
      let docs = latest (map draft_of s.revisions) in
      let more = latest_from docs (map draft_of new) in
      let joined : latest (map draft_of (after s b).revisions) ≡ more =
      ap latest (map-append draft_of before new)
      ∙ latest_after [] (map draft_of before) (map draft_of new)
      ∙ ap (λ ds. latest_from ds (map draft_of new)) (latest_stands b.info.schema s.revisions) in
      let silent_after : Silent table (meets_one table items) (λ id. block_revises id b) more =
      subst (Silent table (meets_one table items) (λ id. block_revises id b)) joined
      (silent_by (after s b).revisions items h unmet_after (latest (map draft_of (after s b).revisions))
      (all_latest (after s b).revisions)) in
      ap (met table (meets_one table items))
      (latest_after [] (map draft_of (after s b).revisions) pending ∙ ap (λ x. latest_from x pending) joined)
      ∙ alike table (meets_one table items) (λ id. block_revises id b) more docs pending
      (others_after table (meets_one table items) (λ id. block_revises id b) docs (map draft_of new)
      (has_own new new (λ x k. k)))
      silent_after (silent_by s.revisions items h unmet_before docs (all_latest s.revisions)) apart
      ∙ sym (ap (met table (meets_one table items)) (latest_after [] (map draft_of s.revisions) pending))

-- ---- all blocks

pub none_named : (m : ℕ) (o : Option Item) (later : Option Named) → named_or m o later ≡ None
    → (o ≡ None) × (later ≡ None)
none_named m None later h = (refl, h)
none_named m (Some i) later h = cc

not_found_by : (p : Item → Bool) (i : Item) (b : Bool) (rest : Option Item) → p i ≡ b → cond b (Some i) rest ≡ None
    → (p i ≡ false) × (rest ≡ None)
not_found_by p i true rest e h = cc
not_found_by p i false rest e h = (e, h)

pub none_found : (p : Item → Bool) (items : List Item) → find p items ≡ None → AllByRecursion (λ i. p i ≡ false) items
none_found p [] h = tt
none_found p (i ∷ items) h =
    let parts = not_found_by p i (p i) (find p items) refl h in
    (parts.0, none_found p items parts.1)

first_apart : (b : Block) (bs : List Block) (pending : List Draft) → Apart (b ∷ bs) pending
    → AllByRecursion (λ (p : Draft). block_revises p.id.raw b ≡ false) pending × Apart bs pending
first_apart b bs [] h = (tt, tt)
first_apart b bs (p ∷ ps) h =
    let parts = or_parts (block_revises p.id.raw b) (list_any (block_revises p.id.raw) bs) h.0 in
    let rest = first_apart b bs ps h.1 in
    ((parts.0, rest.0), (parts.1, rest.1))

pub still : (m : ℕ) (s : State) (later : List Block) (table : TableId) (items : List Item) (pending : List Draft)
    → conflict_from m s later items ≡ None
    → Apart later pending → rows_met table items (state_from s later) pending ≡ rows_met table items s pending
still m s [] table items pending none apart = refl
still m s (b ∷ bs) table items pending none apart =
    let parts = none_named m (find (touched s b) items) (conflict_from (m + 1) (after s b) bs items) none in
    let aparts = first_apart b bs pending apart in
    still (m + 1) (after s b) bs table items pending parts.1 aparts.1
    ∙ one_block s b table items pending (none_found (touched s b) items parts.0) aparts.0

pub state_split : (s : State) (since : ℕ) (blocks : List Block)
    → state_from s blocks ≡ state_from (state_from s (take since blocks)) (drop since blocks)
state_split s zero blocks = refl
state_split s (suc n) [] = refl
state_split s (suc n) (b ∷ bs) = state_split (after s b) n bs

pub stillness_with_pending : StillnessWithPending
stillness_with_pending blocks since table items pending none apart =
    ap (λ s. rows_met table items s pending) (state_split empty since blocks)
    ∙ still since (state (take since blocks)) (drop since blocks) table items pending none apart

pub stillness : Stillness
stillness blocks since table items none = stillness_with_pending blocks since table items [] none tt
