-- The history of a made workload: first the table is made, and then each block adds a document to it.
use Rattle.std.proofs.Common.{◌≡◌, ◌∙◌, ◌⊎◌, ℕ, ◌+◌, ◌*◌, ◌<◌, ◌==◌, ◌^◌, true, false, not, List, [], ◌∷◌, ◌++◌, append-nil, append_assoc, map, Some, None, refl, sym, ap, subst, inl, inr, arith}
use Rattle.std.specs.List.{AllByRecursion, list_any, filter_map}
use Rattle.std.proofs.lemmas.List.{map-append}
use Rattle.std.proofs.lemmas.Bool.{and_parts, eq-eqb, ne_eqb, not-true, or_parts, true≢false}
use Rattle.ion_values.specs.declared.value.Value.{Value}
use Rattle.pql_model.specs.declared.tables.Row.{Row}
use Rattle.ql_types.specs.Ids.{raw_id, transaction_in}
use Rattle.ql_types.specs.declared.TableId.{TableId}
use Rattle.ql_types.proofs.Masks.{unmasked}
use Rattle.ledger_model.specs.declared.block.Block.{Block}
use Rattle.ledger_model.specs.declared.block.Draft.{Draft}
use Rattle.ledger_model.specs.declared.block.Schema.{Schema}
use Rattle.ledger_model.specs.declared.damage.Damage.TheVariants.{WrongAddress, WrongId}
use Rattle.ledger_model.specs.Damages.{UndamagedBehind, damage_behind, has_address, has_id, strand_of}
use Rattle.ledger_model.specs.State.{Recorded, State, Table, active_table, after, all_changed, draft_of, empty, recorded_in, revisions_after, state, state_from}
use Rattle.ledger_model.specs.Views.{latest, put, row_of, user_view}
use Rattle.ledger_model.proofs.Redactions.{none_redacts}
use Rattle.laws_validity.proofs.Journals.{past}
use Rattle.laws_validity.proofs.Latest.{latest-push, put_new}
use Rattle.workload.specs.Laws.{values_of}
use Rattle.workload.specs.Sums.{made_rows}
use Rattle.turn_lock.specs.History.{Stands}
use Rattle.laws_workload.proofs.Blocks.{AddsDocument, draft_at, name}

-- ---- states and ids

state_more : (s : State) (bs : List Block) (b : Block) → state_from s (bs ++ b ∷ []) ≡ after (state_from s bs) b
state_more s [] b = refl
state_more s (x ∷ bs) b = state_more (after s x) bs b

-- the number of an id
number_of : (mask n i : ℕ) → i < 2 ^ 24 → transaction_in mask (raw_id mask n i) ≡ n
number_of mask n i h = rw (unmasked (n * 2 ^ 24 + i) mask) (omega (arith, h))

-- no earlier block has the id
not_earlier : (raw : ℕ) (bs : List Block) (c : Block) → list_any (λ (earlier : Block). earlier.header.tx.raw == raw) bs ≡ false
    → Stands c bs → c.header.tx.raw ≡ raw → ⊥
not_earlier raw [] c none h e = h
not_earlier raw (x ∷ bs) c none h e =
    let both = or_parts (x.header.tx.raw == raw) (list_any (λ (earlier : Block). earlier.header.tx.raw == raw) bs) none in
    by (λ rest. not_earlier raw bs c both.1 rest e) h both.0
  where
    by : (Stands c bs → ⊥) → (c ≡ x) ⊎ Stands c bs → (x.header.tx.raw == raw) ≡ false → ⊥
    by others (inl same) differ =
        true≢false (sym (eq-eqb x.header.tx.raw raw (ap (λ (y : Block). y.header.tx.raw) (sym same) ∙ e)) ∙ differ)
    by others (inr rest) differ = others rest

new_id : (before : List Block) (b c : Block) → damage_behind before b ≡ None → Stands c before
    → c.header.tx.raw ≡ b.header.tx.raw → ⊥
new_id before b c sound among e =
    let strand = strand_of before b in
    let address = past (has_address strand before b) WrongAddress _ sound in
    let id = past (has_id strand before b) WrongId _ address.1 in
    let last = and_parts _ (not (list_any (λ (earlier : Block). earlier.header.tx.raw == b.header.tx.raw) before)) id.0 in
    not_earlier b.header.tx.raw before c (not-true _ last.1) among e

-- ---- the documents so far

-- a transaction's number and the document that it added
pub record Added : Type 0 where
  pub number : ℕ
  pub value : Value

abbrev drafted : ℕ → TableId → Added → Draft
drafted mask table a = draft_at mask table a.number a.value

-- a block has the id of the number
abbrev IsKnown : ℕ → List Block → Added → Type 0
IsKnown mask before a = (b : Block) × Stands b before × (b.header.tx.raw ≡ raw_id mask a.number 0)

-- the table was made, and these documents were added to it
pub record Stand (mask : ℕ) (before : List Block) (table : TableId) (added : List Added) : Type 0 where
  pub tables : (state before).tables ≡ record { name = name; id = table; active = true } ∷ []
  pub documents : latest (map draft_of (state before).revisions) ≡ map (drafted mask table) added
  pub known : AllByRecursion (IsKnown mask before) added

further : (mask : ℕ) (before : List Block) (b : Block) (added : List Added) → AllByRecursion (IsKnown mask before) added
    → AllByRecursion (IsKnown mask (before ++ b ∷ [])) added
further mask before b [] h = tt
further mask before b (a ∷ added) h = ((h.0.0, front h.0.0 before h.0.1, h.0.2), further mask before b added h.1)
  where
    front : (c : Block) (bs : List Block) → Stands c bs → Stands c (bs ++ b ∷ [])
    front c [] k = absurd k
    front c (x ∷ bs) (inl e) = inl e
    front c (x ∷ bs) (inr k) = inr (front c bs k)

known_more : (mask : ℕ) (before : List Block) (added : List Added) (a : Added) → AllByRecursion (IsKnown mask before) added
    → IsKnown mask before a → AllByRecursion (IsKnown mask before) (added ++ a ∷ [])
known_more mask before [] a h k = (k, tt)
known_more mask before (x ∷ added) a h k = (h.0, known_more mask before added a h.1 k)

last_stands : (b : Block) (bs : List Block) → Stands b (bs ++ b ∷ [])
last_stands b [] = inl refl
last_stands b (x ∷ bs) = inr (last_stands b bs)

module _ (mask : ℕ) (before : List Block) (b : Block) (table : TableId) (added : List Added) (stand : Stand mask before table added)
    (sound : damage_behind before b ≡ None) (v : Value) (adds : AddsDocument mask (state before) v b) where
  abbrev a : Added
  a = record { number = adds.number; value = v }

  abbrev s : State
  s = state before

  now_is : state (before ++ b ∷ []) ≡ after s b
  now_is = state_more empty before b

  -- it is the same table
  same_table : adds.table ≡ table
  same_table =
      let found : active_table s.tables name ≡ Some table = ap (λ (ts : List Table). active_table ts name) stand.tables in
      cc (sym adds.there ∙ found)

  apart : (xs : List Added) → AllByRecursion (IsKnown mask before) xs
      → AllByRecursion (λ (x : Draft). (x.id.raw == raw_id mask adds.number 1) ≡ false) (map (drafted mask table) xs)
  apart [] h = tt
  apart (x ∷ xs) h = (
    ne_eqb (raw_id mask x.number 1) (raw_id mask adds.number 1) (λ same.
        let numbers : x.number ≡ adds.number =
        sym (number_of mask x.number 1 (omega arith)) ∙ ap (transaction_in mask) same
        ∙ number_of mask adds.number 1 (omega arith) in
        new_id before b h.0.0 sound h.0.1 (h.0.2 ∙ ap (λ n. raw_id mask n 0) numbers ∙ sym adds.id)),
    apart xs h.1,
  )

  -- the block's schema is empty
  nothing_redacted : revisions_after b.info.schema s.revisions ≡ s.revisions
  nothing_redacted =
      ap (λ (cs : List Schema). revisions_after cs s.revisions) adds.schema ∙ none_redacts [] refl s.revisions

  drafts_are : map draft_of (after s b).revisions ≡ map draft_of s.revisions ++ drafted mask table a ∷ []
  drafts_are =
      map-append draft_of (revisions_after b.info.schema s.revisions) (recorded_in b.info.tables b.revisions)
      ∙ ap (λ (rs : List Recorded). map draft_of rs ++ map draft_of (recorded_in b.info.tables b.revisions)) nothing_redacted
      ∙ ap (λ (ds : List Draft). map draft_of s.revisions ++ ds)
      (adds.adds ∙ ap (λ (t : TableId). draft_at mask t adds.number v ∷ []) same_table)

  documents_are : latest (map draft_of (after s b).revisions) ≡ map (drafted mask table) (added ++ a ∷ [])
  documents_are =
      ap latest drafts_are ∙ latest-push (map draft_of s.revisions) (drafted mask table a)
      ∙ ap (λ (ds : List Draft). put ds (drafted mask table a)) stand.documents
      ∙ put_new (map (drafted mask table) added) (drafted mask table a) (apart added stand.known)
      ∙ sym (map-append (drafted mask table) added (a ∷ []))

  pub stands_on : Stand mask (before ++ b ∷ []) table (added ++ a ∷ [])
  stands_on = record {
    tables = ap (λ (x : State). x.tables) now_is ∙ ap (λ (cs : List Schema). all_changed s.tables cs) adds.schema ∙ stand.tables;
    documents = ap (λ (x : State). latest (map draft_of x.revisions)) now_is ∙ documents_are;
    known = known_more mask (before ++ b ∷ []) added a (further mask before b added stand.known)
        (b, last_stands b before, adds.id);
  }

-- ---- all blocks

-- what is so of the whole history
pub record Whole (mask : ℕ) (blocks : List Block) (values : List Value) : Type 0 where
  pub table : TableId
  pub added : List Added
  pub stand : Stand mask blocks table added
  pub values_are : map (λ (a : Added). a.value) added ≡ values

-- each of the blocks adds the document that this gives for it
abbrev pub EachAdds : (mask : ℕ) → (Block → Value) → State → List Block → Type 0
EachAdds mask value s [] = Unit {0}
EachAdds mask value s (b ∷ bs) = AddsDocument mask s (value b) b × EachAdds mask value (after s b) bs

pub whole_from : (mask : ℕ) (value : Block → Value) (bs before : List Block) (table : TableId) (added : List Added)
    → Stand mask before table added → UndamagedBehind before bs → EachAdds mask value (state before) bs
    → Whole mask (before ++ bs) (map (λ (a : Added). a.value) added ++ map value bs)
whole_from mask value [] before table added stand sound each = record {
  table = table;
  added = added;
  stand = subst (λ (xs : List Block). Stand mask xs table added) (sym (append-nil before)) stand;
  values_are = sym (append-nil _);
}
whole_from mask value (b ∷ bs) before table added stand sound each =
    let one = stands_on mask before b table added stand sound.1 (value b) each.0 in
    let a : Added = record { number = each.0.number; value = value b } in
    let rest = whole_from mask value bs (before ++ b ∷ []) table (added ++ a ∷ []) one sound.2
    (subst (λ (s : State). EachAdds mask value s bs) (sym (state_more empty before b)) each.1) in
    record {
      table = rest.table;
      added = rest.added;
      stand = subst (λ (xs : List Block). Stand mask xs rest.table rest.added) (append_assoc before (b ∷ []) bs) rest.stand;
      values_are = rest.values_are
          ∙ ap (λ (vs : List Value). vs ++ map value bs) (map-append (λ (x : Added). x.value) added (a ∷ []))
          ∙ append_assoc (map (λ (x : Added). x.value) added) (value b ∷ []) (map value bs);
    }

-- ---- the rows

module _ (mask : ℕ) (table : TableId) where
  abbrev row : Added → Row
  row a = record { id = record { raw = raw_id mask a.number 1 }; value = a.value }

  rows_are : (added : List Added) → filter_map (row_of table) (map (drafted mask table) added) ≡ map row added
  rows_are [] = refl
  rows_are (a ∷ added) = rw (eq-eqb table.raw table.raw refl, rows_are added) refl

  values_are : (added : List Added) → values_of (map row added) ≡ map (λ (a : Added). a.value) added
  values_are [] = refl
  values_are (a ∷ added) = ap (λ (vs : List Value). a.value ∷ vs) (values_are added)

-- a reader of the table sees these documents
pub whole_rows : (mask : ℕ) (blocks : List Block) (values : List Value) → Whole mask blocks values
    → values_of (made_rows (state blocks)) ≡ values
whole_rows mask blocks values w =
    let s = state blocks in
    let found : active_table s.tables name ≡ Some w.table =
    ap (λ (ts : List Table). active_table ts name) w.stand.tables in
    let rows : made_rows s ≡ user_view w.table (map draft_of s.revisions) [] = rw found refl in
    let seen : user_view w.table (map draft_of s.revisions) [] ≡ filter_map (row_of w.table) (map (drafted mask w.table) w.added) =
    ap (λ (ds : List Draft). filter_map (row_of w.table) (latest ds)) (append-nil (map draft_of s.revisions))
    ∙ ap (λ (ds : List Draft). filter_map (row_of w.table) ds) w.stand.documents in
    ap values_of (rows ∙ seen ∙ rows_are mask w.table w.added) ∙ values_are mask w.table w.added ∙ w.values_are
