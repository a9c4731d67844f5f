-- No two tables of an undamaged journal have one id: each was made by a transaction of its own block, and no two blocks
-- are of one transaction.
use Rattle.std.proofs.Common.{◌≡◌, ◌∙◌, ℕ, ◌^◌, ◌==◌, ◌&&◌, ◌||◌, Bool, true, false, not, List, [], ◌∷◌, ◌++◌, map, refl, sym, ap, ap₂, subst, append-nil, append_assoc}
use Rattle.std.specs.Prelude.{nat_le, nat_lt}
use Rattle.std.specs.List.{AllByRecursion, filter, list_all, list_any}
use Rattle.std.proofs.lemmas.Bool.{and_from, and_parts, eqb-false, eqb-true, not-true, or_parts}
use Rattle.std.proofs.lemmas.List.{map-append}
use Rattle.std.proofs.lemmas.List.Folds.{list_all-append, list_any-append}
use Rattle.ql_types.specs.Ids.{raw_id, thing_in, transaction_in}
use Rattle.ql_types.specs.declared.TableId.{TableId}
use Rattle.ql_types.proofs.Masks.{made_of_parts}
use Rattle.ledger_model.specs.declared.block.Block.{Block}
use Rattle.ledger_model.specs.declared.block.Schema.{Schema}
use Rattle.ledger_model.specs.declared.block.Schema.TheVariants.{Create, Index, Drop, Redact}
use Rattle.ledger_model.specs.Damages.{Undamaged, UndamagedBehind, has_id, strand_of}
use Rattle.ledger_model.specs.Follows.{all_differ, created_id, created_ids, document_ids, follows, ids_follow, is_made_by, is_new, made_ids, revision_follows, schema_follows}
use Rattle.ledger_model.specs.State.{State, Table, all_changed, changed, dropped, empty, state}
use Rattle.laws_validity.specs.Before.{HasStrand, IsUnused, is_made_in}
use Rattle.laws_validity.proofs.Journals.{passes_all, state_push, strand_is, undamaged_push}
use Rattle.laws_validity.proofs.Lists.{all_like, all_mapped, all_push, apart, differ_push, other_way, passing}
use Rattle.laws_validity.proofs.States.{ids_are_made, is_other}
use Rattle.laws_footprint.specs.Touches.{revisions_in}
use Rattle.occ_check.proofs.Names.{table_ids}

-- ---- the ids that a block gives to tables

ids_dropped : (id : TableId) (ts : List Table) → table_ids (map (dropped id) ts) ≡ table_ids ts
ids_dropped id [] = refl
ids_dropped id (t ∷ ts) = ap (λ (xs : List ℕ). t.id.raw ∷ xs) (ids_dropped id ts)

ids_changed : (ts : List Table) (c : Schema) → table_ids (changed ts c) ≡ table_ids ts ++ created_id c
ids_changed ts (Create name id) =
    map-append (λ (t : Table). t.id.raw) ts (record { name = name; id = id; active = true } ∷ [])
ids_changed ts (Index field id) = sym (append-nil (table_ids ts))
ids_changed ts (Drop name id) = ids_dropped id ts ∙ sym (append-nil (table_ids ts))
ids_changed ts (Redact address id document) = sym (append-nil (table_ids ts))

ids_after : (ts : List Table) (cs : List Schema) → table_ids (all_changed ts cs) ≡ table_ids ts ++ created_ids cs
ids_after ts [] = sym (append-nil (table_ids ts))
ids_after ts (c ∷ cs) =
    ids_after (changed ts c) cs ∙ ap (λ xs. xs ++ created_ids cs) (ids_changed ts c)
    ∙ append_assoc (table_ids ts) (created_id c) (created_ids cs)

-- ---- lists of numbers that differ

differ_front : (xs ys : List ℕ) → all_differ (xs ++ ys) ≡ true → all_differ xs ≡ true
differ_front [] ys h = refl
differ_front (x ∷ xs) ys h =
    let parts = and_parts (not (list_any (λ y. x == y) (xs ++ ys))) (all_differ (xs ++ ys)) h in
    let none = or_parts (list_any (λ y. x == y) xs) (list_any (λ y. x == y) ys)
    (sym (list_any-append (λ y. x == y) xs ys) ∙ not-true (list_any (λ y. x == y) (xs ++ ys)) parts.0) in
    and_from _ _ (ap not none.0) (differ_front xs ys parts.1)

abbrev IsNewTo : List ℕ → ℕ → Type 0
IsNewTo xs y = list_any (λ x. y == x) xs ≡ false

still_new : (xs : List ℕ) (y : ℕ) (ys : List ℕ) → list_any (λ z. y == z) ys ≡ false → AllByRecursion (IsNewTo xs) ys
    → AllByRecursion (IsNewTo (xs ++ y ∷ [])) ys
still_new xs y [] none h = tt
still_new xs y (z ∷ zs) none h =
    let parts = or_parts (y == z) (list_any (λ w. y == w) zs) none in (
      list_any-append (λ x. z == x) xs (y ∷ []) ∙ ap₂ (λ (a b : Bool). a || (b || false)) h.0 (other_way z y parts.0),
      still_new xs y zs parts.1 h.1,
    )

differ_both : (xs ys : List ℕ) → all_differ xs ≡ true → all_differ ys ≡ true → AllByRecursion (IsNewTo xs) ys
    → all_differ (xs ++ ys) ≡ true
differ_both xs [] d e h = subst (λ l. all_differ l ≡ true) (sym (append-nil xs)) d
differ_both xs (y ∷ ys) d e h =
    let parts = and_parts (not (list_any (λ z. y == z) ys)) (all_differ ys) e in
    let none = not-true (list_any (λ z. y == z) ys) parts.0 in
    subst (λ l. all_differ l ≡ true) (append_assoc xs (y ∷ []) ys)
    (differ_both (xs ++ y ∷ []) ys (differ_push xs y d h.0) parts.1 (still_new xs y ys none h.1))

-- ---- the transaction of a block

module _ (mask : ℕ) where
  abbrev number_of : Block → ℕ
  number_of b = transaction_in mask b.header.tx.raw

  -- the id is a transaction's own
  abbrev IsOwn : Block → Type 0
  IsOwn b = thing_in mask b.header.tx.raw ≡ 0

  unused : (before : List Block) (b : Block) → AllByRecursion IsOwn before → IsOwn b
      → list_any (λ (e : Block). e.header.tx.raw == b.header.tx.raw) before ≡ false
      → IsUnused mask (number_of b) before
  unused [] b h own none = tt
  unused (e ∷ es) b h own none =
      let parts = or_parts (e.header.tx.raw == b.header.tx.raw)
      (list_any (λ (x : Block). x.header.tx.raw == b.header.tx.raw) es) none in (
        (λ same.
            let first : e.header.tx.raw ≡ raw_id mask (number_of b) 0 =
            made_of_parts e.header.tx.raw mask (number_of b) (sym same) ∙ ap (raw_id mask (number_of b)) h.0 in
            let second : b.header.tx.raw ≡ raw_id mask (number_of b) 0 =
            made_of_parts b.header.tx.raw mask (number_of b) refl ∙ ap (raw_id mask (number_of b)) own in
            eqb-false e.header.tx.raw b.header.tx.raw parts.0 (first ∙ sym second)),
        unused es b h.1 own parts.1,
      )

  -- what a block that follows says of the ids of its tables
  record Makes (b : Block) : Type 0 where
    own : AllByRecursion (λ id. is_made_by mask (number_of b) id ≡ true) (created_ids b.info.schema)
    differ : all_differ (created_ids b.info.schema) ≡ true

  makes_of : (s : State) (b : Block) → follows mask s b ≡ true → Makes b
  makes_of s b f =
      let schema = schema_follows s.tables s.indexes b.info.schema in
      let ids = ids_follow mask (made_ids s b) b.header.tx.raw in
      let each = list_all (revision_follows s b) (revisions_in b) in
      let three = and_parts (schema && ids && each) (all_differ (document_ids b.revisions)) f in
      let two = and_parts (schema && ids) each three.0 in
      let by : ℕ → Bool = is_made_by mask (number_of b) in
      let made = and_parts (list_all by (made_ids s b)) (all_differ (made_ids s b)) (and_parts schema ids two.0).1 in
      let news = filter (is_new s.revisions) (document_ids b.revisions) in
      let parts = and_parts (list_all by (created_ids b.info.schema)) (list_all by news)
      (sym (list_all-append by (created_ids b.info.schema) news) ∙ made.0) in
      record {
        own = passing by (created_ids b.info.schema) parts.0;
        differ = differ_front (created_ids b.info.schema) news made.1;
      }

  new_to : (before : List Block) (b : Block) (ts : List Table) → IsUnused mask (number_of b) before
      → AllByRecursion (λ (t : Table). is_made_in mask before t.id.raw ≡ true) ts → (id : ℕ)
      → is_made_by mask (number_of b) id ≡ true → IsNewTo (table_ids ts) id
  new_to before b ts none made id own =
      let by = eqb-true (transaction_in mask id) (number_of b)
      (and_parts (transaction_in mask id == number_of b) (nat_le 1 (thing_in mask id)) own).0 in
      apart id (table_ids ts)
      (all_mapped (λ x. id ≡ x → ⊥) (λ (t : Table). t.id.raw) ts
      (all_like (λ (t : Table). is_made_in mask before t.id.raw ≡ true) (λ (t : Table). id ≡ t.id.raw → ⊥)
      (λ t h same. is_other mask (number_of b) before t.id.raw none h (ap (transaction_in mask) (sym same) ∙ by)) ts made))

  -- ---- all blocks

  strand_front : (xs ys : List Block) → HasStrand mask (xs ++ ys) → HasStrand mask xs
  strand_front [] ys h = tt
  strand_front (x ∷ xs) ys h = h

  ids_differ : (before bs : List Block) → Undamaged before → UndamagedBehind before bs → HasStrand mask (before ++ bs)
      → AllByRecursion IsOwn before → HasStrand mask before → all_differ (table_ids (state before).tables) ≡ true
      → all_differ (table_ids (state (before ++ bs)).tables) ≡ true
  ids_differ before [] u more strand whole own d =
      subst (λ xs. all_differ (table_ids (state xs).tables) ≡ true) (sym (append-nil before)) d
  ids_differ before (b ∷ bs) u more strand whole own d =
      let next : List Block = before ++ b ∷ [] in
      let p = passes_all before b more.1 in
      let of_mask : strand_of before b ≡ mask = strand_is mask before b bs strand in
      let f = subst (λ n. follows n (state before) b ≡ true) of_mask p.follows_is in
      let id = subst (λ n. has_id n before b ≡ true) of_mask p.id in
      let three = and_parts
      (nat_le 1 (number_of b) && nat_lt (number_of b) (2 ^ 64) && (thing_in mask b.header.tx.raw == 0))
      (not (list_any (λ (e : Block). e.header.tx.raw == b.header.tx.raw) before)) id in
      let two = and_parts (nat_le 1 (number_of b) && nat_lt (number_of b) (2 ^ 64))
      (thing_in mask b.header.tx.raw == 0) three.0 in
      let this : IsOwn b = eqb-true (thing_in mask b.header.tx.raw) 0 two.1 in
      let none = unused before b whole this
      (not-true (list_any (λ (e : Block). e.header.tx.raw == b.header.tx.raw) before) three.1) in
      let makes = makes_of (state before) b f in
      let made = (ids_are_made mask before u own).tables in
      let news = all_like (λ i. is_made_by mask (number_of b) i ≡ true) (IsNewTo (table_ids (state before).tables))
      (new_to before b (state before).tables none made) (created_ids b.info.schema) makes.own in
      let all = differ_both (table_ids (state before).tables) (created_ids b.info.schema) d makes.differ news in
      let now : table_ids (state next).tables ≡ table_ids (state before).tables ++ created_ids b.info.schema =
      ap (λ (s : State). table_ids s.tables) (state_push before empty b)
      ∙ ids_after (state before).tables b.info.schema in
      let again = subst (HasStrand mask) (sym (append_assoc before (b ∷ []) bs)) strand in
      subst (λ xs. all_differ (table_ids (state xs).tables) ≡ true) (append_assoc before (b ∷ []) bs)
      (ids_differ next bs (undamaged_push before [] b u more.0 more.1) more.2 again
      (all_push IsOwn before b whole this) (strand_front next bs again)
      (subst (λ xs. all_differ xs ≡ true) (sym now) all))

  pub tables_differ : (blocks : List Block) → Undamaged blocks → HasStrand mask blocks
      → all_differ (table_ids (state blocks).tables) ≡ true
  tables_differ blocks u strand = ids_differ [] blocks tt u strand tt tt refl
