-- Postings of indexes.
use Rattle.std.proofs.Common.{◌≡◌, ℕ, zero, suc, ◌+◌, ◌<◌, ◌≤◌, ◌==◌, ◌&&◌, Bool, true, false, List, [], ◌∷◌, ◌++◌, length, take, drop, map, Option, Some, None, refl, sym, ◌∙◌, ap, ap₂, subst, arith, is_eq}
use Rattle.std.specs.Prelude.{◌||◌, slice_get, if◌then◌else◌}
use Rattle.std.specs.List.{cons_option, filter, filter_map}
use Rattle.std.specs.Str.{bytes_eq}
use Rattle.std.proofs.lemmas.Bool.{and_parts, eqb-true}
use Rattle.std.proofs.lemmas.List.{append-nil, append_assoc, drop_all, length-take-le, take_all}
use Rattle.std.proofs.lemmas.Slice.Eq.{bytes_eq-Decides}
use Rattle.ql_types.specs.declared.DocId.{DocId}
use Rattle.ql_types.specs.declared.TableId.{TableId}
use Rattle.ion_values.specs.declared.value.Key.{Key}
use Rattle.ion_values.specs.Keys.{compare_keys, is_same_key}
use Rattle.ion_values.specs.KeyOrder.{equal_keys_are_one, same_key_equiv, ties_are_same}
use Rattle.pql_model.specs.declared.tables.Row.{Row}
use Rattle.pql_model.specs.declared.tables.Probe.TheVariants as probe
use Rattle.pql_model.specs.Steps.{field_of}
use Rattle.pql_model.specs.Tables.{has_key, key_in, meeting}
use Rattle.ledger_model.specs.declared.block.Draft.{Draft}
use Rattle.ledger_model.specs.Follows.{has_index}
use Rattle.ledger_model.specs.State.{draft_of}
use Rattle.ledger_model.specs.declared.block.Content.{Content}
use Rattle.ledger_model.specs.declared.block.Content.TheVariants.{Deleted, Kept, Redacted}
use Rattle.ledger_model.specs.Views.{live, row_of}
use Rattle.index_post.specs.Positions.{positions_of, IsChanged}
use Rattle.versions.specs.declared.recorded.Recorded.{Recorded}
use Rattle.versions.specs.declared.tables.Indexed.{Indexed}
use Rattle.versions.specs.Held.{indexed_of, recorded_of}
use Rattle.versions.specs.Filing.{AreFiled, IsSpot, is_filed, old_key}
use Rattle.versions.specs.Indexes.{AreIndexes, IsIndex, documents_with, is_same_or_none, key_on, key_shown, tree_on}
use Rattle.versions.specs.Newest.{id_of, newest, put}
use Rattle.versions.proofs.Filing.{filed_more, members_at}
use Rattle.versions.proofs.Members.{doc_of, found, ids_in, ids_shown}
use Rattle.versions.proofs.Newest.{newest-latest}
use Rattle.versions.proofs.Along.{take_next}
use Rattle.versions.proofs.Spots.{filed_kept, filed_put}

abbrev pub Tree : Type 0
Tree = List (Key × List ℕ)

drop_next : {X : Type 0} (xs : List X) (at : ℕ) (x : X) → slice_get xs at ≡ Some x → drop at xs ≡ x ∷ drop (at + 1) xs
drop_next [] at x e = cc
drop_next (y ∷ xs) zero x e = let s : y ≡ x = cc in ap (λ z. z ∷ xs) s
drop_next (y ∷ xs) (suc at) x e = let s : suc at + 1 ≡ suc (at + 1) = omega arith in rw s (drop_next xs at x e)

drop_end : {X : Type 0} (xs : List X) (at : ℕ) → slice_get xs at ≡ None → drop at xs ≡ []
drop_end [] zero e = refl
drop_end [] (suc at) e = refl
drop_end (y ∷ xs) zero e = cc
drop_end (y ∷ xs) (suc at) e = drop_end xs at e

-- ---- all indexes

-- one index more
pub trees_more : (ds : List Recorded) (is : List Indexed) (ps : List Tree) (i : Indexed) (p : Tree) → AreIndexes ds is ps → IsIndex ds i p
    → AreIndexes ds (is ++ i ∷ []) (ps ++ p ∷ [])
trees_more ds [] [] i p are is = (is, refl)
trees_more ds [] (q ∷ qs) i p are is = cc
trees_more ds (j ∷ js) [] i p are is = absurd are
trees_more ds (j ∷ js) (q ∷ qs) i p are is = (are.0, trees_more ds js qs i p are.1 is)

-- the new postings so far, and those of the indexes that are left, are those of all
abbrev pub AreSoFar : List Recorded → List Indexed → List Indexed → List Tree → Type 0
AreSoFar ds all left new = (rest : List Tree) → AreIndexes ds left rest → AreIndexes ds all (new ++ rest)

-- at the next place
pub left_there : (ds : List Recorded) (is : List Indexed) (ps : List Tree) (at : ℕ) (i : Indexed) (p : Tree) → drop at is ≡ i ∷ drop (at + 1) is
    → slice_get ps at ≡ Some p → AreIndexes ds (drop at is) (drop at ps) → IsIndex ds i p × AreIndexes ds (drop (at + 1) is) (drop (at + 1) ps)
left_there ds is ps at i p e f are =
    subst (λ (qs : List Tree). AreIndexes ds (i ∷ drop (at + 1) is) qs) (drop_next ps at p f)
    (subst (λ (js : List Indexed). AreIndexes ds js (drop at ps)) e are)

pub left_not_there : (ds : List Recorded) (is : List Indexed) (ps : List Tree) (at : ℕ) (i : Indexed) → drop at is ≡ i ∷ drop (at + 1) is
    → slice_get ps at ≡ None → AreIndexes ds (drop at is) (drop at ps) → ⊥
left_not_there ds is ps at i e f are =
    subst (λ (qs : List Tree). AreIndexes ds (i ∷ drop (at + 1) is) qs) (drop_end ps at f)
    (subst (λ (js : List Indexed). AreIndexes ds js (drop at ps)) e are)

pub so_far_next : (ds : List Recorded) (all : List Indexed) (at : ℕ) (new more : List Tree) (i : Indexed) (p : Tree) → drop at all ≡ i ∷ drop (at + 1) all
    → IsIndex ds i p → more ≡ new ++ p ∷ [] → AreSoFar ds all (drop at all) new → AreSoFar ds all (drop (at + 1) all) more
so_far_next ds all at new more i p e is next so_far = λ rest are.
    subst (AreIndexes ds all) (sym (append_assoc new (p ∷ []) rest) ∙ ap (λ (ps : List Tree). ps ++ rest) (sym next))
    (so_far (p ∷ rest) (subst (λ (js : List Indexed). AreIndexes ds js (p ∷ rest)) (sym e) (is, are)))

pub so_far_all : (ds : List Recorded) (all : List Indexed) (at : ℕ) (new : List Tree) → length all ≤ at → AreSoFar ds all (drop at all) new → AreIndexes ds all new
so_far_all ds all at new past so_far =
    subst (AreIndexes ds all) (append-nil new) (so_far [] (subst (λ (is : List Indexed). AreIndexes ds is []) (sym (drop_all at all past)) refl))

-- ---- one index

-- none or the same key is one
pub same_or_none : (a b : Option Key) → is_same_or_none a b ≡ true → a ≡ b
same_or_none None None h = refl
same_or_none None (Some b) h = cc
same_or_none (Some a) None h = cc
same_or_none (Some a) (Some b) h = ap (λ (key : Key). Some key) ((equal_keys_are_one a b).0 h)

pub index_start : (ds : List Recorded) (i : Indexed) (p : Tree) → p ≡ [] → IsIndex (take 0 ds) i p
index_start ds i p none = subst (IsIndex (take 0 ds) i) (sym none) (λ key. refl)

-- one document more is passed
pub index_next : (ds : List Recorded) (i : Indexed) (p q : Tree) (at : ℕ) (d : Recorded) (key shown : Option Key) → slice_get ds at ≡ Some d → at < length ds
    → key ≡ key_on i.table i.field d → shown ≡ key → IsChanged at None shown p q → IsIndex (take at ds) i p → IsIndex (take (at + 1) ds) i q
index_next ds i p q at d key shown there within key_is same change is =
    let count : at ≡ length (take at ds) = sym (length-take-le at ds (omega (arith, within))) in
    subst (λ (xs : List Recorded). IsIndex xs i q) (sym (take_next ds at d there))
    (filed_more compare_keys (key_on i.table i.field) p q (take at ds) at d count (subst (λ (o : Option Key). IsChanged at None o p q) (same ∙ key_is) change) is)

pub index_all : (ds : List Recorded) (i : Indexed) (p : Tree) (at : ℕ) → length ds ≤ at → IsIndex (take at ds) i p → IsIndex ds i p
index_all ds i p at past is = subst (λ (xs : List Recorded). IsIndex xs i p) (take_all at ds past) is

module _ (ds : List Recorded) (i : Indexed) (p : Tree) (r : Recorded) (at : ℕ) (old : Option Recorded) (before now : Option Key) (before_is : before ≡ old_key (key_on i.table i.field) old) (now_is : now ≡ key_on i.table i.field r) (spot : IsSpot ds (id_of r) at old) (is : IsIndex ds i p) where
  -- the key stays
  pub index_kept : (q : Tree) → q ≡ p → before ≡ now → IsIndex (put ds r) i q
  index_kept q e same =
      subst (IsIndex (put ds r) i) (sym e) (filed_kept compare_keys (key_on i.table i.field) ds r at old spot p (sym before_is ∙ same ∙ now_is) is)

  -- the old key is taken, and the new one is put
  pub index_moved : (q : Tree) (shown_old shown_new : Option Key) → shown_old ≡ before → shown_new ≡ now → IsChanged at shown_old shown_new p q → IsIndex (put ds r) i q
  index_moved q shown_old shown_new old_is new_is change =
      filed_put compare_keys (key_on i.table i.field) ds r at old spot p q
      (subst (λ (o : Option Key). IsChanged at o (key_on i.table i.field r) p q) (old_is ∙ before_is)
      (subst (λ (o : Option Key). IsChanged at shown_old o p q) (new_is ∙ now_is) change)) is

-- ---- the index on a field

abbrev OnField : List Recorded → TableId → List ℕ → Option Tree → Type 0
OnField ds table field None = ⊥
OnField ds table field (Some p) = AreFiled compare_keys (key_on table field) p ds

one_table : (a b : TableId) → a.raw ≡ b.raw → a ≡ b
one_table a b e = let make : ℕ → TableId = λ n. record { raw = n } in ap make e

found_by : (b : Bool) (ds : List Recorded) (i : Indexed) (is : List Indexed) (p : Tree) (ps : List Tree) (table : TableId) (field : List ℕ)
    → ((i.table.raw == table.raw) && bytes_eq i.field field) ≡ b → IsIndex ds i p
    → (has_index (map indexed_of is) table field ≡ true → OnField ds table field (tree_on is ps table field))
    → (b || has_index (map indexed_of is) table field) ≡ true
    → OnField ds table field (if b then Some p else tree_on is ps table field)
found_by true ds i is p ps table field same index ih has =
    let both = and_parts (i.table.raw == table.raw) (bytes_eq i.field field) same in
    let tables : i.table ≡ table = one_table i.table table (eqb-true i.table.raw table.raw both.0) in
    let fields : i.field ≡ field = (bytes_eq-Decides i.field field).0 both.1 in
    subst (λ (t : TableId). AreFiled compare_keys (key_on t field) p ds) tables
    (subst (λ (f : List ℕ). AreFiled compare_keys (key_on i.table f) p ds) fields index)
found_by false ds i is p ps table field same index ih has = ih has

on_field : (ds : List Recorded) (is : List Indexed) (ps : List Tree) (table : TableId) (field : List ℕ) → AreIndexes ds is ps
    → has_index (map indexed_of is) table field ≡ true → OnField ds table field (tree_on is ps table field)
on_field ds [] ps table field are has = cc
on_field ds (i ∷ is) [] table field are has = absurd are
on_field ds (i ∷ is) (p ∷ ps) table field are has =
    found_by ((i.table.raw == table.raw) && bytes_eq i.field field) ds i is p ps table field refl are.0 (on_field ds is ps table field are.1) has

pub index_there : (ds : List Recorded) (is : List Indexed) (ps : List Tree) (table : TableId) (field : List ℕ) → AreIndexes ds is ps
    → has_index (map indexed_of is) table field ≡ true → None ≡ tree_on is ps table field → ⊥
index_there ds is ps table field are has none = subst (OnField ds table field) (sym none) (on_field ds is ps table field are has)

pub index_is : (ds : List Recorded) (is : List Indexed) (ps : List Tree) (table : TableId) (field : List ℕ) (p : Tree) → AreIndexes ds is ps
    → has_index (map indexed_of is) table field ≡ true → Some p ≡ tree_on is ps table field → AreFiled compare_keys (key_on table field) p ds
index_is ds is ps table field p are has some = subst (OnField ds table field) (sym some) (on_field ds is ps table field are has)

-- ---- the documents with a key

pub same_test : (key own : Key) → is_eq (compare_keys key own) ≡ is_same_key own key
same_test key own = sym (ties_are_same key own) ∙ same_key_equiv.symm key own

with_step : (b : Bool) (d : Recorded) (row : Row) (ds : List Recorded) (rows : List Row) → row.id ≡ doc_of d → ids_in ds ≡ ids_shown rows
    → ids_in (if b then d ∷ ds else ds) ≡ ids_shown (if b then row ∷ rows else rows)
with_step true d row ds rows same ih = ap₂ (λ (id : DocId) (ids : List DocId). id ∷ ids) (sym same) ih
with_step false d row ds rows same ih = ih

by_key : (own : Option Key) (key : Key) (d : Recorded) (row : Row) (ds : List Recorded) (rows : List Row) → row.id ≡ doc_of d → ids_in ds ≡ ids_shown rows
    → ids_in (if is_filed compare_keys key own then d ∷ ds else ds) ≡ ids_shown (if has_key key own then row ∷ rows else rows)
by_key None key d row ds rows same ih = ih
by_key (Some own) key d row ds rows same ih =
    ap (λ (b : Bool). ids_in (if b then d ∷ ds else ds)) (same_test key own) ∙ with_step (is_same_key own key) d row ds rows same ih

by_row : (shown : Option Row) (field : List ℕ) (key : Key) (d : Recorded) (ds : List Recorded) (rows : List Row)
    → ((row : Row) → shown ≡ Some row → row.id ≡ doc_of d)
    → ids_in ds ≡ ids_shown (meeting (probe.Key field key) rows)
    → ids_in (if is_filed compare_keys key (key_shown field shown) then d ∷ ds else ds)
    ≡ ids_shown (meeting (probe.Key field key) (cons_option shown rows))
by_row None field key d ds rows same ih = ih
by_row (Some row) field key d ds rows same ih =
    by_key (key_in (field_of field row.value)) key d row ds (meeting (probe.Key field key) rows) (same row refl) ih

shown_by : (b : Bool) (d : Draft) (content : Content) (row : Row) → (if b then live d.id content else None) ≡ Some row → row.id ≡ d.id
shown_by false d content row e = cc
shown_by true d (Kept v) row e = cc
shown_by true d Deleted row e = cc
shown_by true d (Redacted hash) row e = cc

shown_id : (table : TableId) (d : Recorded) (row : Row) → row_of table (draft_of (recorded_of d)) ≡ Some row → row.id ≡ doc_of d
shown_id table d row e = shown_by (d.table.raw == table.raw) (draft_of (recorded_of d)) d.revision.content row e

with_among : (table : TableId) (field : List ℕ) (key : Key) (ds : List Recorded)
    → ids_in (filter (λ d. is_filed compare_keys key (key_on table field d)) ds)
    ≡ ids_shown (meeting (probe.Key field key) (filter_map (row_of table) (map draft_of (map recorded_of ds))))
with_among table field key [] = refl
with_among table field key (d ∷ ds) =
    by_row (row_of table (draft_of (recorded_of d))) field key d (filter (λ e. is_filed compare_keys key (key_on table field e)) ds)
    (filter_map (row_of table) (map draft_of (map recorded_of ds))) (shown_id table d) (with_among table field key ds)

pub documents_are : (latest rs : List Recorded) (tree : Tree) (places : List ℕ) (table : TableId) (field : List ℕ) (key : Key) (ids : List DocId)
    → latest ≡ newest rs → AreFiled compare_keys (key_on table field) tree latest → places ≡ positions_of tree key
    → ids ≡ ids_in (filter_map (λ at. slice_get latest at) places) → ids ≡ documents_with (map recorded_of rs) table field key
documents_are latest rs tree places table field key ids newest_is were places_are is =
    let test : Recorded → Bool = λ d. is_filed compare_keys key (key_on table field d) in
    is
    ∙ ap (λ (at : List ℕ). ids_in (found latest at)) (places_are ∙ were key)
    ∙ ap ids_in (members_at test latest)
    ∙ with_among table field key latest
    ∙ ap (λ (ds : List Recorded). ids_shown (meeting (probe.Key field key) (filter_map (row_of table) (map draft_of (map recorded_of ds))))) newest_is
    ∙ ap (λ (drafts : List Draft). ids_shown (meeting (probe.Key field key) (filter_map (row_of table) drafts))) (newest-latest rs)
