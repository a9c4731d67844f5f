-- The documents that a statement changes or deletes are some that its rows name.
use Rattle.std.proofs.Common.{◌≡◌, ◌∙◌, ℕ, zero, suc, ◌+◌, Bool, true, false, cond, ◌==◌, List, [], ◌∷◌, ◌++◌, map, refl, sym, ap, subst, arith, Option, Some, None, option_map}
use Rattle.std.specs.Prelude.{option_and_then}
use Rattle.std.specs.List.{AllByRecursion, list_any}
use Rattle.std.proofs.lemmas.Bool.{eq-eqb, or_left, or_right}
use Rattle.std.specs.Option.{option_map_or}
use Rattle.ion_values.specs.declared.value.Value.{Value}
use Rattle.ql_types.specs.declared.DocId.{DocId}
use Rattle.pql_model.specs.declared.scope.Bound.{Bound}
use Rattle.pql_model.specs.declared.expr.Path.{Path}
use Rattle.pql_model.specs.declared.statement.Change.{Change}
use Rattle.pql_model.specs.declared.statement.Change.TheVariants as change
use Rattle.pql_model.specs.declared.statement.Setting.{Setting}
use Rattle.pql_model.specs.declared.statement.Source.{Source}
use Rattle.pql_model.specs.declared.tables.Row.{Row}
use Rattle.pql_model.specs.Changes.{Alteration, alterations, setting}
use Rattle.pql_model.specs.Effects.{changed_documents, deleted_documents, deleted_from, document_at, document_of, is_named, root_of, touch, touched_by, touched_from, touched_in, with_id}
use Rattle.pql_model.specs.From.{Combined}
use Rattle.pql_model.specs.Meaning.{Context, under}
use Rattle.pql_model.specs.Names.{called, called_in_row, root_at}
use Rattle.ledger_model.specs.Writing.{is_at, is_root, root_place, targets}
use Rattle.laws_footprint.proofs.Naming.{OfDoc, OfPlaces, OfRows}
use Rattle.laws_footprint.proofs.Rows.{all_joined}

module _ (P : DocId → Type 0) where
  abbrev pub OfOption : Option Row → Type 0
  OfOption None = Unit {0}
  OfOption (Some d) = P d.id

  -- ---- the document at a place of a row

  in_option : (o : Option DocId) (v : Value) → OfDoc P o
      → OfOption (option_map (λ id. record { id = id; value = v }) o)
  in_option None v h = tt
  in_option (Some id) v h = h

  at_place : (c : List Bound) (n : ℕ) → AllByRecursion (λ (b : Bound). OfDoc P b.id) c → OfOption (document_at c n)
  at_place [] n h = tt
  at_place (b ∷ bs) zero h = in_option b.id b.value h.0
  at_place (b ∷ bs) (suc n) h = at_place bs n h.1

  at_root : (c : List Bound) (o : Option ℕ) → AllByRecursion (λ (b : Bound). OfDoc P b.id) c
      → OfOption (option_and_then (document_at c) o)
  at_root c None h = tt
  at_root c (Some n) h = at_place c n h

  -- ---- changes

  abbrev pub OfAll : List Row → Type 0
  OfAll ds = AllByRecursion (λ (d : Row). P d.id) ds

  touch_by : (f : Value → Value) (d t : Row) (ts more : List Row) (b : Bool) → OfAll (t ∷ ts) → OfAll more
      → OfAll (cond b (record { id = t.id; value = f t.value } ∷ ts) (t ∷ more))
  touch_by f d t ts more true h k = (h.0, h.1)
  touch_by f d t ts more false h k = (h.0, k)

  touch_named : (f : Value → Value) (d : Row) (ts : List Row) → P d.id → OfAll ts → OfAll (touch f d ts)
  touch_named f d [] h all = (h, tt)
  touch_named f d (t ∷ ts) h all =
      touch_by f d t ts (touch f d ts) (d.id.raw == t.id.raw) all (touch_named f d ts h all.1)

  touched_named : (f : Value → Value) (o : Option Row) (ts : List Row) → OfOption o → OfAll ts
      → OfAll (option_map_or (λ d. touch f d ts) o ts)
  touched_named f None ts h all = all
  touched_named f (Some d) ts h all = touch_named f d ts h all

  -- the document of each change's path
  abbrev pub OfChanges : Combined → List Alteration → Type 0
  OfChanges c changes = AllByRecursion (λ (a : Alteration). OfOption (document_of c a.target)) changes

  abbrev pub RowChanges : List Value → Change → Combined → Type 0
  RowChanges params change c = OfChanges c (alterations (under c params) change)

  in_row : (c : Combined) (ts : List Row) (changes : List Alteration) → OfChanges c changes → OfAll ts
      → OfAll (touched_in c ts changes)
  in_row c ts [] h all = all
  in_row c ts (a ∷ more) h all =
      in_row c (touched_by c ts a) more h.1 (touched_named a.made (document_of c a.target) ts h.0 all)

  in_rows : (params : List Value) (change : Change) (ts : List Row) (rows : List Combined)
      → AllByRecursion (RowChanges params change) rows → OfAll ts → OfAll (touched_from params change ts rows)
  in_rows params change ts [] h all = all
  in_rows params change ts (c ∷ rows) h all =
      in_rows params change (touched_in c ts (alterations (under c params) change)) rows h.1
      (in_row c ts (alterations (under c params) change) h.0 all)

  pub changed_by_rows : (params : List Value) (change : Change) (rows : List Combined)
      → AllByRecursion (RowChanges params change) rows → OfAll (changed_documents params change rows)
  changed_by_rows params change rows h = in_rows params change [] rows h tt

  any_change : (c : Combined) (changes : List Alteration) → AllByRecursion (λ (b : Bound). OfDoc P b.id) c
      → OfChanges c changes
  any_change c [] h = tt
  any_change c (a ∷ more) h = (at_root c (root_of c a.target) h, any_change c more h)

  all_changes : (params : List Value) (change : Change) (rows : List Combined) → OfRows P rows
      → AllByRecursion (RowChanges params change) rows
  all_changes params change [] h = tt
  all_changes params change (c ∷ rows) h =
      (any_change c (alterations (under c params) change) h.0, all_changes params change rows h.1)

  pub changed_named : (params : List Value) (change : Change) (rows : List Combined) → OfRows P rows
      → OfAll (changed_documents params change rows)
  changed_named params change rows h = changed_by_rows params change rows (all_changes params change rows h)

  -- ---- deletes

  with_by : (ids : List DocId) (id : DocId) (b : Bool) → P id → AllByRecursion P ids
      → AllByRecursion P (cond b ids (ids ++ id ∷ []))
  with_by ids id true h all = all
  with_by ids id false h all = all_joined P ids (id ∷ []) all (h, tt)

  with_named : (ids : List DocId) (o : Option Row) → OfOption o → AllByRecursion P ids
      → AllByRecursion P (option_map_or (λ (d : Row). with_id ids d.id) o ids)
  with_named ids None h all = all
  with_named ids (Some d) h all = with_by ids d.id (is_named d.id ids) h all

  all_deleted : (ids : List DocId) (rows : List Combined) → OfRows P rows → AllByRecursion P ids
      → AllByRecursion P (deleted_from ids rows)
  all_deleted ids [] h all = all
  all_deleted ids (c ∷ rows) h all =
      all_deleted (option_map_or (λ (d : Row). with_id ids d.id) (document_at c 0) ids) rows h.1
      (with_named ids (document_at c 0) (at_place c 0 h.0) all)

  pub deleted_named : (rows : List Combined) → OfRows P rows → AllByRecursion P (deleted_documents rows)
  deleted_named rows h = all_deleted [] rows h tt

-- ---- only of the places at which the paths of a change begin

later_in : (test : Path → Bool) (p : Path) (ps qs : List Path)
    → AllByRecursion (λ q. test q ≡ true → list_any test ps ≡ true) qs
    → AllByRecursion (λ q. test q ≡ true → list_any test (p ∷ ps) ≡ true) qs
later_in test p ps [] h = tt
later_in test p ps (q ∷ qs) h = (λ e. or_right (test p) (list_any test ps) (h.0 e), later_in test p ps qs h.1)

any_in : (test : Path → Bool) (ps : List Path) → AllByRecursion (λ p. test p ≡ true → list_any test ps ≡ true) ps
any_in test [] = tt
any_in test (p ∷ ps) = (λ h. or_left (test p) (list_any test ps) h, later_in test p ps ps (any_in test ps))

-- the source at its place is one that the change begins at
abbrev IsRootOf : List Source → Change → Path → Type 0
IsRootOf sources change target = (n : ℕ) → root_place sources target ≡ Some n → is_root sources change n ≡ true

module _ (P : ℕ → DocId → Type 0) (Q : DocId → Type 0) (sources : List Source) (change : Change)
    (each : (n : ℕ) → is_root sources change n ≡ true → (id : DocId) → P n id → Q id) where
  abbrev OfPlace : ℕ → Option Row → Type 0
  OfPlace n None = Unit {0}
  OfPlace n (Some d) = P n d.id

  place_in : (n : ℕ) (o : Option DocId) (v : Value) → OfDoc (P n) o
      → OfPlace n (option_map (λ id. record { id = id; value = v }) o)
  place_in n None v h = tt
  place_in n (Some id) v h = h

  placed : (c : List Bound) (k n : ℕ) → OfPlaces P k c → OfPlace (k + n) (document_at c n)
  placed [] k n h = tt
  placed (b ∷ bs) k zero h =
      let here : k ≡ k + 0 = omega arith in
      subst (λ i. OfPlace i (document_at (b ∷ bs) 0)) here (place_in k b.id b.value h.0)
  placed (b ∷ bs) k (suc n) h =
      let there : k + 1 + n ≡ k + suc n = omega arith in
      subst (λ i. OfPlace i (document_at bs n)) there (placed bs (k + 1) n h.1)

  by_place : (n : ℕ) (o : Option Row) → is_root sources change n ≡ true → OfPlace n o → OfOption Q o
  by_place n None w h = tt
  by_place n (Some d) w h = each n w d.id h

  by_root : (c : Combined) (o : Option ℕ) → ((n : ℕ) → o ≡ Some n → is_root sources change n ≡ true) → OfPlaces P 0 c
      → OfOption Q (option_and_then (document_at c) o)
  by_root c None root h = tt
  by_root c (Some n) root h =
      let same : 0 + n ≡ n = omega arith in
      by_place n (document_at c n) (root n refl) (subst (λ i. OfPlace i (document_at c n)) same (placed c 0 n h))

  by_changes : (c : Combined) (changes : List Alteration) → map called_in_row c ≡ map called sources
      → AllByRecursion (λ (a : Alteration). IsRootOf sources change a.target) changes → OfPlaces P 0 c
      → OfChanges Q c changes
  by_changes c [] same roots h = tt
  by_changes c (a ∷ more) same roots h =
      let root : root_of c a.target ≡ root_place sources a.target =
      ap (root_at a.target.first) same in (
        by_root c (root_of c a.target) (λ n e. roots.0 n (sym root ∙ e)) h,
        by_changes c more same roots.1 h,
      )

-- each path of a change is one of its roots' paths
at_its_place : (n : ℕ) (o : Option ℕ) → o ≡ Some n → is_at n o ≡ true
at_its_place n o e = ap (is_at n) e ∙ eq-eqb n n refl

each_root : (sources : List Source) (change : Change) (ps : List Path)
    → ((n : ℕ) → AllByRecursion (λ q. is_at n (root_place sources q) ≡ true → is_root sources change n ≡ true) ps)
    → AllByRecursion (IsRootOf sources change) ps
each_root sources change [] h = tt
each_root sources change (p ∷ ps) h =
    (λ n e. (h n).0 (at_its_place n (root_place sources p) e), each_root sources change ps (λ n. (h n).1))

all_roots : (sources : List Source) (change : Change) → AllByRecursion (IsRootOf sources change) (targets change)
all_roots sources change =
    each_root sources change (targets change) (λ n. any_in (λ p. is_at n (root_place sources p)) (targets change))

of_settings : (P : Path → Type 0) (c : Context) (settings : List Setting)
    → AllByRecursion P (map (λ (s : Setting). s.target) settings)
    → AllByRecursion (λ (a : Alteration). P a.target) (map (setting c) settings)
of_settings P c [] h = tt
of_settings P c (s ∷ ss) h = (h.0, of_settings P c ss h.1)

of_targets : (P : Path → Type 0) (c : Context) (change : Change) → AllByRecursion P (targets change)
    → AllByRecursion (λ (a : Alteration). P a.target) (alterations c change)
of_targets P c (change.Set settings) h = of_settings P c settings h
of_targets P c (change.Insert target value at) h = h
of_targets P c (change.Remove target) h = h

pub changed_at : (P : ℕ → DocId → Type 0) (Q : DocId → Type 0) (sources : List Source) (c : Change)
    (params : List Value) (rows : List Combined)
    → ((n : ℕ) → is_root sources c n ≡ true → (id : DocId) → P n id → Q id)
    → AllByRecursion (λ row. (map called_in_row row ≡ map called sources) × OfPlaces P 0 row) rows
    → OfAll Q (changed_documents params c rows)
changed_at P Q sources c params rows each h = changed_by_rows Q params c rows (all_at_roots rows h) where
  all_at_roots : (xs : List Combined)
      → AllByRecursion (λ row. (map called_in_row row ≡ map called sources) × OfPlaces P 0 row) xs
      → AllByRecursion (RowChanges Q params c) xs
  all_at_roots [] k = tt
  all_at_roots (x ∷ xs) k = (
    by_changes P Q sources c each x (alterations (under x params) c) k.0.0
        (of_targets (IsRootOf sources c) (under x params) c (all_roots sources c)) k.0.1,
    all_at_roots xs k.1,
  )

-- ---- a delete's documents are of the first source

first_doc : (P : ℕ → DocId → Type 0) (Q : DocId → Type 0) (o : Option DocId) (v : Value)
    → ((id : DocId) → P 0 id → Q id)
    → OfDoc (P 0) o → OfOption Q (option_map (λ id. record { id = id; value = v }) o)
first_doc P Q None v each h = tt
first_doc P Q (Some id) v each h = each id h

first_at : (P : ℕ → DocId → Type 0) (Q : DocId → Type 0) (c : List Bound) → ((id : DocId) → P 0 id → Q id)
    → OfPlaces P 0 c → OfOption Q (document_at c 0)
first_at P Q [] each h = tt
first_at P Q (b ∷ bs) each h = first_doc P Q b.id b.value each h.0

deleted_by : (P : ℕ → DocId → Type 0) (Q : DocId → Type 0) (ids : List DocId) (rows : List Combined)
    → ((id : DocId) → P 0 id → Q id) → AllByRecursion (OfPlaces P 0) rows → AllByRecursion Q ids
    → AllByRecursion Q (deleted_from ids rows)
deleted_by P Q ids [] each h all = all
deleted_by P Q ids (c ∷ rows) each h all =
    deleted_by P Q (option_map_or (λ (d : Row). with_id ids d.id) (document_at c 0) ids) rows each h.1
    (with_named Q ids (document_at c 0) (first_at P Q c each h.0) all)

only_places : (P : ℕ → DocId → Type 0) (sources : List Source) (rows : List Combined)
    → AllByRecursion (λ row. (map called_in_row row ≡ map called sources) × OfPlaces P 0 row) rows
    → AllByRecursion (OfPlaces P 0) rows
only_places P sources [] h = tt
only_places P sources (c ∷ rows) h = (h.0.1, only_places P sources rows h.1)

pub deleted_at : (P : ℕ → DocId → Type 0) (Q : DocId → Type 0) (sources : List Source) (rows : List Combined)
    → ((id : DocId) → P 0 id → Q id)
    → AllByRecursion (λ row. (map called_in_row row ≡ map called sources) × OfPlaces P 0 row) rows
    → AllByRecursion Q (deleted_documents rows)
deleted_at P Q sources rows each h = deleted_by P Q [] rows each (only_places P sources rows h) tt
