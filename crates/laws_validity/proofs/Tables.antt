-- Tables and changes of the schema, one after another.
use Rattle.std.proofs.Common.{◌≡◌, ◌∙◌, ◌&&◌, ◌||◌, ◌==◌, ◌+◌, ℕ, Bool, true, false, List, [], ◌∷◌, ◌++◌, map, Option, Some, refl, sym, ap, subst, append_assoc, arith, inl, inr, if◌then◌else◌}
use Rattle.std.specs.List.{AllByRecursion, list_any}
use Rattle.std.specs.Str.{bytes_eq}
use Rattle.std.proofs.lemmas.Bool.{and_from, and_parts, or_cases, or_left, or_right, eq-eqb}
use Rattle.std.proofs.lemmas.List.Folds.{list_any-append}
use Rattle.ql_types.specs.declared.TableId.{TableId}
use Rattle.ledger_model.specs.declared.block.Schema.{Schema}
use Rattle.ledger_model.specs.declared.block.Schema.TheVariants.{Create, Index, Drop, Redact}
use Rattle.ledger_model.specs.State.{Table, Indexed, dropped, changed, all_changed, indexed, all_indexed, active_table}
use Rattle.ledger_model.specs.Run.{created_count}
use Rattle.ledger_model.specs.Whole.{id_fits, schema_fits}
use Rattle.ledger_model.specs.Follows.{is_active, change_follows, schema_follows, created_id, created_ids, has_table}
use Rattle.laws_validity.proofs.Lists.{all_append, all_front, all_rest}

-- ---- one change more

pub all_changed_push : (cs : List Schema) (ts : List Table) (c : Schema)
    → all_changed ts (cs ++ c ∷ []) ≡ changed (all_changed ts cs) c
all_changed_push [] ts c = refl
all_changed_push (d ∷ cs) ts c = all_changed_push cs (changed ts d) c

pub schema_push : (cs : List Schema) (ts : List Table) (is : List Indexed) (c : Schema)
    → schema_follows ts is cs ≡ true
    → change_follows (all_changed ts cs) (all_indexed is cs) c ≡ true → schema_follows ts is (cs ++ c ∷ []) ≡ true
schema_push [] ts is c h k = and_from _ _ k refl
schema_push (d ∷ cs) ts is c h k =
    let both = and_parts (change_follows ts is d) (schema_follows (changed ts d) (indexed is d) cs) h in
    and_from (change_follows ts is d) _ both.0 (schema_push cs (changed ts d) (indexed is d) c both.1 k)

pub created_ids_append : (xs ys : List Schema) → created_ids (xs ++ ys) ≡ created_ids xs ++ created_ids ys
created_ids_append [] ys = refl
created_ids_append (x ∷ xs) ys = ap (λ l. created_id x ++ l) (created_ids_append xs ys)
    ∙ sym (append_assoc (created_id x) (created_ids xs) (created_ids ys))

pub created_count_append : (xs ys : List Schema) → created_count (xs ++ ys) ≡ created_count xs + created_count ys
created_count_append [] ys = omega arith
created_count_append (Create name id ∷ xs) ys = let e = created_count_append xs ys in omega (arith, e)
created_count_append (Index name id ∷ xs) ys = created_count_append xs ys
created_count_append (Drop name id ∷ xs) ys = created_count_append xs ys
created_count_append (Redact address id document ∷ xs) ys = created_count_append xs ys

-- ---- what holds of the ids of tables

module _ (P : ℕ → Type 0) where
  dropped_like : (id : TableId) (ts : List Table) → AllByRecursion (λ t. P t.id.raw) ts
      → AllByRecursion (λ t. P t.id.raw) (map (dropped id) ts)
  dropped_like id [] h = tt
  dropped_like id (t ∷ ts) h = (h.0, dropped_like id ts h.1)

  changed_like : (ts : List Table) (c : Schema) → AllByRecursion (λ t. P t.id.raw) ts
      → AllByRecursion P (created_id c)
      → AllByRecursion (λ t. P t.id.raw) (changed ts c)
  changed_like ts (Create name id) h k = all_append (λ t. P t.id.raw) ts _ h (k.0, tt)
  changed_like ts (Index name id) h k = h
  changed_like ts (Drop name id) h k = dropped_like id ts h
  changed_like ts (Redact address id document) h k = h

  -- holds of those that changes leave, where it holds of those before and of those that they create
  pub all_changed_like : (cs : List Schema) (ts : List Table) → AllByRecursion (λ t. P t.id.raw) ts
      → AllByRecursion P (created_ids cs)
      → AllByRecursion (λ t. P t.id.raw) (all_changed ts cs)
  all_changed_like [] ts h k = h
  all_changed_like (c ∷ cs) ts h k =
      all_changed_like cs (changed ts c) (changed_like ts c h (all_front P (created_id c) (created_ids cs) k))
      (all_rest P (created_id c) (created_ids cs) k)

-- the id of a table fits its type
abbrev pub TableFits : Table → Type 0
TableFits t = id_fits t.id.raw ≡ true

created_fits : (cs : List Schema) → AllByRecursion (λ c. schema_fits c ≡ true) cs
    → AllByRecursion (λ id. id_fits id ≡ true) (created_ids cs)
created_fits [] h = tt
created_fits (Create name id ∷ cs) h = (h.0, created_fits cs h.1)
created_fits (Index name id ∷ cs) h = created_fits cs h.1
created_fits (Drop name id ∷ cs) h = created_fits cs h.1
created_fits (Redact address id document ∷ cs) h = created_fits cs h.1

pub tables_fit : (cs : List Schema) (ts : List Table) → AllByRecursion TableFits ts
    → AllByRecursion (λ c. schema_fits c ≡ true) cs
    → AllByRecursion TableFits (all_changed ts cs)
tables_fit cs ts h k = all_changed_like (λ id. id_fits id ≡ true) cs ts h (created_fits cs k)

-- ---- active tables

active_first : (t : Table) (ts : List Table) (name : List ℕ) (id : TableId)
    → (active_table ts name ≡ Some id → is_active ts id ≡ true)
    → (b : Bool) → (t.active && bytes_eq t.name name) ≡ b → (if b then Some t.id else active_table ts name) ≡ Some id
    → is_active (t ∷ ts) id ≡ true
active_first t ts name id rest true h k =
    let same : t.id ≡ id = cc in
    or_left (t.active && (t.id.raw == id.raw)) _
    (and_from t.active _ (and_parts t.active (bytes_eq t.name name) h).0
    (eq-eqb t.id.raw id.raw (ap (λ x. x.raw) same)))
active_first t ts name id rest false h k = or_right (t.active && (t.id.raw == id.raw)) _ (rest k)

-- the table is active that has an active name
pub active_is : (ts : List Table) (name : List ℕ) (id : TableId) → active_table ts name ≡ Some id
    → is_active ts id ≡ true
active_is [] name id e = cc
active_is (t ∷ ts) name id e =
    active_first t ts name id (λ k. active_is ts name id k) (t.active && bytes_eq t.name name) refl e

fits_first : (t : Table) (o : Option TableId) (id : TableId) → TableFits t → (o ≡ Some id → id_fits id.raw ≡ true)
    → (b : Bool) → (if b then Some t.id else o) ≡ Some id → id_fits id.raw ≡ true
fits_first t o id h rest true k = let same : t.id ≡ id = cc in subst (λ (x : TableId). id_fits x.raw ≡ true) same h
fits_first t o id h rest false k = rest k

pub active_fits : (ts : List Table) (name : List ℕ) (id : TableId) → AllByRecursion TableFits ts
    → active_table ts name ≡ Some id → id_fits id.raw ≡ true
active_fits [] name id h e = cc
active_fits (t ∷ ts) name id h e =
    fits_first t (active_table ts name) id h.0 (λ k. active_fits ts name id h.1 k)
    (t.active && bytes_eq t.name name) e

still : (active drops : Bool) (id other : ℕ) → ((if drops then false else active) && (id == other)) ≡ true
    → (active && (id == other)) ≡ true
still active true id other h = cc
still active false id other h = h

undropped : (ts : List Table) (id t : TableId) → is_active (map (dropped id) ts) t ≡ true → is_active ts t ≡ true
undropped [] id t h = h
undropped (x ∷ xs) id t h =
    elim (or_cases ((if x.id.raw == id.raw then false else x.active) && (x.id.raw == t.raw))
    (is_active (map (dropped id) xs) t) h) [
      | inl here ↦ or_left (x.active && (x.id.raw == t.raw)) (is_active xs t)
          (still x.active (x.id.raw == id.raw) x.id.raw t.raw here)
      | inr rest ↦ or_right (x.active && (x.id.raw == t.raw)) (is_active xs t) (undropped xs id t rest)
    ]

-- a table that a change leaves active was active or is created by it
active_before : (ts : List Table) (c : Schema) (t : TableId) → is_active (changed ts c) t ≡ true
    → (is_active ts t || list_any (λ id. id == t.raw) (created_id c)) ≡ true
active_before ts (Create name id) t h =
    sym (list_any-append (λ x. x.active && (x.id.raw == t.raw)) ts
    (record { name = name; id = id; active = true } ∷ [])) ∙ h
active_before ts (Index name id) t h = or_left (is_active ts t) false h
active_before ts (Drop name id) t h = or_left (is_active ts t) false (undropped ts id t h)
active_before ts (Redact address id document) t h = or_left (is_active ts t) false h

pub active_has : (cs : List Schema) (ts : List Table) (t : TableId) → is_active (all_changed ts cs) t ≡ true
    → has_table ts (created_ids cs) t ≡ true
active_has [] ts t h = or_left (is_active ts t) false h
active_has (c ∷ cs) ts t h =
    let among : List ℕ → Bool = list_any (λ id. id == t.raw) in
    let joined : among (created_ids (c ∷ cs)) ≡ (among (created_id c) || among (created_ids cs)) =
    list_any-append (λ id. id == t.raw) (created_id c) (created_ids cs) in
    elim (or_cases (is_active (changed ts c) t) (among (created_ids cs)) (active_has cs (changed ts c) t h)) [
      | inl before ↦
          elim (or_cases (is_active ts t) (among (created_id c)) (active_before ts c t before)) [
            | inl there ↦ or_left (is_active ts t) _ there
            | inr here ↦ or_right (is_active ts t) _
                (joined ∙ or_left (among (created_id c)) (among (created_ids cs)) here)
          ]
      | inr rest ↦ or_right (is_active ts t) _
          (joined ∙ or_right (among (created_id c)) (among (created_ids cs)) rest)
    ]

pub has_table_more : (ts : List Table) (ids more : List ℕ) (t : TableId) → has_table ts ids t ≡ true
    → has_table ts (ids ++ more) t ≡ true
has_table_more ts ids more t h =
    let among : List ℕ → Bool = list_any (λ id. id == t.raw) in
    elim (or_cases (is_active ts t) (among ids) h) [
      | inl there ↦ or_left (is_active ts t) _ there
      | inr here ↦ or_right (is_active ts t) _
          (list_any-append (λ id. id == t.raw) ids more ∙ or_left (among ids) (among more) here)
    ]
