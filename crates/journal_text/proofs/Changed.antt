-- Tables and fields with an index after a change of the schema.
use Rattle.std.proofs.Common.{◌≡◌, ◌∙◌, ℕ, Bool, true, false, ◌&&◌, ◌||◌, not, ◌==◌, cond, List, [], ◌∷◌, ◌++◌, map, Option, Some, None, is_none, if◌then◌else◌, append_assoc, refl, sym, ap, subst, ⊎_elim}
use Rattle.std.specs.List.{list_any}
use Rattle.std.specs.Str.{bytes_eq}
use Rattle.std.proofs.lemmas.List.Folds.{list_any-append}
use Rattle.std.proofs.lemmas.Slice.Eq.{bytes_eq-Decides}
use Rattle.std.proofs.lemmas.Bool.{and_from, and_parts, and_right, both_ways, cases_Bool, cond-false, cond-true, eq-eqb, eqb-false, eqb-true, false_from_ne_true, ne_eqb, not-true, or_from, or_left, or_parts, or_right}
use Rattle.ql_types.specs.declared.TableId.{TableId}
use Rattle.ledger_model.specs.declared.block.Schema.{Schema}
use Rattle.ledger_model.specs.declared.block.Schema.TheVariants.{Create, Index, Drop, Redact}
use Rattle.ledger_model.specs.Script.{or_else}
use Rattle.ledger_model.specs.State.{Table, Indexed, active_table, changed, dropped, indexed}
use Rattle.ledger_model.specs.Follows.{all_differ, created_ids, has_index, is_active}
use Rattle.journal_text.specs.Stands.{names_differ, table_ids}

-- ---- small facts

some_none : {A : Type 0} (x : A) → Some x ≡ None → ⊥
some_none x h = cc

none_some : {A : Type 0} (x : A) → None ≡ Some x → ⊥
none_some x h = cc

some_same : (x y : TableId) → Some x ≡ Some y → x ≡ y
some_same x y h = cc

none_active : (b : Bool) → false ≡ cond b false false
none_active true = refl
none_active false = refl

alone_none : (a : Bool) (o : Option TableId) → a ≡ true → (not a || is_none o) ≡ true → o ≡ None
alone_none true None a h = refl
alone_none true (Some x) a h = cc
alone_none false o a h = cc

other_id : (t i id : ℕ) (ids : List ℕ) → list_any (λ j. t == j) ids ≡ false → list_any (λ j. i == j) ids ≡ true → i ≡ id → (t == id) ≡ false
other_id t i id ids away among same = false_from_ne_true _ (λ y. both_ways _ away (subst (λ (n : ℕ). list_any (λ j. n == j) ids ≡ true) (same ∙ sym (eqb-true t id y)) among))

-- ---- ids

table_ids-push : (ts : List Table) (u : Table) → table_ids (ts ++ u ∷ []) ≡ table_ids ts ++ u.id.raw ∷ []
table_ids-push [] u = refl
table_ids-push (t ∷ ts) u = ap (λ ids. t.id.raw ∷ ids) (table_ids-push ts u)

table_ids-dropped : (ts : List Table) (id : TableId) → table_ids (map (dropped id) ts) ≡ table_ids ts
table_ids-dropped [] id = refl
table_ids-dropped (t ∷ ts) id = ap (λ ids. t.id.raw ∷ ids) (table_ids-dropped ts id)

-- the tables' ids and those that are still to be made stay the same
pub table_ids-changed : (ts : List Table) (c : Schema) (cs : List Schema) → table_ids (changed ts c) ++ created_ids cs ≡ table_ids ts ++ created_ids (c ∷ cs)
table_ids-changed ts (Create name id) cs =
    ap (λ ids. ids ++ created_ids cs) (table_ids-push ts (record { name = name; id = id; active = true }))
    ∙ append_assoc (table_ids ts) (id.raw ∷ []) (created_ids cs)
table_ids-changed ts (Index field id) cs = refl
table_ids-changed ts (Drop name id) cs = ap (λ ids. ids ++ created_ids cs) (table_ids-dropped ts id)
table_ids-changed ts (Redact address id document) cs = refl

-- ---- active tables

is_active-cases : (a b : Bool) → (a || ((true && b) || false)) ≡ cond b true a
is_active-cases true true = refl
is_active-cases true false = refl
is_active-cases false true = refl
is_active-cases false false = refl

pub is_active-created : (ts : List Table) (name : List ℕ) (id q : TableId) → is_active (changed ts (Create name id)) q ≡ cond (id.raw == q.raw) true (is_active ts q)
is_active-created ts name id q = list_any-append (λ (t : Table). t.active && (t.id.raw == q.raw)) ts (record { name = name; id = id; active = true } ∷ []) ∙ is_active-cases (is_active ts q) (id.raw == q.raw)

-- ---- the names of active tables

if_or : {A : Type 0} (b : Bool) (x : A) (o p : Option A) → (if b then Some x else or_else o p) ≡ or_else (if b then Some x else o) p
if_or true x o p = refl
if_or false x o p = refl

active_table-push : (ts : List Table) (u : Table) (q : List ℕ) → active_table (ts ++ u ∷ []) q ≡ or_else (active_table ts q) (active_table (u ∷ []) q)
active_table-push [] u q = refl
active_table-push (t ∷ ts) u q =
    let b : Bool = t.active && bytes_eq t.name q in
    ap (λ o. if b then Some t.id else o) (active_table-push ts u q) ∙ if_or b t.id (active_table ts q) (active_table (u ∷ []) q)

created_cases : (b : Bool) (x : TableId) (o : Option TableId) → (b ≡ true → o ≡ None) → or_else o (if true && b then Some x else None) ≡ cond b (Some x) o
created_cases true x o h = ap (λ p. or_else p (Some x)) (h refl)
created_cases false x None h = refl
created_cases false x (Some y) h = refl

same_name : (a b : List ℕ) → bytes_eq a b ≡ true → a ≡ b
same_name a b h = (bytes_eq-Decides a b).0 h

pub active_table-created : (ts : List Table) (name : List ℕ) (id : TableId) (q : List ℕ) → active_table ts name ≡ None
    → active_table (changed ts (Create name id)) q ≡ cond (bytes_eq name q) (Some id) (active_table ts q)
active_table-created ts name id q none =
    active_table-push ts (record { name = name; id = id; active = true }) q
    ∙ created_cases (bytes_eq name q) id (active_table ts q) (λ y. subst (λ (n : List ℕ). active_table ts n ≡ None) (same_name name q y) none)

-- where a name isn't active, it is neither the first table's nor that of the others
none_ahead : {A : Type 0} (b : Bool) (x : A) (o : Option A) → (if b then Some x else o) ≡ None → (b ≡ false) × (o ≡ None)
none_ahead true x o h = absurd (some_none x h)
none_ahead false x o h = (refl, h)

alone_more : (a e : Bool) (o p : Option TableId) → (not a || is_none o) ≡ true → (a && e) ≡ false → (e ≡ false → p ≡ o) → (not a || is_none p) ≡ true
alone_more false e o p h n g = refl
alone_more true e o p h n g = ap is_none (g n) ∙ h

name_apart : (a b : List ℕ) → bytes_eq a b ≡ false → bytes_eq b a ≡ false
name_apart a b h = false_from_ne_true _ (λ y. both_ways _ h ((bytes_eq-Decides a b).1 (sym (same_name b a y))))

pub names_differ-created : (ts : List Table) (name : List ℕ) (id : TableId) → names_differ ts ≡ true → active_table ts name ≡ None → names_differ (changed ts (Create name id)) ≡ true
names_differ-created [] name id differ none = refl
names_differ-created (t ∷ ts) name id differ none =
    let parts = and_parts (not t.active || is_none (active_table ts t.name)) (names_differ ts) differ in
    let ahead = none_ahead (t.active && bytes_eq t.name name) t.id (active_table ts name) none in
    let away = λ (n : bytes_eq t.name name ≡ false). active_table-created ts name id t.name ahead.1 ∙ cond-false (bytes_eq name t.name) (Some id) (active_table ts t.name) (name_apart t.name name n) in
    and_from _ _ (alone_more t.active (bytes_eq t.name name) (active_table ts t.name) (active_table (changed ts (Create name id)) t.name) parts.0 ahead.0 away) (names_differ-created ts name id parts.1 ahead.1)

-- ---- dropping a table

inactive : (s a e : Bool) → (a && e) ≡ false → ((if s then false else a) && e) ≡ false
inactive true a e h = refl
inactive false a e h = h

-- a name that isn't active stays so
active_table-gone : (ts : List Table) (id : TableId) (q : List ℕ) → active_table ts q ≡ None → active_table (map (dropped id) ts) q ≡ None
active_table-gone [] id q none = refl
active_table-gone (t ∷ ts) id q none =
    let ahead = none_ahead (t.active && bytes_eq t.name q) t.id (active_table ts q) none in
    cond-false ((if t.id.raw == id.raw then false else t.active) && bytes_eq t.name q) (Some t.id) (active_table (map (dropped id) ts) q) (inactive (t.id.raw == id.raw) t.active (bytes_eq t.name q) ahead.0) ∙ active_table-gone ts id q ahead.1

kept : (s a e : Bool) (x : TableId) (o p : Option TableId) → s ≡ false → o ≡ p → (if (if s then false else a) && e then Some x else o) ≡ (if a && e then Some x else p)
kept true a e x o p h same = cc
kept false a e x o p h same = ap (λ r. if a && e then Some x else r) same

number_apart : (a b : ℕ) → (a == b) ≡ false → (b == a) ≡ false
number_apart a b h = ne_eqb b a (λ e. eqb-false a b h (sym e))

-- nothing is dropped where no table has the id
active_table-apart : (ts : List Table) (id : TableId) (q : List ℕ) → list_any (λ i. id.raw == i) (table_ids ts) ≡ false → active_table (map (dropped id) ts) q ≡ active_table ts q
active_table-apart [] id q away = refl
active_table-apart (t ∷ ts) id q away =
    let parts = or_parts (id.raw == t.id.raw) (list_any (λ i. id.raw == i) (table_ids ts)) away in
    kept (t.id.raw == id.raw) t.active (bytes_eq t.name q) t.id (active_table (map (dropped id) ts) q) (active_table ts q) (number_apart id.raw t.id.raw parts.0) (active_table-apart ts id q parts.1)

-- an active table's id is among the ids
active_among : (ts : List Table) (name : List ℕ) (i : TableId) → active_table ts name ≡ Some i → list_any (λ j. i.raw == j) (table_ids ts) ≡ true
active_among [] name i h = absurd (none_some i h)
active_among (t ∷ ts) name i h =
    ⊎_elim
    (λ y. or_left (i.raw == t.id.raw) (list_any (λ j. i.raw == j) (table_ids ts)) (eq-eqb i.raw t.id.raw (ap (λ (x : TableId). x.raw) (sym (some_same t.id i (sym (cond-true _ (Some t.id) (active_table ts name) y) ∙ h))))))
    (λ n. or_right (i.raw == t.id.raw) (list_any (λ j. i.raw == j) (table_ids ts)) (active_among ts name i (sym (cond-false _ (Some t.id) (active_table ts name) n) ∙ h)))
    (cases_Bool (t.active && bytes_eq t.name name))

here : (s a e b : Bool) (x : TableId) (o p : Option TableId) → s ≡ true → a ≡ true → e ≡ b → o ≡ p → (b ≡ true → p ≡ None)
    → (if (if s then false else a) && e then Some x else o) ≡ cond b None (if a && e then Some x else p)
here true true e true x o p s a same left none = left ∙ none refl
here true true true false x o p s a same left none = cc
here true true false false x o p s a same left none = left
here true false e b x o p s a same left none = cc
here false a e b x o p s t same left none = cc

behind : (s a e b : Bool) (x : TableId) (o p : Option TableId) → s ≡ false → o ≡ cond b None p → (b ≡ true → (a && e) ≡ false)
    → (if (if s then false else a) && e then Some x else o) ≡ cond b None (if a && e then Some x else p)
behind true a e b x o p s left n = cc
behind false a e true x o p s left n = cond-false (a && e) (Some x) o (n refl) ∙ left
behind false a e false x o p s left n = ap (λ r. if a && e then Some x else r) left

module _ (name : List ℕ) (id : TableId) (q : List ℕ) where
  drop_here : (t : Table) (ts : List Table) → (t.active && bytes_eq t.name name) ≡ true → t.id.raw ≡ id.raw
      → (not t.active || is_none (active_table ts t.name)) ≡ true → list_any (λ j. t.id.raw == j) (table_ids ts) ≡ false
      → active_table (map (dropped id) (t ∷ ts)) q ≡ cond (bytes_eq name q) None (active_table (t ∷ ts) q)
  drop_here t ts y same alone away =
      let parts = and_parts t.active (bytes_eq t.name name) y in
      let named : t.name ≡ name = same_name t.name name parts.1 in
      let none : active_table ts name ≡ None = subst (λ (n : List ℕ). active_table ts n ≡ None) named (alone_none t.active (active_table ts t.name) parts.0 alone) in
      let rest = active_table-apart ts id q (subst (λ (i : ℕ). list_any (λ j. i == j) (table_ids ts) ≡ false) same away) in
      here (t.id.raw == id.raw) t.active (bytes_eq t.name q) (bytes_eq name q) t.id (active_table (map (dropped id) ts) q) (active_table ts q) (eq-eqb t.id.raw id.raw same) parts.0 (ap (λ n. bytes_eq n q) named) rest
      (λ b. subst (λ (n : List ℕ). active_table ts n ≡ None) (same_name name q b) none)

  drop_behind : (t : Table) (ts : List Table) → (t.active && bytes_eq t.name name) ≡ false → (t.id.raw == id.raw) ≡ false
      → active_table (map (dropped id) ts) q ≡ cond (bytes_eq name q) None (active_table ts q)
      → active_table (map (dropped id) (t ∷ ts)) q ≡ cond (bytes_eq name q) None (active_table (t ∷ ts) q)
  drop_behind t ts n away rest =
      behind (t.id.raw == id.raw) t.active (bytes_eq t.name q) (bytes_eq name q) t.id (active_table (map (dropped id) ts) q) (active_table ts q) away rest
      (λ b. subst (λ (m : List ℕ). (t.active && bytes_eq t.name m) ≡ false) (same_name name q b) n)

  -- the name of the dropped table is active no more, and the other names are as before
  pub active_table-dropped : (ts : List Table) (i : TableId) → names_differ ts ≡ true → all_differ (table_ids ts) ≡ true → active_table ts name ≡ Some i → i.raw ≡ id.raw
      → active_table (map (dropped id) ts) q ≡ cond (bytes_eq name q) None (active_table ts q)
  active_table-dropped [] i names ids h same = absurd (none_some i h)
  active_table-dropped (t ∷ ts) i names ids h same =
      let alone = and_parts (not t.active || is_none (active_table ts t.name)) (names_differ ts) names in
      let others = and_parts (not (list_any (λ j. t.id.raw == j) (table_ids ts))) (all_differ (table_ids ts)) ids in
      let away : list_any (λ j. t.id.raw == j) (table_ids ts) ≡ false = not-true (list_any (λ j. t.id.raw == j) (table_ids ts)) others.0 in
      ⊎_elim
      (λ y. drop_here t ts y (ap (λ (x : TableId). x.raw) (some_same t.id i (sym (cond-true _ (Some t.id) (active_table ts name) y) ∙ h)) ∙ same) alone.0 away)
      (λ n.
      let later : active_table ts name ≡ Some i = sym (cond-false _ (Some t.id) (active_table ts name) n) ∙ h in
      drop_behind t ts n (other_id t.id.raw i.raw id.raw (table_ids ts) away (active_among ts name i later) same) (active_table-dropped ts i alone.1 others.1 later same))
      (cases_Bool (t.active && bytes_eq t.name name))

alone_still : (s a : Bool) (o p : Option TableId) → (not a || is_none o) ≡ true → (o ≡ None → p ≡ None) → (not (if s then false else a) || is_none p) ≡ true
alone_still true a o p h g = refl
alone_still false false o p h g = refl
alone_still false true None p h g = ap is_none (g refl)
alone_still false true (Some x) p h g = cc

pub names_differ-dropped : (ts : List Table) (id : TableId) → names_differ ts ≡ true → names_differ (map (dropped id) ts) ≡ true
names_differ-dropped [] id h = refl
names_differ-dropped (t ∷ ts) id h =
    let parts = and_parts (not t.active || is_none (active_table ts t.name)) (names_differ ts) h in
    and_from _ _ (alone_still (t.id.raw == id.raw) t.active (active_table ts t.name) (active_table (map (dropped id) ts) t.name) parts.0 (active_table-gone ts id t.name)) (names_differ-dropped ts id parts.1)

still_active : (s a e b r l : Bool) → r ≡ cond b false l → (b ≡ true → e ≡ s) → (s ≡ true → e ≡ b) → (((if s then false else a) && e) || r) ≡ cond b false ((a && e) || l)
still_active true a e true r l h g k = h
still_active false a e true r l h g k = or_from _ _ (and_right a e (g refl)) h
still_active true a e false r l h g k = h ∙ sym (ap (λ x. x || l) (and_right a e (k refl)))
still_active false a e false r l h g k = ap (λ x. (a && e) || x) h

pub is_active-dropped : (ts : List Table) (id q : TableId) → is_active (map (dropped id) ts) q ≡ cond (id.raw == q.raw) false (is_active ts q)
is_active-dropped [] id q = none_active (id.raw == q.raw)
is_active-dropped (t ∷ ts) id q =
    still_active (t.id.raw == id.raw) t.active (t.id.raw == q.raw) (id.raw == q.raw) (is_active (map (dropped id) ts) q) (is_active ts q) (is_active-dropped ts id q)
    (λ b. ap (λ n. t.id.raw == n) (sym (eqb-true id.raw q.raw b)))
    (λ s. ap (λ n. n == q.raw) (eqb-true t.id.raw id.raw s))

-- ---- fields with an index

pushed : (a b : Bool) → (a || (b || false)) ≡ cond b true a
pushed true true = refl
pushed true false = refl
pushed false true = refl
pushed false false = refl

pub has_index-pushed : (indexes : List Indexed) (field : List ℕ) (id q : TableId) (f : List ℕ)
    → has_index (indexed indexes (Index field id)) q f ≡ cond ((id.raw == q.raw) && bytes_eq field f) true (has_index indexes q f)
has_index-pushed indexes field id q f = list_any-append (λ (i : Indexed). (i.table.raw == q.raw) && bytes_eq i.field f) indexes (record { table = id; field = field } ∷ []) ∙ pushed (has_index indexes q f) ((id.raw == q.raw) && bytes_eq field f)
