-- Revisions that are shown, the last one first.
use Rattle.std.proofs.Common.{◌≡◌, ◌≤◌, ℕ, ℤ, zero, suc, ◌+◌, ◌==◌, Bool, true, false, List, [], ◌∷◌, ◌++◌, length, map, drop, Option, Some, None, Bor, refl, sym, ◌∙◌, ap, ap₂, subst, arith, nat_cmp, is_eq, cond}
use Rattle.std.specs.Prelude.{reverse, slice_get, if◌then◌else◌}
use Rattle.std.specs.List.{filter_map}
use Rattle.std.specs.Map.{lookup}
use Rattle.std.specs.BTreeMap as tree
use Rattle.std.specs.BTreeMap.{BTreeMap}
use Rattle.std.proofs.lemmas.Bool.Decides.{nat_tests}
use Rattle.std.proofs.lemmas.List.{append_assoc, append-nil, drop_all, map-append, reverse-append}
use Rattle.std.proofs.lemmas.List.Elements.{filter-append}
use Rattle.ion_values.specs.declared.value.Value.{Value}
use Rattle.ql_types.specs.declared.TableId.{TableId}
use Rattle.pql_model.specs.declared.tables.Probe.{Probe}
use Rattle.pql_model.specs.declared.tables.Row.{Row}
use Rattle.pql_model.specs.Tables.{meeting, meets}
use Rattle.ledger_model.specs.declared.block.Draft.{Draft}
use Rattle.ledger_model.specs.CommittedViews.{began, history_view, is_historic, next_began, row_showing}
use Rattle.ledger_model.specs.State.{Recorded, draft_of}
use Rattle.ledger_model.specs.Views.{latest, row_of, user_view}
use Rattle.versions.specs.declared.recorded.Recorded as held
use Rattle.versions.specs.Held.{recorded_lent, recorded_of}
use Rattle.view_rows.specs.Shown.{AreNext, historic, is_shown_before}

-- ---- the rows of a history

step-rows : (b : Bool) (r : Recorded) (rows : List Row) (rs : List Recorded) → map row_showing rs ≡ rows
    → map row_showing (if b then r ∷ rs else rs) ≡ (if b then row_showing r ∷ rows else rows)
step-rows true r rows rs is = ap (λ (xs : List Row). row_showing r ∷ xs) is
step-rows false r rows rs is = is

historic-rows : (table : TableId) (from to : Option Value) (rs : List Recorded) → map row_showing (historic table from to rs) ≡ history_view table from to rs
historic-rows table from to [] = refl
historic-rows table from to (r ∷ later) =
    step-rows (is_historic table from to r later) r (history_view table from to later) (historic table from to later) (historic-rows table from to later)

pub rows_historic : (table : TableId) (from to : Option Value) (revisions : List Recorded) (shown : List (Bor held.Recorded)) (probe : Probe) (rows : List Row)
    → reverse (recorded_lent shown) ≡ historic table from to revisions → rows ≡ meeting probe (map row_showing (reverse (recorded_lent shown)))
    → rows ≡ meeting probe (history_view table from to revisions)
rows_historic table from to revisions shown probe rows shown_is is =
    is ∙ ap (λ (rs : List Recorded). meeting probe (map row_showing rs)) shown_is ∙ ap (meeting probe) (historic-rows table from to revisions)

-- ---- the user view where nothing pends

pub rows_latest : (table : TableId) (revisions : List Recorded) (probe : Probe) (documents : List Draft) (rows : List Row)
    → documents ≡ latest (map draft_of revisions) → rows ≡ meeting probe (filter_map (row_of table) documents)
    → rows ≡ meeting probe (user_view table (map draft_of revisions) [])
rows_latest table revisions probe documents rows are is =
    is
    ∙ ap (λ (ds : List Draft). meeting probe (filter_map (row_of table) ds)) are
    ∙ ap (λ (ds : List Draft). meeting probe (filter_map (row_of table) (latest ds))) (sym (append-nil (map draft_of revisions)))

-- ---- the moments of next revisions

is_at : (k q : ℕ) → is_eq (nat_cmp k q) ≡ (k == q)
is_at k q = grind (arith, nat_tests)

next-step : (b : Bool) (r : Recorded) (o : Option ℤ) → cond b (Some (began r)) o ≡ (if b then Some (began r) else o)
next-step true r o = refl
next-step false r o = refl

-- one revision more in front
pub noted : (old new : BTreeMap ℕ ℤ) (r : Recorded) (at : ℤ) (later : List Recorded) → at ≡ began r
    → ((q : ℕ) → tree.get nat_cmp new q ≡ cond (is_eq (nat_cmp r.revision.metadata.id.raw q)) (Some at) (tree.get nat_cmp old q))
    → AreNext old later → AreNext new (r ∷ later)
noted old new r at later is updates are = λ id.
    updates id
    ∙ ap (λ (t : ℤ). cond (is_eq (nat_cmp r.revision.metadata.id.raw id)) (Some t) (tree.get nat_cmp old id)) is
    ∙ ap₂ (λ (b : Bool) (o : Option ℤ). cond b (Some (began r)) o) (is_at r.revision.metadata.id.raw id) (are id)
    ∙ next-step (r.revision.metadata.id.raw == id) r (next_began id later)

-- ---- those shown so far

drop-at : {A : Type 0} (xs : List A) (at : ℕ) (x : A) → Some x ≡ slice_get xs at → drop at xs ≡ x ∷ drop (at + 1) xs
drop-at [] at x is = cc
drop-at (y ∷ ys) zero x is = let same : y ≡ x = cc in ap (λ z. z ∷ ys) same
drop-at (y ∷ ys) (suc at) x is = let s : suc at + 1 ≡ suc (at + 1) = omega arith in rw s (drop-at ys at x is)

front-rest : (r : Recorded) (shown : List Recorded) → reverse (shown ++ r ∷ []) ≡ r ∷ reverse shown
front-rest r shown = reverse-append shown (r ∷ [])

shown-step : (b : Bool) (r : Recorded) (shown new rest : List Recorded) → new ≡ cond b (shown ++ r ∷ []) shown → reverse shown ≡ rest
    → reverse new ≡ (if b then r ∷ rest else rest)
shown-step true r shown new rest new_is is = ap reverse new_is ∙ front-rest r shown ∙ ap (λ (xs : List Recorded). r ∷ xs) is
shown-step false r shown new rest new_is is = ap reverse new_is ∙ is

-- one revision more in front of those that were looked at
pub shown_more : (table : TableId) (from to : Option Value) (revisions : List Recorded) (at : ℕ) (r : Recorded) (shown new : List Recorded) (b : Bool)
    → Some r ≡ slice_get revisions at → b ≡ is_historic table from to r (drop (at + 1) revisions) → new ≡ cond b (shown ++ r ∷ []) shown
    → reverse shown ≡ historic table from to (drop (at + 1) revisions) → reverse new ≡ historic table from to (drop at revisions)
shown_more table from to revisions at r shown new b there b_is new_is is =
    let later : List Recorded = drop (at + 1) revisions in
    shown-step b r shown new (historic table from to later) new_is is
    ∙ ap (λ (c : Bool). if c then r ∷ historic table from to later else historic table from to later) b_is
    ∙ ap (historic table from to) (sym (drop-at revisions at r there))

-- ---- from one revision to the one in front of it

pub next_stands : (revisions : List Recorded) (left at : ℕ) (r : Recorded) (old new : BTreeMap ℕ ℤ) → at + 1 ≡ left → Some r ≡ slice_get revisions at
    → AreNext old (drop left revisions) → ((later : List Recorded) → AreNext old later → AreNext new (r ∷ later)) → AreNext new (drop at revisions)
next_stands revisions left at r old new is there are more =
    let later : AreNext old (drop (at + 1) revisions) = subst (λ (n : ℕ). AreNext old (drop n revisions)) (sym is) are in
    subst (λ (xs : List Recorded). AreNext new xs) (sym (drop-at revisions at r there)) (more (drop (at + 1) revisions) later)

pub shown_stands : (table : TableId) (from to : Option Value) (revisions : List Recorded) (left at : ℕ) (r : Recorded) (nexts : BTreeMap ℕ ℤ) (next : Option ℤ)
    (shown new : List Recorded) (b : Bool) → at + 1 ≡ left → Some r ≡ slice_get revisions at
    → AreNext nexts (drop left revisions) → next ≡ tree.get nat_cmp nexts r.revision.metadata.id.raw → b ≡ is_shown_before table from to r next
    → new ≡ cond b (shown ++ r ∷ []) shown → reverse shown ≡ historic table from to (drop left revisions)
    → reverse new ≡ historic table from to (drop at revisions)
shown_stands table from to revisions left at r nexts next shown new b is there are next_is b_is new_is shown_is =
    let later : List Recorded = drop (at + 1) revisions in
    let nexts_are : AreNext nexts later = subst (λ (n : ℕ). AreNext nexts (drop n revisions)) (sym is) are in
    let began_next : next ≡ next_began r.revision.metadata.id.raw later = next_is ∙ nexts_are r.revision.metadata.id.raw in
    shown_more table from to revisions at r shown new b there (b_is ∙ ap (is_shown_before table from to r) began_next) new_is
    (subst (λ (n : ℕ). reverse shown ≡ historic table from to (drop n revisions)) (sym is) shown_is)

-- behind the last one there is none
pub next_ends : (revisions : List Recorded) (left : ℕ) (nexts : BTreeMap ℕ ℤ) → left ≡ length revisions → nexts.entries ≡ []
    → AreNext nexts (drop left revisions)
next_ends revisions left nexts is none = λ id.
    ap (lookup (λ q. is_eq (nat_cmp id q))) none ∙ ap (next_began id) (sym (drop_all left revisions (let h : length revisions ≤ left = omega (arith, is) in h)))

pub shown_ends : (table : TableId) (from to : Option Value) (revisions : List Recorded) (left : ℕ) (shown : List (Bor held.Recorded)) → left ≡ length revisions → shown ≡ []
    → reverse (recorded_lent shown) ≡ historic table from to (drop left revisions)
shown_ends table from to revisions left shown is none =
    ap (λ (xs : List (Bor held.Recorded)). reverse (recorded_lent xs)) none
    ∙ ap (historic table from to) (sym (drop_all left revisions (let h : length revisions ≤ left = omega (arith, is) in h)))

-- none is left
pub shown_whole : (table : TableId) (from to : Option Value) (revisions : List Recorded) (left : ℕ) (shown : List Recorded) → left ≤ 0
    → reverse shown ≡ historic table from to (drop left revisions) → reverse shown ≡ historic table from to revisions
shown_whole table from to revisions zero shown none is = is
shown_whole table from to revisions (suc left) shown none is = let bad : ⊥ = omega (arith, none) in absurd bad

-- ---- the rows of those shown

lent-last : (rest : List (Bor held.Recorded)) (r : Bor held.Recorded) → recorded_lent (rest ++ r ∷ []) ≡ recorded_lent rest ++ recorded_of r.now ∷ []
lent-last rest r = map-append (λ (x : Bor held.Recorded). recorded_of x.now) rest (r ∷ [])

pub row_more : (probe : Probe) (rows new all : List Row) (r : Bor held.Recorded) (shown rest : List (Bor held.Recorded)) → shown ≡ rest ++ r ∷ []
    → new ≡ rows ++ meeting probe (row_showing (recorded_of r.now) ∷ [])
    → rows ++ meeting probe (map row_showing (reverse (recorded_lent shown))) ≡ all
    → new ++ meeting probe (map row_showing (reverse (recorded_lent rest))) ≡ all
row_more probe rows new all r shown rest shown_is new_is is =
    let backwards : reverse (recorded_lent shown) ≡ recorded_of r.now ∷ reverse (recorded_lent rest) =
    ap (λ (xs : List (Bor held.Recorded)). reverse (recorded_lent xs)) shown_is ∙ ap reverse (lent-last rest r) ∙ front-rest (recorded_of r.now) (recorded_lent rest) in
    let left : List Row = map row_showing (reverse (recorded_lent rest)) in
    ap (λ (xs : List Row). xs ++ meeting probe left) new_is
    ∙ append_assoc rows (meeting probe (row_showing (recorded_of r.now) ∷ [])) (meeting probe left)
    ∙ ap (λ (xs : List Row). rows ++ xs) (sym (filter-append (meets probe) (row_showing (recorded_of r.now) ∷ []) left))
    ∙ ap (λ (xs : List Recorded). rows ++ meeting probe (map row_showing xs)) (sym backwards)
    ∙ is

pub rows_end : (probe : Probe) (rows all : List Row) (shown : List (Bor held.Recorded)) → shown ≡ []
    → rows ++ meeting probe (map row_showing (reverse (recorded_lent shown))) ≡ all → rows ≡ all
rows_end probe rows all shown none is =
    sym (append-nil rows)
    ∙ ap (λ (xs : List (Bor held.Recorded)). rows ++ meeting probe (map row_showing (reverse (recorded_lent xs)))) (sym none)
    ∙ is
