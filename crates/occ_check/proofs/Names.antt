-- The name with which a table was made tells it at each change of the schema, where no two tables have one id and the
-- changes follow: an index is made on an active table, and a table is dropped by its own name.
use Rattle.std.proofs.Common.{◌≡◌, ◌∙◌, ℕ, ◌==◌, ◌&&◌, ◌||◌, Bool, true, false, not, List, [], ◌∷◌, map, Option, Some, refl, sym, ap, ap₂, eq-eqb, inl, inr}
use Rattle.std.specs.Prelude.{if◌then◌else◌}
use Rattle.std.specs.List.{AllByRecursion, list_any}
use Rattle.std.specs.Option.{option_map_or}
use Rattle.std.specs.Str.{bytes_eq}
use Rattle.std.proofs.lemmas.Bool.{and_parts, eqb-true, not-true}
use Rattle.std.proofs.lemmas.Bool.Decides.{eqb_tells}
use Rattle.std.proofs.lemmas.Slice.Eq.{bytes_eq-Decides}
use Rattle.ql_types.specs.declared.TableId.{TableId}
use Rattle.ledger_model.specs.declared.block.Block.{Block}
use Rattle.ledger_model.specs.declared.block.Schema.{Schema}
use Rattle.ledger_model.specs.declared.block.Schema.TheVariants.{Create, Index, Drop, Redact}
use Rattle.ledger_model.specs.Follows.{all_differ, change_follows, has_index, is_active, is_named, schema_follows}
use Rattle.ledger_model.specs.State.{Indexed, State, Table, active_table, after, all_changed, changed, dropped, indexed, state_from}
use Rattle.laws_validity.proofs.Lists.{all_append, all_front, all_rest}
use Rattle.laws_footprint.specs.Touches.{change_touches_name, has_name, touches_name}
use Rattle.versions.specs.Lookups.{name_of}
use Rattle.occ_check.specs.Behind.{changes_name, is_name}

-- ---- tables whose ids tell their names in the final list

abbrev pub IsLabelled : List Table → Table → Type 0
IsLabelled final t = name_of final t.id ≡ Some t.name

abbrev pub IsCreated : List Table → Schema → Type 0
IsCreated final (Create name id) = name_of final id ≡ Some name
IsCreated final (Index field id) = Unit {0}
IsCreated final (Drop name id) = Unit {0}
IsCreated final (Redact address id document) = Unit {0}

same_label : (final : List Table) (a b : TableId) → (a.raw == b.raw) ≡ true → name_of final a ≡ name_of final b
same_label final a b same =
    ap (λ (n : ℕ). name_of final (record { raw = n })) (eqb-true a.raw b.raw same)

-- an active table of this id has the name exactly where the id tells it
both_true : (active named rest : Bool) → ((active && named && true) || (rest && named)) ≡ (((active && true) || rest) && named)
both_true true true rest = refl
both_true true false true = refl
both_true true false false = refl
both_true false named rest = refl

both_false : (active named rest told : Bool) → ((active && named && false) || (rest && told)) ≡ (((active && false) || rest) && told)
both_false true true rest told = refl
both_false true false rest told = refl
both_false false named rest told = refl

by_id : (same active named rest others told : Bool) → rest ≡ (others && told) → (same ≡ true → told ≡ named)
    → ((active && named && same) || rest) ≡ (((active && same) || others) && told)
by_id true active named rest others told e k =
    ap (λ r. (active && named && true) || r) (e ∙ ap (λ t. others && t) (k refl)) ∙ both_true active named others
    ∙ ap (λ t. ((active && true) || others) && t) (sym (k refl))
by_id false active named rest others told e k =
    ap (λ r. (active && named && false) || r) e ∙ both_false active named others told

has_name_is : (final ts : List Table) (name : List ℕ) (id : TableId) → AllByRecursion (IsLabelled final) ts
    → has_name ts name id ≡ (is_active ts id && is_name name (name_of final id))
has_name_is final [] name id h = refl
has_name_is final (t ∷ ts) name id h =
    by_id (t.id.raw == id.raw) t.active (bytes_eq t.name name) (has_name ts name id) (is_active ts id)
    (is_name name (name_of final id)) (has_name_is final ts name id h.1)
    (λ same. ap (is_name name) (sym (same_label final t.id id same) ∙ h.0))

-- the active table of a name tells it
named_step : (b : Bool) (final : List Table) (t : Table) (o : Option TableId) (name : List ℕ) (id : TableId)
    → (t.active && bytes_eq t.name name) ≡ b → IsLabelled final t
    → (option_map_or (λ u. u.raw == id.raw) o false ≡ true → name_of final id ≡ Some name)
    → option_map_or (λ u. u.raw == id.raw) (if b then Some t.id else o) false ≡ true → name_of final id ≡ Some name
named_step true final t o name id here label rest e =
    sym (same_label final t.id id e) ∙ label
    ∙ ap (λ (n : List ℕ). Some n) ((bytes_eq-Decides t.name name).0 (and_parts t.active (bytes_eq t.name name) here).1)
named_step false final t o name id here label rest e = rest e

named_is : (final ts : List Table) (name : List ℕ) (id : TableId) → AllByRecursion (IsLabelled final) ts
    → is_named ts name id ≡ true → name_of final id ≡ Some name
named_is final [] name id h e = cc
named_is final (t ∷ ts) name id h e =
    named_step (t.active && bytes_eq t.name name) final t (active_table ts name) name id refl h.0
    (named_is final ts name id h.1) e

-- ---- one change, and all of them

absorbed : (own active : Bool) → (own || (active && own)) ≡ own
absorbed true active = refl
absorbed false true = refl
absorbed false false = refl

change_is : (final ts : List Table) (ix : List Indexed) (name : List ℕ) (c : Schema)
    → AllByRecursion (IsLabelled final) ts → change_follows ts ix c ≡ true
    → change_touches_name ts name c ≡ changes_name final name c
change_is final ts ix name (Create n id) h f = refl
change_is final ts ix name (Index field id) h f =
    has_name_is final ts name id h
    ∙ ap (λ b. b && is_name name (name_of final id))
    (and_parts (is_active ts id) (not (has_index ix id field)) f).0
change_is final ts ix name (Drop n id) h f =
    ap (λ b. bytes_eq n name || b)
    (has_name_is final ts name id h ∙ ap (λ o. is_active ts id && is_name name o) (named_is final ts n id h f))
    ∙ absorbed (bytes_eq n name) (is_active ts id)
change_is final ts ix name (Redact address id document) h f = refl

still_labelled : (final ts : List Table) (id : TableId) → AllByRecursion (IsLabelled final) ts
    → AllByRecursion (IsLabelled final) (map (dropped id) ts)
still_labelled final [] id h = tt
still_labelled final (t ∷ ts) id h = (h.0, still_labelled final ts id h.1)

labelled_next : (final ts : List Table) (c : Schema) → AllByRecursion (IsLabelled final) ts → IsCreated final c
    → AllByRecursion (IsLabelled final) (changed ts c)
labelled_next final ts (Create name id) h k =
    all_append (IsLabelled final) ts (record { name = name; id = id; active = true } ∷ []) h (k, tt)
labelled_next final ts (Index field id) h k = h
labelled_next final ts (Drop name id) h k = still_labelled final ts id h
labelled_next final ts (Redact address id document) h k = h

pub names_are : (final ts : List Table) (ix : List Indexed) (name : List ℕ) (cs : List Schema)
    → schema_follows ts ix cs ≡ true → AllByRecursion (IsLabelled final) ts → AllByRecursion (IsCreated final) cs
    → touches_name ts name cs ≡ list_any (changes_name final name) cs
names_are final ts ix name [] f h k = refl
names_are final ts ix name (c ∷ cs) f h k =
    let parts = and_parts (change_follows ts ix c) (schema_follows (changed ts c) (indexed ix c) cs) f in
    ap₂ (λ (a b : Bool). a || b) (change_is final ts ix name c h parts.0)
    (names_are final (changed ts c) (indexed ix c) name cs parts.1 (labelled_next final ts c h k.0) k.1)

-- ---- back from the final list

undropped : (final ts : List Table) (id : TableId) → AllByRecursion (IsLabelled final) (map (dropped id) ts)
    → AllByRecursion (IsLabelled final) ts
undropped final [] id h = tt
undropped final (t ∷ ts) id h = (h.0, undropped final ts id h.1)

labelled_before : (final ts : List Table) (c : Schema) → AllByRecursion (IsLabelled final) (changed ts c)
    → AllByRecursion (IsLabelled final) ts × IsCreated final c
labelled_before final ts (Create name id) h =
    let new : List Table = record { name = name; id = id; active = true } ∷ [] in
    (all_front (IsLabelled final) ts new h, (all_rest (IsLabelled final) ts new h).0)
labelled_before final ts (Index field id) h = (h, tt)
labelled_before final ts (Drop name id) h = (undropped final ts id h, tt)
labelled_before final ts (Redact address id document) h = (h, tt)

pub all_labelled_before : (final ts : List Table) (cs : List Schema)
    → AllByRecursion (IsLabelled final) (all_changed ts cs)
    → AllByRecursion (IsLabelled final) ts × AllByRecursion (IsCreated final) cs
all_labelled_before final ts [] h = (h, tt)
all_labelled_before final ts (c ∷ cs) h =
    let later = all_labelled_before final (changed ts c) cs h in
    let now = labelled_before final ts c later.0 in
    (now.0, (now.1, later.1))

pub state_labelled_before : (final : List Table) (s : State) (blocks : List Block)
    → AllByRecursion (IsLabelled final) (state_from s blocks).tables → AllByRecursion (IsLabelled final) s.tables
state_labelled_before final s [] h = h
state_labelled_before final s (b ∷ bs) h =
    (all_labelled_before final s.tables b.info.schema (state_labelled_before final (after s b) bs h)).0

-- ---- where all ids differ

abbrev pub table_ids : List Table → List ℕ
table_ids ts = map (λ (t : Table). t.id.raw) ts

label_behind : (t : Table) (ts us : List Table) → list_any (λ y. t.id.raw == y) (table_ids us) ≡ false
    → AllByRecursion (IsLabelled ts) us → AllByRecursion (IsLabelled (t ∷ ts)) us
label_behind t ts [] apart h = tt
label_behind t ts (u ∷ us) apart h =
    elim (eqb_tells t.id.raw u.id.raw) [
      | inl same ↦
          let bad : list_any (λ y. t.id.raw == y) (table_ids (u ∷ us)) ≡ true =
          ap (λ b. b || list_any (λ y. t.id.raw == y) (table_ids us)) same.0 in
          let none : ⊥ = cc in
          absurd none
      | inr other ↦
          let rest : list_any (λ y. t.id.raw == y) (table_ids us) ≡ false =
          sym (ap (λ b. b || list_any (λ y. t.id.raw == y) (table_ids us)) other.0) ∙ apart in
          (ap (λ b. if b then Some t.name else name_of ts u.id) other.0 ∙ h.0, label_behind t ts us rest h.1)
    ]

pub all_labelled : (ts : List Table) → all_differ (table_ids ts) ≡ true → AllByRecursion (IsLabelled ts) ts
all_labelled [] d = tt
all_labelled (t ∷ ts) d =
    let parts = and_parts (not (list_any (λ y. t.id.raw == y) (table_ids ts))) (all_differ (table_ids ts)) d in
    let apart = not-true (list_any (λ y. t.id.raw == y) (table_ids ts)) parts.0 in
    let own : IsLabelled (t ∷ ts) t =
    ap (λ b. if b then Some t.name else name_of ts t.id) (eq-eqb t.id.raw t.id.raw refl) in
    (own, label_behind t ts ts apart (all_labelled ts parts.1))
