-- What the parts of a condition that is true tell of the values in a combination, and of the row at a place.
use Rattle.std.proofs.Common.{◌≡◌, ◌∙◌, inl, inr, ℕ, zero, ◌^◌, ◌<◌, Bool, true, false, ◌==◌, ◌&&◌, nat_lt, codes, List, [], ◌∷◌, length, map, refl, sym, ap, subst, rules, arith, slice_get, Option, Some, None, option_map}
use Rattle.std.specs.Prelude.{option_and_then, if◌then◌else◌}
use Rattle.std.specs.List.{AllByRecursion, list_any}
use Rattle.std.specs.Option.{option_map_or}
use Rattle.std.specs.Str.{bytes_eq}
use Rattle.std.proofs.lemmas.Bool.{and_parts, eqb-true, false≢true, ltb-true, or_cases}
use Rattle.std.proofs.lemmas.Slice.Eq.{bytes_eq-Decides}
use Rattle.std.proofs.lemmas.List.{length-map}
use Rattle.ion_values.specs.declared.value.Body.TheFolds as values
use Rattle.ion_values.specs.declared.value.Body.TheVariants as body
use Rattle.ion_values.specs.declared.value.Key.TheVariants as key
use Rattle.ion_values.specs.declared.value.Value.{Value}
use Rattle.ion_order.specs.Key.{key_of}
use Rattle.ql_types.specs.Ids.{id_in, id_text}
use Rattle.ql_types.proofs.Spelled.{id_in-text}
use Rattle.pql_model.specs.declared.names.Resolved.{Resolved}
use Rattle.pql_model.specs.declared.names.Resolved.TheVariants.{Variable, Id}
use Rattle.pql_model.specs.declared.scope.Bound.{Bound}
use Rattle.pql_model.specs.declared.scope.Evaluated.{Evaluated}
use Rattle.pql_model.specs.declared.scope.Evaluated.TheVariants.{Missing, Found}
use Rattle.pql_model.specs.declared.statement.Source.{Source}
use Rattle.pql_model.specs.declared.statement.SourceKind.{SourceKind}
use Rattle.pql_model.specs.declared.statement.SourceKind.TheVariants as source
use Rattle.pql_model.specs.declared.tables.Row.{Row}
use Rattle.pql_model.specs.Comparisons.{equal}
use Rattle.pql_model.specs.From.{bound_row}
use Rattle.pql_model.specs.Lists.{is_among, is_equal_to, is_in, is_null_answer, list_seen}
use Rattle.pql_model.specs.Logic.{is_true, truth_in}
use Rattle.pql_model.specs.Made.{answer, found, made, null, onward, seen, truth}
use Rattle.pql_model.specs.Names.{called, called_in_row, resolve}
use Rattle.pql_model.specs.Rules.{is_single}
use Rattle.pql_model.specs.Steps.{field_of, field_of_only, meant_by, meant_in, named}
use Rattle.pql_model.specs.Tables.{is_committed}
use Rattle.pql_model.specs.Texts.{text_of}
use Rattle.ledger_model.specs.Conditions.{Asked, Meant, Part, Side, Wanted, all_asked, among, asked_among, asked_by, asked_constant, asked_elements, asked_equal, asked_path, at_names, constant, constants, elements_in, equal_to, equation, id_of, meant, meant_as, missing, names, one_of, other, same_as, unknown}
use Rattle.ledger_model.specs.Footprints.{document_in, field_alone, field_at, field_of_data, field_reached, is_id, is_metadata_id}
use Rattle.ledger_model.specs.Meets.{content_shown, data_in, or_null, shows_metadata}
use Rattle.laws_footprint.specs.Covered.{is_known, shows_own_id}
use Rattle.laws_footprint.specs.Restriction.{Among}
use Rattle.pql_model.proofs.Equality.{Matches, equal_both, matches, null_is, text_by_key, text_key, truth_is, turned}
use Rattle.laws_footprint.proofs.Listed.{among_more}
use Rattle.laws_footprint.proofs.Parts.{Holds, Is, stepped}
use Rattle.laws_footprint.proofs.Rows.{all_joined}

-- ---- what a name means in a row

abbrev pub MeantIs : List Bound → Meant → Evaluated → Type 0
MeantIs c (id_of place) e = e ≡ meant_in c (Id place)
MeantIs c (at_names place fields) e = e ≡ stepped fields (meant_in c (Variable place))
MeantIs c unknown e = Unit {0}

only_row : (c : List Bound) (name : List ℕ) (fields : List (List ℕ)) → length c ≡ 1
    → stepped fields (field_of_only name true c) ≡ stepped (name ∷ fields) (meant_in c (Variable 0))
only_row [] name fields h = absurd (omega arith)
only_row (b ∷ []) name fields h = refl
only_row (b ∷ d ∷ c) name fields h = absurd (omega arith)

single : (c : List Bound) (sources : List Source) (name : List ℕ) (fields : List (List ℕ)) (b : Bool)
    → is_single sources ≡ b → length c ≡ length sources
    → MeantIs c (if b then at_names 0 (name ∷ fields) else unknown) (stepped fields (field_of_only name true c))
single c sources name fields true e same = only_row c name fields (same ∙ eqb-true (length sources) 1 e)
single c sources name fields false e same = tt

meant_value : (c : List Bound) (sources : List Source) (name : List ℕ) (fields : List (List ℕ)) (o : Option Resolved)
    → length c ≡ length sources
    → MeantIs c (meant_as sources name fields o)
    (stepped fields (option_map_or (meant_in c) o (field_of_only name true c)))
meant_value c sources name fields (Some (Variable place)) same = refl
meant_value c sources name [] (Some (Id place)) same = refl
meant_value c sources name (f ∷ fs) (Some (Id place)) same = tt
meant_value c sources name fields None same = single c sources name fields (is_single sources) refl same

same_length : (c : List Bound) (sources : List Source) → map called_in_row c ≡ map called sources
    → length c ≡ length sources
same_length c sources same =
    sym (length-map c called_in_row) ∙ (ap length same ∙ length-map sources called)

names_mean : (c : List Bound) (sources : List Source) (name : List ℕ) (fields : List (List ℕ)) (e : Evaluated)
    → map called_in_row c ≡ map called sources
    → e ≡ stepped fields (named name true c) → MeantIs c (meant sources name fields) e
names_mean c sources name fields e same is =
    let by_sources : e ≡ stepped fields (option_map_or (meant_in c) (resolve name (map called sources))
    (field_of_only name true c)) =
    is ∙ ap (λ called. stepped fields (option_map_or (meant_in c) (resolve name called) (field_of_only name true c)))
    same in
    subst (MeantIs c (meant sources name fields)) (sym by_sources)
    (meant_value c sources name fields (resolve name (map called sources)) (same_length c sources same))

-- ---- what a part tells

-- the value is what is wanted
abbrev pub IsWanted : List Bound → Wanted → Value → Type 0
IsWanted c (equal_to x) v = v ≡ x
IsWanted c (one_of values) v = Among values v
IsWanted c (same_as m) v = MeantIs c m (Found v)

-- what is meant is there, and equals what is wanted
abbrev pub Told : List Bound → Asked → Type 0
Told c a = (w : Value) × (v : Value) × MeantIs c a.of (Found w) × IsWanted c a.wanted v × Matches w v

found_value : (v w : Value) → Found v ≡ Found w → v ≡ w
found_value v w h = cc h

-- a path that equals a constant, a path that equals another
path_told : (c : List Bound) (sources : List Source) (m : Meant) (r : Side) (e f : Evaluated)
    → map called_in_row c ≡ map called sources → MeantIs c m e → Is c r f
    → is_true (truth_in (equal e f)) ≡ true → AllByRecursion (Told c) (asked_path sources m r)
path_told c sources m (constant x) e f same means is t =
    let b = equal_both e f t in (
      (b.0, b.1, subst (MeantIs c m) b.2 means, found_value b.1 x (sym b.3 ∙ is), matches b.0 b.1 b.4),
      tt,
    )
path_told c sources m (names first fields) e f same means is t =
    let b = equal_both e f t in
    let left : MeantIs c m (Found b.0) = subst (MeantIs c m) b.2 means in
    let right : MeantIs c (meant sources first fields) (Found b.1) =
    subst (MeantIs c (meant sources first fields)) b.3 (names_mean c sources first fields f same is) in
    let one : Told c (record { of = m; wanted = same_as (meant sources first fields) }) =
    (b.0, b.1, left, right, matches b.0 b.1 b.4) in
    let two : Told c (record { of = meant sources first fields; wanted = same_as m }) =
    (b.1, b.0, right, left, turned b.0 b.1 (matches b.0 b.1 b.4)) in (one, (two, tt))
path_told c sources m missing e f same means is t = tt
path_told c sources m (constants values) e f same means is t = tt
path_told c sources m other e f same means is t = tt

constant_told : (c : List Bound) (sources : List Source) (x : Value) (r : Side) (e f : Evaluated)
    → map called_in_row c ≡ map called sources → e ≡ Found x → Is c r f
    → is_true (truth_in (equal e f)) ≡ true → AllByRecursion (Told c) (asked_constant sources x r)
constant_told c sources x (names first fields) e f same is means t =
    let b = equal_both e f t in (
      (
        b.1,
        b.0,
        subst (MeantIs c (meant sources first fields)) b.3 (names_mean c sources first fields f same means),
        found_value b.0 x (sym b.2 ∙ is),
        turned b.0 b.1 (matches b.0 b.1 b.4),
      ),
      tt,
    )
constant_told c sources x (constant v) e f same is means t = tt
constant_told c sources x missing e f same is means t = tt
constant_told c sources x (constants values) e f same is means t = tt
constant_told c sources x other e f same is means t = tt

equal_told : (c : List Bound) (sources : List Source) (l r : Side) (e f : Evaluated)
    → map called_in_row c ≡ map called sources → Is c l e → Is c r f
    → is_true (truth_in (equal e f)) ≡ true → AllByRecursion (Told c) (asked_equal sources l r)
equal_told c sources (constant x) r e f same left right t = constant_told c sources x r e f same left right t
equal_told c sources (names first fields) r e f same left right t =
    path_told c sources (meant sources first fields) r e f same (names_mean c sources first fields e same left) right t
equal_told c sources missing r e f same left right t = tt
equal_told c sources (constants values) r e f same left right t = tt
equal_told c sources other r e f same left right t = tt

-- ---- IN

some_true : (a b : Bool) → is_true (truth_in (if a then truth true else if b then null else truth false)) ≡ true
    → a ≡ true
some_true true b h = refl
some_true false true h = absurd (false≢true (sym null_is ∙ h))
some_true false false h = absurd (false≢true (sym (truth_is false) ∙ h))

-- an element that equals the value
abbrev Element : Evaluated → List Value → Type 0
Element x vs = (v : Value) × Among vs v × (is_true (truth_in (equal x (Found v))) ≡ true)

element_in : (x : Evaluated) (vs : List Value)
    → list_any (λ e. is_true (truth_in e)) (map (is_equal_to x) vs) ≡ true → Element x vs
element_in x [] h = absurd (false≢true h)
element_in x (v ∷ vs) h =
    elim (or_cases (is_true (truth_in (equal x (Found v)))) (list_any (λ e. is_true (truth_in e))
    (map (is_equal_to x) vs)) h) as (λ _. Element x (v ∷ vs)) [
      | inl here ↦ (v, (zero, refl), here)
      | inr there ↦ let w = element_in x vs there in (w.0, among_more v vs w.0 w.1, w.2)
    ]

among_true : (x : Evaluated) (vs : List Value) → is_true (truth_in (is_among x vs)) ≡ true → Element x vs
among_true x vs h =
    element_in x vs (some_true (list_any (λ e. is_true (truth_in e)) (map (is_equal_to x) vs))
    (list_any is_null_answer (map (is_equal_to x) vs)) h)

in_list : (x : Evaluated) (vs : List Value) → is_in x (answer (body.List vs)) ≡ is_among x vs
in_list x vs = search (rules, values.the_lemmas)

in_elements : (x e : Evaluated) (o : Option (List Value)) (vs : List Value)
    → e ≡ option_map_or (is_among x) o Missing → o ≡ Some vs
    → is_true (truth_in e) ≡ true → Element x vs
in_elements x e None vs is at t = cc
in_elements x e (Some us) vs is at t =
    let same : us ≡ vs = cc at in
    subst (Element x) same (among_true x us (ap (λ y. is_true (truth_in y)) (sym is) ∙ t))

side_elements : (c : List Bound) (x : Evaluated) (list : Side) (f : Evaluated) (vs : List Value) → Is c list f
    → elements_in list ≡ Some vs → is_true (truth_in (is_in x f)) ≡ true → Element x vs
side_elements c x (constants us) f vs is at t =
    let same : us ≡ vs = cc at in
    subst (Element x) same (among_true x us (ap (λ y. is_true (truth_in y)) (sym (in_list x us))
    ∙ ap (λ g. is_true (truth_in (is_in x g))) (sym is) ∙ t))
side_elements c x (constant v) f vs is at t =
    in_elements x (is_in x (Found v)) (list_seen (seen v)) vs refl at
    (ap (λ g. is_true (truth_in (is_in x g))) (sym is) ∙ t)
side_elements c x missing f vs is at t = cc
side_elements c x (names first fields) f vs is at t = cc
side_elements c x other f vs is at t = cc

elements_told : (c : List Bound) (m : Meant) (x : Evaluated) (o : Option (List Value)) → MeantIs c m x
    → ((vs : List Value) → o ≡ Some vs → Element x vs) → AllByRecursion (Told c) (asked_elements m o)
elements_told c m x None means each = tt
elements_told c m x (Some vs) means each =
    let el = each vs refl in
    let b = equal_both x (Found el.0) el.2 in
    let same : b.1 ≡ el.0 = found_value b.1 el.0 (sym b.3) in (
      (
        b.0,
        el.0,
        subst (MeantIs c m) b.2 means,
        el.1,
        subst (Matches b.0) same (matches b.0 b.1 b.4),
      ),
      tt,
    )

among_told : (c : List Bound) (sources : List Source) (l r : Side) (e f : Evaluated)
    → map called_in_row c ≡ map called sources → Is c l e → Is c r f
    → is_true (truth_in (is_in e f)) ≡ true → AllByRecursion (Told c) (asked_among sources l r)
among_told c sources (names first fields) r e f same left right t =
    elements_told c (meant sources first fields) e (elements_in r) (names_mean c sources first fields e same left)
    (λ vs at. side_elements c e r f vs right at t)
among_told c sources (constant v) r e f same left right t = tt
among_told c sources missing r e f same left right t = tt
among_told c sources (constants values) r e f same left right t = tt
among_told c sources other r e f same left right t = tt

part_told : (c : List Bound) (sources : List Source) (p : Part) → map called_in_row c ≡ map called sources → Holds c p
    → AllByRecursion (Told c) (asked_by sources p)
part_told c sources (equation l r) same h = equal_told c sources l r h.0 h.1 same h.2 h.3 h.4
part_told c sources (among l r) same h = among_told c sources l r h.0 h.1 same h.2 h.3 h.4

pub all_told : (c : List Bound) (sources : List Source) (parts : List Part) → map called_in_row c ≡ map called sources
    → AllByRecursion (Holds c) parts → AllByRecursion (Told c) (all_asked sources parts)
all_told c sources [] same h = tt
all_told c sources (p ∷ parts) same h =
    all_joined (Told c) (asked_by sources p) (all_asked sources parts) (part_told c sources p same h.0)
    (all_told c sources parts same h.1)

-- ---- the row at a place

found_is : (o : Option Value) (w : Value) → Found w ≡ found o → o ≡ Some w
found_is None w h = cc h
found_is (Some v) w h = cc

text_has_key : (t : List ℕ) → key_of (made (body.String t)) ≡ Some (key.Text t)
text_has_key t = search (rules, values.the_lemmas)

-- in a field of a field
found_in : (f g : List ℕ) (o : Option Value) (w : Value) → Found w ≡ onward (λ v. found (field_of g v)) (found o)
    → option_and_then (field_of g) o ≡ Some w
found_in f g None w h = cc
found_in f g (Some v) w h = found_is (field_of g v) w h

own_text : (id : List ℕ) (v : Value) (o : Option (List ℕ)) → text_of v ≡ o
    → option_map_or (λ t. bytes_eq t id) o false ≡ true → key_of v ≡ Some (key.Text id)
own_text id v None e h = absurd (false≢true h)
own_text id v (Some t) e h = text_key v t e ∙ ap (λ x. Some (key.Text x)) ((bytes_eq-Decides t id).0 h)

-- the document that a value with the key of an id names
pub document_by_key : (v : Value) (raw : ℕ) → raw < 2 ^ 128 → key_of v ≡ Some (key.Text (id_text raw))
    → document_in v ≡ Some (record { raw = raw })
document_by_key v raw fits e =
    ap (λ o. option_map (λ r. record { raw = r }) (option_and_then id_in o)) (text_by_key v (id_text raw) e)
    ∙ ap (option_map (λ r. record { raw = r })) (id_in-text raw fits)

module _ (c : List Bound) (n : ℕ) (s : Source) (row : Row) (here : slice_get c n ≡ Some (bound_row s row)) where
  value_at : (place : ℕ) → place ≡ n → meant_in c (Variable place) ≡ Found row.value
  value_at place same = ap (λ p. meant_in c (Variable p)) same
      ∙ ap (λ o. option_map_or (meant_by (Variable n)) o Missing) here

  -- ---- the id of its document

  own_if_shown : (kind : SourceKind) → shows_metadata kind ≡ true → is_known kind row ≡ true → shows_own_id row ≡ true
  own_if_shown kind shown known = sym (ap (λ b. if b then shows_own_id row else true) shown)
      ∙ (and_parts (nat_lt row.id.raw (2 ^ 128)) _ known).1

  pub fits_if_known : (kind : SourceKind) → is_known kind row ≡ true → row.id.raw < 2 ^ 128
  fits_if_known kind known =
      ltb-true row.id.raw (2 ^ 128) (and_parts (nat_lt row.id.raw (2 ^ 128))
      (if shows_metadata kind then shows_own_id row else true) known).0

  metadata_key : (place : ℕ) (fields : List (List ℕ)) (w : Value) → place ≡ n → is_metadata_id fields ≡ true
      → shows_own_id row ≡ true → MeantIs c (at_names place fields) (Found w)
      → key_of w ≡ Some (key.Text (id_text row.id.raw))
  metadata_key place [] w same is own means = absurd (false≢true is)
  metadata_key place (f ∷ []) w same is own means = absurd (false≢true is)
  metadata_key place (f ∷ g ∷ x ∷ xs) w same is own means = absurd (false≢true is)
  metadata_key place (f ∷ g ∷ []) w same is own means =
      let parts = and_parts (bytes_eq f (codes "metadata")) (bytes_eq g (codes "id")) is in
      let first : f ≡ codes "metadata" = (bytes_eq-Decides f (codes "metadata")).0 parts.0 in
      let second : g ≡ codes "id" = (bytes_eq-Decides g (codes "id")).0 parts.1 in
      let shown : option_and_then (field_of g) (field_of f row.value) ≡ Some w =
      found_in f g (field_of f row.value) w
      (means ∙ ap (λ e. onward (λ x. found (field_of g x)) (onward (λ x. found (field_of f x)) e))
      (value_at place same)) in
      let there : option_and_then (field_of (codes "id")) (field_of (codes "metadata") row.value) ≡ Some w =
      ap (λ x. option_and_then (field_of x) (field_of (codes "metadata") row.value)) (sym second)
      ∙ ap (λ x. option_and_then (field_of g) (field_of x row.value)) (sym first) ∙ shown in
      let told_id : option_map_or (λ t. bytes_eq t (id_text row.id.raw)) (text_of w) false ≡ true =
      sym (ap (λ o. option_map_or (λ t. bytes_eq t (id_text row.id.raw)) (option_and_then text_of o) false) there)
      ∙ own in
      own_text (id_text row.id.raw) w (text_of w) refl told_id

  pub id_key : (kind : SourceKind) (m : Meant) (w : Value) → is_known kind row ≡ true → is_id n kind m ≡ true
      → MeantIs c m (Found w) → key_of w ≡ Some (key.Text (id_text row.id.raw))
  id_key kind (id_of place) w known is means =
      let at : meant_in c (Id place) ≡ Found (made (body.String (id_text row.id.raw))) =
      ap (λ p. meant_in c (Id p)) (eqb-true place n is) ∙ ap (λ o. option_map_or (meant_by (Id n)) o Missing) here in
      ap key_of (found_value w _ (means ∙ at)) ∙ text_has_key (id_text row.id.raw)
  id_key kind (at_names place fields) w known is means =
      let all = and_parts ((place == n) && shows_metadata kind) (is_metadata_id fields) is in
      let two = and_parts (place == n) (shows_metadata kind) all.0 in
      metadata_key place fields w (eqb-true place n two.0) all.1 (own_if_shown kind two.1 known) means
  id_key kind unknown w known is means = absurd (false≢true is)

  -- ---- fields of the document that it shows

  abbrev Shown : SourceKind → List ℕ → Value → Type 0
  Shown kind f w = field_of f (content_shown kind row.value) ≡ Some w

  alone_shown : (kind : SourceKind) (place : ℕ) (fields : List (List ℕ)) (f : List ℕ) (w : Value)
      → shows_metadata kind ≡ false → place ≡ n → field_alone fields ≡ Some f
      → MeantIs c (at_names place fields) (Found w) → Shown kind f w
  alone_shown kind place [] f w plain same is means = cc
  alone_shown kind place (x ∷ y ∷ fs) f w plain same is means = cc
  alone_shown kind place (x ∷ []) f w plain same is means =
      let name : x ≡ f = cc is in
      let at : Found w ≡ found (field_of x row.value) = means
      ∙ ap (λ e. onward (λ y. found (field_of x y)) e) (value_at place same) in
      ap (λ b. field_of f (if b then data_in row.value else row.value)) plain
      ∙ ap (λ y. field_of y row.value) (sym name) ∙ found_is (field_of x row.value) w at

  data_is : (f : List ℕ) (o : Option Value) (w : Value) → option_and_then (field_of f) o ≡ Some w
      → field_of f (or_null o) ≡ Some w
  data_is f None w h = cc
  data_is f (Some v) w h = h

  under_data : (kind : SourceKind) (place : ℕ) (x g f : List ℕ) (w : Value) (b : Bool)
      → bytes_eq x (codes "data") ≡ b → shows_metadata kind ≡ true → place ≡ n
      → (if b then Some g else None) ≡ Some f
      → MeantIs c (at_names place (x ∷ g ∷ [])) (Found w) → Shown kind f w
  under_data kind place x g f w false e shown same is means = cc
  under_data kind place x g f w true e shown same is means =
      let name : g ≡ f = cc is in
      let first : x ≡ codes "data" = (bytes_eq-Decides x (codes "data")).0 e in
      let there : option_and_then (field_of g) (field_of x row.value) ≡ Some w =
      found_in x g (field_of x row.value) w
      (means ∙ ap (λ e. onward (λ y. found (field_of g y)) (onward (λ y. found (field_of x y)) e))
      (value_at place same)) in
      let content : option_and_then (field_of f) (field_of (codes "data") row.value) ≡ Some w =
      ap (λ y. option_and_then (field_of f) (field_of y row.value)) (sym first)
      ∙ ap (λ y. option_and_then (field_of y) (field_of x row.value)) (sym name) ∙ there in
      ap (λ b. field_of f (if b then data_in row.value else row.value)) shown
      ∙ data_is f (field_of (codes "data") row.value) w content

  data_shown : (kind : SourceKind) (place : ℕ) (fields : List (List ℕ)) (f : List ℕ) (w : Value)
      → shows_metadata kind ≡ true → place ≡ n → field_of_data fields ≡ Some f
      → MeantIs c (at_names place fields) (Found w) → Shown kind f w
  data_shown kind place [] f w shown same is means = cc
  data_shown kind place (x ∷ []) f w shown same is means = cc
  data_shown kind place (x ∷ g ∷ y ∷ fs) f w shown same is means = cc
  data_shown kind place (x ∷ g ∷ []) f w shown same is means =
      under_data kind place x g f w (bytes_eq x (codes "data")) refl shown same is means

  of_name : (name : List ℕ) (place : ℕ) (fields : List (List ℕ)) (f : List ℕ) (w : Value) (b : Bool)
      → is_committed name ≡ b → place ≡ n → (if b then field_of_data fields else field_alone fields) ≡ Some f
      → MeantIs c (at_names place fields) (Found w) → Shown (source.Table name) f w
  of_name name place fields f w true e same is means = data_shown (source.Table name) place fields f w e same is means
  of_name name place fields f w false e same is means = alone_shown (source.Table name) place fields f w e same is means

  pub reached_shown : (kind : SourceKind) (place : ℕ) (fields : List (List ℕ)) (f : List ℕ) (w : Value) → place ≡ n
      → field_reached kind fields ≡ Some f → MeantIs c (at_names place fields) (Found w) → Shown kind f w
  reached_shown (source.Table name) place fields f w same is means =
      of_name name place fields f w (is_committed name) refl same is means
  reached_shown (source.History name start end) place fields f w same is means = cc
  reached_shown (source.Path path) place fields f w same is means = cc

  at_shown : (kind : SourceKind) (place : ℕ) (fields : List (List ℕ)) (f : List ℕ) (w : Value) (b : Bool)
      → (place == n) ≡ b → (if b then field_reached kind fields else None) ≡ Some f
      → MeantIs c (at_names place fields) (Found w) → Shown kind f w
  at_shown kind place fields f w true e is means = reached_shown kind place fields f w (eqb-true place n e) is means
  at_shown kind place fields f w false e is means = cc

  pub field_shown : (kind : SourceKind) (m : Meant) (f : List ℕ) (w : Value) → field_at n kind m ≡ Some f
      → MeantIs c m (Found w) → Shown kind f w
  field_shown kind (id_of place) f w is means = cc
  field_shown kind unknown f w is means = cc
  field_shown kind (at_names place fields) f w is means =
      at_shown kind place fields f w (place == n) refl is means
