-- The row at a place meets what the rules choose for its source.
use Rattle.std.proofs.Common.{◌≡◌, ◌∙◌, ℕ, Bool, true, false, ◌==◌, ◌&&◌, List, [], ◌∷◌, refl, sym, ap, subst, slice_get, Option, Some, None, option_map}
use Rattle.std.specs.Prelude.{option_and_then, if◌then◌else◌}
use Rattle.std.specs.List.{AllByRecursion, filter_map}
use Rattle.std.specs.Option.{option_map_or}
use Rattle.std.proofs.lemmas.Bool.{and_from, and_parts, eq-eqb, eqb-true, not-true, or_left}
use Rattle.ion_order.specs.Key.{key_of}
use Rattle.ion_values.specs.KeyOrder.{equal_keys_are_one}
use Rattle.ion_values.specs.Keys.{is_same_key}
use Rattle.ion_values.specs.declared.value.Key.{Key}
use Rattle.ion_values.specs.declared.value.Value.{Value}
use Rattle.ql_types.specs.declared.DocId.{DocId}
use Rattle.pql_model.specs.declared.scope.Evaluated.TheVariants.{Found}
use Rattle.pql_model.specs.declared.statement.Source.{Source}
use Rattle.pql_model.specs.declared.tables.Row.{Row}
use Rattle.pql_model.specs.Comparisons.{is_container}
use Rattle.pql_model.specs.From.{Combined, bound_row}
use Rattle.pql_model.specs.Steps.{field_of}
use Rattle.pql_model.specs.Tables.{key_in}
use Rattle.ledger_model.specs.declared.outcome.Item.{Item}
use Rattle.ledger_model.specs.declared.outcome.Item.TheVariants as item
use Rattle.ledger_model.specs.Conditions.{Asked, Meant, Wanted, equal_to, one_of, same_as}
use Rattle.ledger_model.specs.Follows.{has_index}
use Rattle.ledger_model.specs.Footprints.{Schemas, Spot, are_few, are_plain, by_id, by_key, choices, document_equal, document_in, document_one_of, document_same, documents_of, each_once, field_at, first_of, if_few, if_indexed, is_id, items_of, key_equal, key_one_of, key_same, keys_of, plain_keys, same_document, values_meant}
use Rattle.ledger_model.specs.Meets.{content_shown, document_shown, meets, shows_one}
use Rattle.laws_footprint.specs.Covered.{is_known}
use Rattle.laws_footprint.specs.Restriction.{Among}
use Rattle.laws_footprint.proofs.Asked.{IsWanted, MeantIs, Told, document_by_key, field_shown, fits_if_known, id_key}
use Rattle.pql_model.proofs.Equality.{Matches, key_found, key_matches, plain_matches, turned}
use Rattle.laws_footprint.proofs.Listed.{all_found, among_found, any_among, any_map, any_once, first_holds, none_of}
use Rattle.laws_footprint.proofs.Rows.{all_joined}

module _ (c : Combined) (at : Spot) (s : Source) (row : Row) (here : slice_get c at.place ≡ Some (bound_row s row))
    (known : is_known at.kind row ≡ true)
    (reached : (m : Meant) (values : List Value) (v : Value) → values_meant at.earlier m ≡ Some values
    → MeantIs c m (Found v) → Among values v) where
  abbrev Shows : Option (List Item) → Type 0
  Shows None = Unit {0}
  Shows (Some items) = shows_one at.kind at.table items row ≡ true

  -- the row's own id, and the document that it shows
  abbrev own : DocId
  own = record { raw = row.id.raw }

  abbrev met : Item → Bool
  met i = meets at.table i (document_shown at.kind row)

  abbrev IsShown : List ℕ → Value → Type 0
  IsShown f w = field_of f (content_shown at.kind row.value) ≡ Some w

  if_shown : (b : Bool) (items : List Item) → (b ≡ true → shows_one at.kind at.table items row ≡ true)
      → Shows (if b then Some items else None)
  if_shown true items h = h refl
  if_shown false items h = tt

  -- ---- documents

  met_document : (d : DocId) → row.id.raw ≡ d.raw → met (item.Doc at.table d) ≡ true
  met_document d h =
      and_from (at.table.raw == at.table.raw) (row.id.raw == d.raw) (eq-eqb at.table.raw at.table.raw refl)
      (eq-eqb row.id.raw d.raw h)

  same_documents : (x y : DocId) → same_document x y ≡ true → met (item.Doc at.table x) ≡ true
      → met (item.Doc at.table y) ≡ true
  same_documents x y same h =
      let parts = and_parts (at.table.raw == at.table.raw) (row.id.raw == x.raw) h in
      met_document y (eqb-true row.id.raw x.raw parts.1 ∙ eqb-true x.raw y.raw same)

  documents_shown : (values : List Value) (v : Value) → Among values v → document_in v ≡ Some own
      → shows_one at.kind at.table (documents_of at.table values) row ≡ true
  documents_shown values v among is =
      any_map met (item.Doc at.table) (each_once same_document (filter_map document_in values))
      ∙ any_once same_document (λ d. met (item.Doc at.table d)) same_documents (filter_map document_in values)
      (any_among (λ d. met (item.Doc at.table d)) (filter_map document_in values) own
      (among_found document_in values v own among is) (met_document own refl))

  equal_document : (x : Wanted) (v : Value) → IsWanted c x v → document_in v ≡ Some own
      → Shows (document_equal at.table x)
  equal_document (equal_to y) v want is =
      subst (λ o. Shows (option_map (λ id. item.Doc at.table id ∷ []) o)) (sym is ∙ ap document_in want)
      (or_left (met (item.Doc at.table own)) false (met_document own refl))
  equal_document (one_of values) v want is = tt
  equal_document (same_as m) v want is = tt

  listed_document : (x : Wanted) (v : Value) → IsWanted c x v → document_in v ≡ Some own
      → Shows (document_one_of at.table x)
  listed_document (equal_to y) v want is = tt
  listed_document (one_of values) v want is =
      if_shown (are_few values) (documents_of at.table values) (λ few. documents_shown values v want is)
  listed_document (same_as m) v want is = tt

  among_documents : (m : Meant) (v : Value) (o : Option (List Value)) → values_meant at.earlier m ≡ o
      → MeantIs c m (Found v) → document_in v ≡ Some own
      → Shows (option_and_then (λ values. if_few (documents_of at.table values)) o)
  among_documents m v None are means is = tt
  among_documents m v (Some values) are means is =
      if_shown (are_few (documents_of at.table values)) (documents_of at.table values)
      (λ few. documents_shown values v (reached m values v are means) is)

  joined_document : (x : Wanted) (v : Value) → IsWanted c x v → document_in v ≡ Some own
      → Shows (document_same at.table at.earlier x)
  joined_document (equal_to y) v want is = tt
  joined_document (one_of values) v want is = tt
  joined_document (same_as m) v want is = among_documents m v (values_meant at.earlier m) refl want is

  -- a rule on the row's id
  on_id : (rule : Wanted → Option (List Item))
      → ((x : Wanted) (v : Value) → IsWanted c x v → document_in v ≡ Some own → Shows (rule x)) → (a : Asked)
      → Told c a → (b : Bool) → is_id at.place at.kind a.of ≡ b → Shows (if b then rule a.wanted else None)
  on_id rule shows a told true e =
      shows a.wanted told.1 told.3
      (document_by_key told.1 row.id.raw (fits_if_known c at.place s row here at.kind known)
      (key_matches told.0 told.1 _ told.4 (id_key c at.place s row here at.kind a.of told.0 known e told.2)))
  on_id rule shows a told false e = tt

  -- ---- keys

  met_key : (f : List ℕ) (k : Key) (w : Value) → IsShown f w → key_of w ≡ Some k
      → met (item.IndexValue at.table f k) ≡ true
  met_key f k w is e =
      and_from (at.table.raw == at.table.raw) _ (eq-eqb at.table.raw at.table.raw refl)
      (key_found k (key_in (field_of f (content_shown at.kind row.value))) (ap key_in is ∙ e))

  same_keys : (f : List ℕ) (x y : Key) → is_same_key x y ≡ true → met (item.IndexValue at.table f x) ≡ true
      → met (item.IndexValue at.table f y) ≡ true
  same_keys f x y same h =
      subst (λ k. met (item.IndexValue at.table f k) ≡ true) ((equal_keys_are_one x y).0 same) h

  keys_shown : (f : List ℕ) (values : List Value) (v w : Value) (k : Key) → Among values v → key_of v ≡ Some k
      → IsShown f w → key_of w ≡ Some k → shows_one at.kind at.table (keys_of at.table f values) row ≡ true
  keys_shown f values v w k among has is e =
      any_map met (item.IndexValue at.table f) (each_once is_same_key (filter_map key_of values))
      ∙ any_once is_same_key (λ x. met (item.IndexValue at.table f x)) (same_keys f) (filter_map key_of values)
      (any_among (λ x. met (item.IndexValue at.table f x)) (filter_map key_of values) k
      (among_found key_of values v k among has) (met_key f k w is e))

  -- where no value is a container
  plain_shown : (f : List ℕ) (values : List Value) (v w : Value) → Among values v → Matches w v → IsShown f w
      → are_plain values ≡ true → shows_one at.kind at.table (keys_of at.table f values) row ≡ true
  plain_shown f values v w among match is plain =
      let k = plain_matches w v match (none_of is_container values v among (not-true _ plain)) in
      keys_shown f values v w k.0 among k.2 is k.1

  key_option : (f : List ℕ) (o : Option Key) → ((k : Key) → o ≡ Some k → met (item.IndexValue at.table f k) ≡ true)
      → Shows (option_map (λ k. item.IndexValue at.table f k ∷ []) o)
  key_option f None each = tt
  key_option f (Some k) each = or_left (met (item.IndexValue at.table f k)) false (each k refl)

  equal_key : (f : List ℕ) (x : Wanted) (v w : Value) → IsWanted c x v → Matches w v → IsShown f w
      → Shows (key_equal at.table f x)
  equal_key f (equal_to y) v w want match is =
      key_option f (key_of y) (λ k e.
      met_key f k w is (key_matches v w k (turned w v match) (ap key_of want ∙ e)))
  equal_key f (one_of values) v w want match is = tt
  equal_key f (same_as m) v w want match is = tt

  listed_key : (f : List ℕ) (x : Wanted) (v w : Value) → IsWanted c x v → Matches w v → IsShown f w
      → Shows (key_one_of at.table f x)
  listed_key f (equal_to y) v w want match is = tt
  listed_key f (one_of values) v w want match is =
      if_shown (are_few values && are_plain values) (keys_of at.table f values) (λ both.
      plain_shown f values v w want match is (and_parts (are_few values) (are_plain values) both).1)
  listed_key f (same_as m) v w want match is = tt

  plain_by : (f : List ℕ) (values : List Value) (v w : Value) (b : Bool) → are_plain values ≡ b → Among values v
      → Matches w v → IsShown f w → Shows (if b then if_few (keys_of at.table f values) else None)
  plain_by f values v w true e among match is =
      if_shown (are_few (keys_of at.table f values)) (keys_of at.table f values)
      (λ few. plain_shown f values v w among match is e)
  plain_by f values v w false e among match is = tt

  among_keys : (f : List ℕ) (m : Meant) (v w : Value) (o : Option (List Value)) → values_meant at.earlier m ≡ o
      → MeantIs c m (Found v) → Matches w v → IsShown f w → Shows (option_and_then (plain_keys at.table f) o)
  among_keys f m v w None are means match is = tt
  among_keys f m v w (Some values) are means match is =
      plain_by f values v w (are_plain values) refl (reached m values v are means) match is

  joined_key : (f : List ℕ) (x : Wanted) (v w : Value) → IsWanted c x v → Matches w v → IsShown f w
      → Shows (key_same at.table f at.earlier x)
  joined_key f (equal_to y) v w want match is = tt
  joined_key f (one_of values) v w want match is = tt
  joined_key f (same_as m) v w want match is =
      among_keys f m v w (values_meant at.earlier m) refl want match is

  module _ (now : Schemas) where
    -- a rule on a field of the row
    on_index : (rule : List ℕ → Wanted → Option (List Item))
        → ((f : List ℕ) (x : Wanted) (v w : Value) → IsWanted c x v → Matches w v → IsShown f w → Shows (rule f x))
        → (f : List ℕ) (a : Asked) → Told c a → field_at at.place at.kind a.of ≡ Some f → (b : Bool)
        → Shows (if b then rule f a.wanted else None)
    on_index rule shows f a told e true =
        shows f a.wanted told.1 told.0 told.3 told.4
        (field_shown c at.place s row here at.kind a.of f told.0 e told.2)
    on_index rule shows f a told e false = tt

    on_key : (rule : List ℕ → Wanted → Option (List Item))
        → ((f : List ℕ) (x : Wanted) (v w : Value) → IsWanted c x v → Matches w v → IsShown f w → Shows (rule f x))
        → (a : Asked) → Told c a → (o : Option (List ℕ)) → field_at at.place at.kind a.of ≡ o
        → Shows (if_indexed rule now at.table a.wanted o)
    on_key rule shows a told None e = tt
    on_key rule shows a told (Some f) e = on_index rule shows f a told e (has_index now.indexes at.table f)

    -- ---- what is chosen

    abbrev IsMet : List Item → Type 0
    IsMet items = shows_one at.kind at.table items row ≡ true

    shown_is : (o : Option (List Item)) (items : List Item) → Shows o → o ≡ Some items → IsMet items
    shown_is None items h e = cc
    shown_is (Some found) items h e = let same : found ≡ items = cc e in subst IsMet same h

    all_by_id : (rule : Wanted → Option (List Item))
        → ((x : Wanted) (v : Value) → IsWanted c x v → document_in v ≡ Some own → Shows (rule x))
        → (asked : List Asked) → AllByRecursion (Told c) asked → AllByRecursion IsMet (filter_map (by_id rule at) asked)
    all_by_id rule shows asked told =
        all_found (Told c) IsMet (by_id rule at) asked told (λ a t items e.
        shown_is (by_id rule at a) items (on_id rule shows a t (is_id at.place at.kind a.of) refl) e)

    all_by_key : (rule : List ℕ → Wanted → Option (List Item))
        → ((f : List ℕ) (x : Wanted) (v w : Value) → IsWanted c x v → Matches w v → IsShown f w → Shows (rule f x))
        → (asked : List Asked) → AllByRecursion (Told c) asked
        → AllByRecursion IsMet (filter_map (by_key rule now at) asked)
    all_by_key rule shows asked told =
        all_found (Told c) IsMet (by_key rule now at) asked told (λ a t items e.
        shown_is (by_key rule now at a) items (on_key rule shows a t (field_at at.place at.kind a.of) refl) e)

    all_chosen : (asked : List Asked) → AllByRecursion (Told c) asked → AllByRecursion IsMet (choices now at asked)
    all_chosen asked told =
        all_joined IsMet _ (filter_map (by_key (λ field. key_same at.table field at.earlier) now at) asked)
        (all_joined IsMet _ (filter_map (by_key (key_one_of at.table) now at) asked)
        (all_joined IsMet _ (filter_map (by_key (key_equal at.table) now at) asked)
        (all_joined IsMet _ (filter_map (by_id (document_same at.table at.earlier) at) asked)
        (all_joined IsMet (filter_map (by_id (document_equal at.table) at) asked)
        (filter_map (by_id (document_one_of at.table) at) asked)
        (all_by_id (document_equal at.table) equal_document asked told)
        (all_by_id (document_one_of at.table) listed_document asked told))
        (all_by_id (document_same at.table at.earlier) joined_document asked told))
        (all_by_key (key_equal at.table) equal_key asked told))
        (all_by_key (key_one_of at.table) listed_key asked told))
        (all_by_key (λ field. key_same at.table field at.earlier) joined_key asked told)

    first_shown : (asked : List Asked) (o : Option (List Item)) → first_of (choices now at asked) ≡ o
        → AllByRecursion IsMet (choices now at asked)
        → IsMet (option_map_or (λ items. items) o (item.Table at.table ∷ []))
    first_shown asked None e all =
        or_left (met (item.Table at.table)) false (eq-eqb at.table.raw at.table.raw refl)
    first_shown asked (Some items) e all = first_holds IsMet (choices now at asked) items all e

    pub items_shown : (asked : List Asked) → AllByRecursion (Told c) asked
        → shows_one at.kind at.table (items_of now at asked) row ≡ true
    items_shown asked told = first_shown asked (first_of (choices now at asked)) refl (all_chosen asked told)
