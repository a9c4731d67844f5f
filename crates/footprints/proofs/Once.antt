-- Lists of which each member stands once: they only grow, and are no longer than what they are made of.
use Rattle.std.proofs.Common.{◌≡◌, ◌∙◌, ℕ, ◌+◌, ◌<◌, ◌≤◌, Bool, true, false, List, [], ◌∷◌, ◌++◌, length, get_or, drop, map, Option, Some, None, refl, sym, ap, arith, length-append}
use Rattle.std.specs.Prelude.{nat_le, nat_lt, ◌&&◌, option_map, if◌then◌else◌}
use Rattle.std.specs.Borrow.{Bor}
use Rattle.std.specs.List.{cons_option, filter_map, list_any}
use Rattle.std.proofs.lemmas.List.{drop_all, drop_more, length-map}
use Rattle.std.proofs.lemmas.Bool.{le-leb, lt-leb, ltb-false, ltb-true}
use Rattle.ion_order.specs.Key.{key_of}
use Rattle.ion_values.specs.declared.value.Value.{Value}
use Rattle.ion_values.specs.Keys.{is_same_key}
use Rattle.ql_types.specs.declared.TableId.{TableId}
use Rattle.ledger_model.specs.declared.outcome.Item.{Item}
use Rattle.ledger_model.specs.declared.outcome.Item.TheVariants as item
use Rattle.ledger_model.specs.Conditions.{one_of}
use Rattle.ledger_model.specs.Footprints.{are_few, are_plain, document_in, document_one_of, documents_of, each_once, each_once_behind, if_few, key_one_of, keys_of, plain_keys, same_document, with_one}
use Rattle.footprints.specs.Lent.{few_of, values_lent}

-- ---- how long they are

with_by : {A : Type 0} (b : Bool) (all : List A) (x : A)
    → (length all ≤ length (if b then all else all ++ x ∷ [])) × (length (if b then all else all ++ x ∷ []) ≤ length all + 1)
with_by true all x = (omega arith, omega arith)
with_by false all x =
    let one : length (all ++ x ∷ []) ≡ length all + 1 = length-append all (x ∷ []) in
    (omega (arith, one), omega (arith, one))

pub grows : {A : Type 0} (same : A → A → Bool) (all xs : List A) → length all ≤ length (each_once_behind same all xs)
grows same all [] = omega arith
grows same all (x ∷ xs) = omega (arith, (with_by (list_any (same x) all) all x).0, grows same (with_one same all x) xs)

is_bounded : {A : Type 0} (same : A → A → Bool) (all xs : List A) → length (each_once_behind same all xs) ≤ length all + length xs
is_bounded same all [] = omega arith
is_bounded same all (x ∷ xs) = omega (arith, (with_by (list_any (same x) all) all x).1, is_bounded same (with_one same all x) xs)

cons_length : {A : Type 0} (o : Option A) (xs : List A) → length (cons_option o xs) ≤ length xs + 1
cons_length None xs = omega arith
cons_length (Some x) xs = omega arith

found_length : {A V : Type 0} (of : V → Option A) (vs : List V) → length (filter_map of vs) ≤ length vs
found_length of [] = omega arith
found_length of (v ∷ vs) = omega (arith, cons_length (of v) (filter_map of vs), found_length of vs)

-- of few values there are few
once_length : {A V : Type 0} (same : A → A → Bool) (of : V → Option A) (vs : List V)
    → length (each_once same (filter_map of vs)) ≤ length vs
once_length same of vs = omega (arith, is_bounded same [] (filter_map of vs), found_length of vs)

few_true : (n : ℕ) → n ≤ 100 → nat_le n 100 ≡ true
few_true n h = le-leb n 100 h

pub many : (n : ℕ) → 100 < n → nat_le n 100 ≡ false
many n h = lt-leb n 100 h

pub all_few : {A V : Type 0} (same : A → A → Bool) (of : V → Option A) (to : A → Item) (vs : List V) → length vs ≤ 100
    → if_few (map to (each_once same (filter_map of vs))) ≡ Some (map to (each_once same (filter_map of vs)))
all_few same of to vs h =
    let items : List Item = map to (each_once same (filter_map of vs)) in
    let within : length items ≤ 100 = omega (arith, length-map (each_once same (filter_map of vs)) to, once_length same of vs) in
    ap (λ (b : Bool). if b then Some items else None) (few_true (length items) within)

-- ---- the elements of a list

lent_length : (vs : List (Bor Value)) → length (values_lent vs) ≡ length vs
lent_length vs = length-map vs (λ (v : Bor Value). v.now)

lent_many : (vs : List (Bor Value)) → nat_lt 100 (length vs) ≡ true → are_few (values_lent vs) ≡ false
lent_many vs h = many (length (values_lent vs)) (omega (arith, ltb-true 100 (length vs) h, lent_length vs))

lent_few : (vs : List (Bor Value)) → nat_lt 100 (length vs) ≡ false → length (values_lent vs) ≤ 100
lent_few vs h = omega (arith, ltb-false 100 (length vs) h, lent_length vs)

pub no_documents_listed : (table : TableId) (vs : List (Bor Value)) → nat_lt 100 (length vs) ≡ true
    → None ≡ document_one_of table (one_of (values_lent vs))
no_documents_listed table vs h =
    sym (ap (λ (b : Bool). if b then Some (documents_of table (values_lent vs)) else None) (lent_many vs h))

pub documents_listed : (table : TableId) (vs : List (Bor Value)) (o : Option (List Item)) → nat_lt 100 (length vs) ≡ false
    → o ≡ if_few (documents_of table (values_lent vs)) → o ≡ document_one_of table (one_of (values_lent vs))
documents_listed table vs o h is =
    is ∙ all_few same_document document_in (item.Doc table) (values_lent vs) (lent_few vs h)
    ∙ sym (ap (λ (b : Bool). if b then Some (documents_of table (values_lent vs)) else None)
    (few_true (length (values_lent vs)) (lent_few vs h)))

pub no_keys_listed : (table : TableId) (field : List ℕ) (vs : List (Bor Value)) → nat_lt 100 (length vs) ≡ true
    → None ≡ key_one_of table field (one_of (values_lent vs))
no_keys_listed table field vs h =
    sym (ap (λ (b : Bool). if b && are_plain (values_lent vs) then Some (keys_of table field (values_lent vs)) else None) (lent_many vs h))

if_plain : (b : Bool) (o p : Option (List Item)) → o ≡ p → (if b then o else None) ≡ (if b then p else None)
if_plain true o p h = h
if_plain false o p h = refl

pub keys_listed : (table : TableId) (field : List ℕ) (vs : List (Bor Value)) (o : Option (List Item)) → nat_lt 100 (length vs) ≡ false
    → o ≡ plain_keys table field (values_lent vs) → o ≡ key_one_of table field (one_of (values_lent vs))
keys_listed table field vs o h is =
    let values : List Value = values_lent vs in
    let some : Option (List Item) = Some (keys_of table field values) in
    is
    ∙ if_plain (are_plain values) (if_few (keys_of table field values)) some
    (all_few is_same_key key_of (item.IndexValue table field) values (lent_few vs h))
    ∙ sym (ap (λ (b : Bool). if b && are_plain values then some else None) (few_true (length values) (lent_few vs h)))

-- ---- few, or none

pub few_is : {A : Type 0} (all whole : List A) → length all ≤ 100 → all ≡ whole → Some all ≡ few_of whole
few_is all whole h is =
    sym (ap (λ (b : Bool). if b then Some all else None) (few_true (length all) h)) ∙ ap few_of is

mapped_by : {A : Type 0} (to : A → Item) (whole : List A) (b : Bool)
    → option_map (map to) (if b then Some whole else None) ≡ (if b then Some (map to whole) else None)
mapped_by to whole true = refl
mapped_by to whole false = refl

few_mapped : {A : Type 0} (to : A → Item) (whole : List A) → option_map (map to) (few_of whole) ≡ if_few (map to whole)
few_mapped to whole =
    mapped_by to whole (are_few whole)
    ∙ ap (λ (n : ℕ). if nat_le n 100 then Some (map to whole) else None) (sym (length-map whole to))

pub mapped_none : {A : Type 0} (to : A → Item) (whole : List A) → None ≡ few_of whole → None ≡ if_few (map to whole)
mapped_none to whole is = ap (option_map (map to)) is ∙ few_mapped to whole

pub mapped_some : {A : Type 0} (to : A → Item) (whole all : List A) (items : List Item) → Some all ≡ few_of whole → items ≡ map to all
    → Some items ≡ if_few (map to whole)
mapped_some to whole all items is items_is =
    ap (λ (xs : List Item). Some xs) items_is ∙ ap (option_map (map to)) is ∙ few_mapped to whole

-- ---- value by value

module _ {A : Type 0} (same : A → A → Bool) (of : Value → Option A) where
  abbrev pub behind : List A → List (Bor Value) → List A
  behind all vs = each_once_behind same all (filter_map of (values_lent vs))

  at_value : (all : List A) (vs : List (Bor Value)) (i : ℕ) (v : Bor Value) → i < length vs → v ≡ get_or vs i v
      → behind all (drop i vs) ≡ each_once_behind same all (cons_option (of v.now) (filter_map of (values_lent (drop (i + 1) vs))))
  at_value all vs i v within is =
      ap (behind all) (drop_more vs i v within ∙ ap (λ (x : Bor Value). x ∷ drop (i + 1) vs) (sym is))

  pub none_next : (all : List A) (vs : List (Bor Value)) (i : ℕ) (v : Bor Value) (whole : List A) → i < length vs → v ≡ get_or vs i v
      → None ≡ of v.now → behind all (drop i vs) ≡ whole → behind all (drop (i + 1) vs) ≡ whole
  none_next all vs i v whole within is none so_far =
      sym (at_value all vs i v within is
      ∙ ap (λ (o : Option A). each_once_behind same all (cons_option o (filter_map of (values_lent (drop (i + 1) vs))))) (sym none))
      ∙ so_far

  one_next : (all new : List A) (vs : List (Bor Value)) (i : ℕ) (v : Bor Value) (x : A) (whole : List A) → i < length vs → v ≡ get_or vs i v
      → Some x ≡ of v.now → with_one same all x ≡ new → behind all (drop i vs) ≡ whole → behind new (drop (i + 1) vs) ≡ whole
  one_next all new vs i v x whole within is found new_is so_far =
      let rest : List A = filter_map of (values_lent (drop (i + 1) vs)) in
      sym (at_value all vs i v within is ∙ ap (λ (o : Option A). each_once_behind same all (cons_option o rest)) (sym found)
      ∙ ap (λ (xs : List A). each_once_behind same xs rest) new_is)
      ∙ so_far

  pub among_next : (all : List A) (vs : List (Bor Value)) (i : ℕ) (v : Bor Value) (x : A) (whole : List A) → i < length vs → v ≡ get_or vs i v
      → Some x ≡ of v.now → true ≡ list_any (same x) all → behind all (drop i vs) ≡ whole → behind all (drop (i + 1) vs) ≡ whole
  among_next all vs i v x whole within is found among so_far =
      one_next all all vs i v x whole within is found (ap (λ (b : Bool). if b then all else all ++ x ∷ []) (sym among)) so_far

  pub new_next : (all new : List A) (vs : List (Bor Value)) (i : ℕ) (v : Bor Value) (x : A) (whole : List A) → i < length vs → v ≡ get_or vs i v
      → Some x ≡ of v.now → false ≡ list_any (same x) all → new ≡ all ++ x ∷ [] → behind all (drop i vs) ≡ whole
      → behind new (drop (i + 1) vs) ≡ whole
  new_next all new vs i v x whole within is found other new_is so_far =
      one_next all new vs i v x whole within is found
      (ap (λ (b : Bool). if b then all else all ++ x ∷ []) (sym other) ∙ sym new_is) so_far

  -- one more than are read by key
  pub past_most : (all : List A) (vs : List (Bor Value)) (i : ℕ) (v : Bor Value) (x : A) (whole : List A) → i < length vs → v ≡ get_or vs i v
      → Some x ≡ of v.now → false ≡ list_any (same x) all → length all ≡ 100 → behind all (drop i vs) ≡ whole → None ≡ few_of whole
  past_most all vs i v x whole within is found other full so_far =
      let new : List A = all ++ x ∷ [] in
      let same_as : behind new (drop (i + 1) vs) ≡ whole = new_next all new vs i v x whole within is found other refl so_far in
      let longer : 100 < length whole =
      omega (arith, length-append all (x ∷ []), full, grows same new (filter_map of (values_lent (drop (i + 1) vs))), ap length same_as) in
      sym (ap (λ (b : Bool). if b then Some whole else None) (many (length whole) longer))

  pub all_passed : (all : List A) (vs : List (Bor Value)) (i : ℕ) (whole : List A) → length vs ≤ i → behind all (drop i vs) ≡ whole → all ≡ whole
  all_passed all vs i whole past so_far = sym (ap (behind all) (drop_all i vs past)) ∙ so_far
