-- The documents of one table under what pends.
use Rattle.std.proofs.Common.{◌≡◌, ℕ, zero, suc, ◌+◌, ◌<◌, ◌≤◌, ◌==◌, Bool, true, false, List, [], ◌∷◌, ◌++◌, length, get_or, take, drop, set, map, nat_lt, Bor, Option, Some, None, refl, sym, ◌∙◌, ap, ap₂, subst, arith}
use Rattle.std.specs.Prelude.{is_some, option_map, slice_get, if◌then◌else◌}
use Rattle.std.specs.List.{AllByRecursion, cons_option, filter, filter_map, insert}
use Rattle.std.proofs.lemmas.Bool.{eq-eqb, eqb-true, lt-ltb, ltb-true}
use Rattle.std.proofs.lemmas.List.{append-nil, length-map, map-append, take_more}
use Rattle.std.proofs.lemmas.List.Elements.{filter_map-append}
use Rattle.ql_types.specs.declared.TableId.{TableId}
use Rattle.pql_model.specs.declared.tables.Row.{Row}
use Rattle.ledger_model.specs.declared.block.Draft.{Draft}
use Rattle.ledger_model.specs.Views.{latest, latest_from, put, row_of}
use Rattle.versions.specs.Filing.{places_from}
use Rattle.versions.specs.Live.{is_live}
use Rattle.versions.specs.Places.{numbers_of, place_in}
use Rattle.versions.proofs.Filing.{members_at}
use Rattle.versions.proofs.Places.{place-within}
use Rattle.txn_core.proofs.Overlaid.{latest-more}
use Rattle.txn_core.specs.Layered.{AreAscending, AreSpots, IsLayered, KeepsLayers, OthersLack, below, is_place, marked}

abbrev places-of : ℕ → List Bool → List ℕ
places-of n marks = places_from (λ (b : Bool). b) n marks

-- ---- where nothing was put yet

start-places : (test : Draft → Bool) (n : ℕ) (ds : List Draft) → places_from test n ds ≡ places-of n (map test ds)
start-places test n [] = refl
start-places test n (d ∷ ds) = ap (λ (places : List ℕ). if test d then n ∷ places else places) (start-places test (suc n) ds)

marked-by : (b : Bool) (d : Draft) (xs ds : List Draft) (marks : List Bool) → xs ≡ marked marks ds → (if b then d ∷ xs else xs) ≡ marked (b ∷ marks) (d ∷ ds)
marked-by true d xs ds marks e = ap (λ (ys : List Draft). d ∷ ys) e
marked-by false d xs ds marks e = e

start-marked : (test : Draft → Bool) (ds : List Draft) → filter test ds ≡ marked (map test ds) ds
start-marked test [] = refl
start-marked test (d ∷ ds) = marked-by (test d) d (filter test ds) ds (map test ds) (start-marked test ds)

others-by : (b : Bool) (table : TableId) (d : Draft) (ds : List Draft) (marks : List Bool) → is_live table d ≡ b → OthersLack table marks ds
    → OthersLack table (b ∷ marks) (d ∷ ds)
others-by true table d ds marks e others = others
others-by false table d ds marks e others = (e, others)

start-others : (table : TableId) (ds : List Draft) → OthersLack table (map (is_live table) ds) ds
start-others table [] = tt
start-others table (d ∷ ds) = others-by (is_live table d) table d ds (map (is_live table) ds) refl (start-others table ds)

pub layered_start : (table : TableId) (documents : List Draft) (places : List ℕ) (seen new : List Draft)
    → places ≡ places_from (is_live table) 0 documents → seen ≡ filter_map (λ at. slice_get documents at) places → new ≡ []
    → IsLayered table documents places seen new documents
layered_start table documents places seen new places_is seen_is none = record {
  front = documents;
  marks = map (is_live table) documents;
  all_is = sym (append-nil documents) ∙ ap (λ (xs : List Draft). documents ++ xs) (sym none);
  numbers = refl;
  places_are = places_is ∙ start-places (is_live table) 0 documents;
  seen_are = seen_is ∙ ap (filter_map (λ at. slice_get documents at)) places_is ∙ members_at (is_live table) documents
      ∙ start-marked (is_live table) documents;
  others = start-others table documents;
}

-- ---- the places are in order

all-less : (n m : ℕ) (marks : List Bool) → n < m → AllByRecursion (λ k. n < k) (places-of m marks)
all-less n m [] h = tt
all-less n m (true ∷ marks) h = (h, all-less n (suc m) marks (omega (arith, h)))
all-less n m (false ∷ marks) h = all-less n (suc m) marks (omega (arith, h))

ascending : (n : ℕ) (marks : List Bool) → AreAscending (places-of n marks)
ascending n [] = tt
ascending n (true ∷ marks) = (all-less n (suc n) marks (omega arith), ascending (suc n) marks)
ascending n (false ∷ marks) = ascending (suc n) marks

same-length : (table : TableId) (n : ℕ) (marks : List Bool) (ds : List Draft) → OthersLack table marks ds
    → length (marked marks ds) ≡ length (places-of n marks)
same-length table n [] [] others = refl
same-length table n [] (d ∷ ds) others = absurd others
same-length table n (true ∷ marks) [] others = absurd others
same-length table n (false ∷ marks) [] others = absurd others
same-length table n (true ∷ marks) (d ∷ ds) others = ap (λ (k : ℕ). suc k) (same-length table (suc n) marks ds others)
same-length table n (false ∷ marks) (d ∷ ds) others = same-length table (suc n) marks ds others.1

pub spots : (table : TableId) (documents : List Draft) (places : List ℕ) (seen new all : List Draft) → IsLayered table documents places seen new all
    → AreSpots places seen
spots table documents places seen new all l = (
  subst AreAscending (sym l.places_are) (ascending 0 l.marks),
  ap length l.seen_are ∙ same-length table 0 l.marks l.front l.others ∙ ap length (sym l.places_are),
)

-- ---- a document that the version hasn't got

new-step : (b : Bool) (rest : Option ℕ) (d r : Draft) (xs ys : List Draft) → (rest ≡ None → put xs r ≡ ys)
    → (if b then Some 0 else option_map (λ k. k + 1) rest) ≡ None → (if b then r ∷ xs else d ∷ put xs r) ≡ d ∷ ys
new-step true rest d r xs ys ih e = cc
new-step false None d r xs ys ih e = ap (λ (zs : List Draft). d ∷ zs) (ih refl)
new-step false (Some k) d r xs ys ih e = cc

put-new : (front new : List Draft) (r : Draft) → place_in (numbers_of front) r.id.raw ≡ None → put (front ++ new) r ≡ front ++ put new r
put-new [] new r e = refl
put-new (d ∷ front) new r e =
    new-step (d.id.raw == r.id.raw) (place_in (numbers_of front) r.id.raw) d r (front ++ new) (front ++ put new r) (λ h. put-new front new r h) e

pub layered_new : (table : TableId) (documents : List Draft) (places : List ℕ) (seen new all : List Draft) (r : Draft)
    → place_in (numbers_of documents) r.id.raw ≡ None → IsLayered table documents places seen new all
    → IsLayered table documents places seen (put new r) (put all r)
layered_new table documents places seen new all r nowhere l = record {
  front = l.front;
  marks = l.marks;
  all_is = ap (λ (xs : List Draft). put xs r) l.all_is ∙ put-new l.front new r (ap (λ (ns : List ℕ). place_in ns r.id.raw) l.numbers ∙ nowhere);
  numbers = l.numbers;
  places_are = l.places_are;
  seen_are = l.seen_are;
  others = l.others;
}

-- ---- a document of the version

front-step : (b : Bool) (rest : Option ℕ) (d r : Draft) (front new : List Draft) (k : ℕ) → ((j : ℕ) → rest ≡ Some j → put (front ++ new) r ≡ set front j r ++ new)
    → (if b then Some 0 else option_map (λ j. j + 1) rest) ≡ Some k
    → (if b then r ∷ (front ++ new) else d ∷ put (front ++ new) r) ≡ set (d ∷ front) k r ++ new
front-step true rest d r front new k ih e = let z : k ≡ 0 = cc in rw z refl
front-step false None d r front new k ih e = cc
front-step false (Some j) d r front new k ih e =
    let z : j + 1 ≡ k = cc in
    let s : k ≡ suc j = omega arith in
    rw (s, ih j refl) refl

put-front : (front new : List Draft) (r : Draft) (k : ℕ) → place_in (numbers_of front) r.id.raw ≡ Some k → put (front ++ new) r ≡ set front k r ++ new
put-front [] new r k e = cc
put-front (d ∷ front) new r k e =
    front-step (d.id.raw == r.id.raw) (place_in (numbers_of front) r.id.raw) d r front new k (λ j h. put-front front new r j h) e

numbers-step : (b : Bool) (rest : Option ℕ) (d r : Draft) (front : List Draft) (k : ℕ) → (d.id.raw == r.id.raw) ≡ b
    → ((j : ℕ) → rest ≡ Some j → numbers_of (set front j r) ≡ numbers_of front)
    → (if b then Some 0 else option_map (λ j. j + 1) rest) ≡ Some k → numbers_of (set (d ∷ front) k r) ≡ numbers_of (d ∷ front)
numbers-step true rest d r front k same ih e =
    let z : k ≡ 0 = cc in
    let s : d.id.raw ≡ r.id.raw = eqb-true d.id.raw r.id.raw same in
    rw z (ap (λ (n : ℕ). n ∷ numbers_of front) (sym s))
numbers-step false None d r front k same ih e = cc
numbers-step false (Some j) d r front k same ih e =
    let z : j + 1 ≡ k = cc in
    let s : k ≡ suc j = omega arith in
    rw s (ap (λ (ns : List ℕ). d.id.raw ∷ ns) (ih j refl))

numbers-kept : (front : List Draft) (r : Draft) (k : ℕ) → place_in (numbers_of front) r.id.raw ≡ Some k → numbers_of (set front k r) ≡ numbers_of front
numbers-kept [] r k e = cc
numbers-kept (d ∷ front) r k e =
    numbers-step (d.id.raw == r.id.raw) (place_in (numbers_of front) r.id.raw) d r front k refl (λ j h. numbers-kept front r j h) e

-- ---- one that is seen

at-least : (n : ℕ) (marks : List Bool) (i p : ℕ) → slice_get (places-of n marks) i ≡ Some p → n ≤ p
at-least n [] i p e = cc
at-least n (true ∷ marks) zero p e = let s : n ≡ p = cc in omega (arith, s)
at-least n (true ∷ marks) (suc i) p e = let h : suc n ≤ p = at-least (suc n) marks i p e in omega (arith, h)
at-least n (false ∷ marks) i p e = let h : suc n ≤ p = at-least (suc n) marks i p e in omega (arith, h)

found-marked : (table : TableId) (n k i at : ℕ) (marks : List Bool) (ds : List Draft) (r : Draft) → at ≡ n + k → slice_get (places-of n marks) i ≡ Some at
    → OthersLack table marks ds → (marked marks (set ds k r) ≡ set (marked marks ds) i r) × OthersLack table marks (set ds k r)
found-marked table n k i at [] ds r is e others = cc
found-marked table n k i at (true ∷ marks) [] r is e others = absurd others
found-marked table n k i at (false ∷ marks) [] r is e others = absurd others
found-marked table n zero zero at (true ∷ marks) (d ∷ ds) r is e others = (refl, others)
found-marked table n (suc k) zero at (true ∷ marks) (d ∷ ds) r is e others = let s : n ≡ at = cc in absurd (omega (arith, s, is))
found-marked table n zero (suc i) at (true ∷ marks) (d ∷ ds) r is e others =
    let h : suc n ≤ at = at-least (suc n) marks i at e in absurd (omega (arith, h, is))
found-marked table n (suc k) (suc i) at (true ∷ marks) (d ∷ ds) r is e others =
    let rest = found-marked table (suc n) k i at marks ds r (omega (arith, is)) e others in
    (ap (λ (xs : List Draft). d ∷ xs) rest.0, rest.1)
found-marked table n zero i at (false ∷ marks) (d ∷ ds) r is e others =
    let h : suc n ≤ at = at-least (suc n) marks i at e in absurd (omega (arith, h, is))
found-marked table n (suc k) i at (false ∷ marks) (d ∷ ds) r is e others =
    let rest = found-marked table (suc n) k i at marks ds r (omega (arith, is)) e others.1 in
    (rest.0, (others.0, rest.1))

placed : (at : ℕ) (o : Option ℕ) → is_place at o ≡ true → o ≡ Some at
placed at None e = cc
placed at (Some p) e = ap (λ (n : ℕ). Some n) (eqb-true p at e)

pub keeps_found : (table : TableId) (at i : ℕ) (r : Draft) (places : List ℕ) (seen : List Draft) → is_place at (slice_get places i) ≡ true
    → KeepsLayers table at r places seen places (set seen i r)
keeps_found table at i r places seen there = λ documents new all place l.
    let mine : place_in (numbers_of l.front) r.id.raw ≡ Some at = ap (λ (ns : List ℕ). place_in ns r.id.raw) l.numbers ∙ place in
    let here : slice_get (places-of 0 l.marks) i ≡ Some at = ap (λ (ps : List ℕ). slice_get ps i) (sym l.places_are) ∙ placed at (slice_get places i) there in
    let both = found-marked table 0 at i at l.marks l.front r (omega arith) here l.others in
    record {
      front = set l.front at r;
      marks = l.marks;
      all_is = ap (λ (xs : List Draft). put xs r) l.all_is ∙ put-front l.front new r at mine;
      numbers = numbers-kept l.front r at mine ∙ l.numbers;
      places_are = l.places_are;
      seen_are = ap (λ (xs : List Draft). set xs i r) l.seen_are ∙ sym both.0;
      others = both.1;
    }

-- ---- one that isn't seen

not-by : (b : Bool) (n p : ℕ) → nat_lt n p ≡ b → p ≤ n → b ≡ false
not-by true n p e h = let less : n < p = ltb-true n p e in absurd (omega (arith, less, h))
not-by false n p e h = refl

not-less : (n p : ℕ) → p ≤ n → nat_lt n p ≡ false
not-less n p h = not-by (nat_lt n p) n p refl h

below-none : (p n : ℕ) (marks : List Bool) → p ≤ n → below p (places-of n marks) ≡ 0
below-none p n [] h = refl
below-none p n (true ∷ marks) h = ap (λ (b : Bool). if b then suc (below p (places-of (suc n) marks)) else 0) (not-less n p h)
below-none p n (false ∷ marks) h = below-none p (suc n) marks (omega (arith, h))

abbrev Missing : ℕ → List ℕ → Type 0
Missing at places = is_place at (slice_get places (below at places)) ≡ false

not-here : (n at : ℕ) (places : List ℕ) → at ≡ n + 0 → Missing at (n ∷ places) → ⊥
not-here n at places is missing =
    let s : n ≡ at = omega (arith, is) in
    let there : is_place at (slice_get (n ∷ places) (below at (n ∷ places))) ≡ true =
    ap (λ (b : Bool). is_place at (slice_get (n ∷ places) (if b then suc (below at places) else 0))) (not-less n at (omega (arith, s))) ∙ eq-eqb n at s in
    let bad : true ≡ false = sym there ∙ missing in
    cc

behind : (n at : ℕ) (places : List ℕ) → n < at → below at (n ∷ places) ≡ suc (below at places)
behind n at places h = ap (λ (b : Bool). if b then suc (below at places) else 0) (lt-ltb n at h)

missing-behind : (n at : ℕ) (places : List ℕ) → n < at → Missing at (n ∷ places) → Missing at places
missing-behind n at places h missing = sym (ap (λ (i : ℕ). is_place at (slice_get (n ∷ places) i)) (behind n at places h)) ∙ missing

-- without a row in the table
lacking : (table : TableId) (n k at : ℕ) (marks : List Bool) (ds : List Draft) (r : Draft) → at ≡ n + k → Missing at (places-of n marks) → is_live table r ≡ false
    → OthersLack table marks ds → (marked marks (set ds k r) ≡ marked marks ds) × OthersLack table marks (set ds k r)
lacking table n k at [] [] r is missing none others = (refl, others)
lacking table n k at [] (d ∷ ds) r is missing none others = absurd others
lacking table n k at (true ∷ marks) [] r is missing none others = absurd others
lacking table n k at (false ∷ marks) [] r is missing none others = absurd others
lacking table n zero at (true ∷ marks) (d ∷ ds) r is missing none others = absurd (not-here n at (places-of (suc n) marks) is missing)
lacking table n (suc k) at (true ∷ marks) (d ∷ ds) r is missing none others =
    let rest = lacking table (suc n) k at marks ds r (omega (arith, is)) (missing-behind n at (places-of (suc n) marks) (omega (arith, is)) missing) none others in
    (ap (λ (xs : List Draft). d ∷ xs) rest.0, rest.1)
lacking table n zero at (false ∷ marks) (d ∷ ds) r is missing none others = (refl, (none, others.1))
lacking table n (suc k) at (false ∷ marks) (d ∷ ds) r is missing none others =
    let rest = lacking table (suc n) k at marks ds r (omega (arith, is)) missing none others.1 in
    (rest.0, (others.0, rest.1))

pub keeps_lacking : (table : TableId) (at i : ℕ) (r : Draft) (places : List ℕ) (seen : List Draft) → i ≡ below at places → is_place at (slice_get places i) ≡ false
    → is_live table r ≡ false → KeepsLayers table at r places seen places seen
keeps_lacking table at i r places seen index missing none = λ documents new all place l.
    let mine : place_in (numbers_of l.front) r.id.raw ≡ Some at = ap (λ (ns : List ℕ). place_in ns r.id.raw) l.numbers ∙ place in
    let not_there : Missing at (places-of 0 l.marks) =
    subst (λ (ps : List ℕ). Missing at ps) l.places_are (ap (λ (n : ℕ). is_place at (slice_get places n)) (sym index) ∙ missing) in
    let both = lacking table 0 at at l.marks l.front r (omega arith) not_there none l.others in
    record {
      front = set l.front at r;
      marks = l.marks;
      all_is = ap (λ (xs : List Draft). put xs r) l.all_is ∙ put-front l.front new r at mine;
      numbers = numbers-kept l.front r at mine ∙ l.numbers;
      places_are = l.places_are;
      seen_are = l.seen_are ∙ sym both.0;
      others = both.1;
    }

-- with one
record PutIn (table : TableId) (n k at : ℕ) (marks : List Bool) (ds : List Draft) (r : Draft) : Type 0 where
  spots_are : places-of n (set marks k true) ≡ insert (places-of n marks) (below at (places-of n marks)) at
  seen_are : marked (set marks k true) (set ds k r) ≡ insert (marked marks ds) (below at (places-of n marks)) r
  others : OthersLack table (set marks k true) (set ds k r)

put-in : (table : TableId) (n k at : ℕ) (marks : List Bool) (ds : List Draft) (r : Draft) → at ≡ n + k → k < length ds → Missing at (places-of n marks)
    → OthersLack table marks ds → PutIn table n k at marks ds r
put-in table n k at [] [] r is within missing others = absurd (omega (arith, within))
put-in table n k at [] (d ∷ ds) r is within missing others = absurd others
put-in table n k at (true ∷ marks) [] r is within missing others = absurd others
put-in table n k at (false ∷ marks) [] r is within missing others = absurd others
put-in table n zero at (true ∷ marks) (d ∷ ds) r is within missing others = absurd (not-here n at (places-of (suc n) marks) is missing)
put-in table n (suc k) at (true ∷ marks) (d ∷ ds) r is within missing others =
    let places : List ℕ = places-of (suc n) marks in
    let less : n < at = omega (arith, is) in
    let rest = put-in table (suc n) k at marks ds r (omega (arith, is)) (omega (arith, within)) (missing-behind n at places less missing) others in
    record {
      spots_are = ap (λ (ps : List ℕ). n ∷ ps) rest.spots_are ∙ ap (λ (i : ℕ). insert (n ∷ places) i at) (sym (behind n at places less));
      seen_are = ap (λ (xs : List Draft). d ∷ xs) rest.seen_are ∙ ap (λ (i : ℕ). insert (d ∷ marked marks ds) i r) (sym (behind n at places less));
      others = rest.others;
    }
put-in table n zero at (false ∷ marks) (d ∷ ds) r is within missing others =
    let places : List ℕ = places-of (suc n) marks in
    let same : n ≡ at = omega (arith, is) in
    let none : below at places ≡ 0 = below-none at (suc n) marks (omega (arith, is)) in
    record {
      spots_are = ap (λ (p : ℕ). p ∷ places) same ∙ ap (λ (i : ℕ). insert places i at) (sym none);
      seen_are = ap (λ (i : ℕ). insert (marked marks ds) i r) (sym none);
      others = others.1;
    }
put-in table n (suc k) at (false ∷ marks) (d ∷ ds) r is within missing others =
    let rest = put-in table (suc n) k at marks ds r (omega (arith, is)) (omega (arith, within)) missing others.1 in
    record { spots_are = rest.spots_are; seen_are = rest.seen_are; others = (others.0, rest.others) }

pub keeps_put : (table : TableId) (at i : ℕ) (r : Draft) (places : List ℕ) (seen : List Draft) → i ≡ below at places → is_place at (slice_get places i) ≡ false
    → KeepsLayers table at r places seen (insert places i at) (insert seen i r)
keeps_put table at i r places seen index missing = λ documents new all place l.
    let mine : place_in (numbers_of l.front) r.id.raw ≡ Some at = ap (λ (ns : List ℕ). place_in ns r.id.raw) l.numbers ∙ place in
    let not_there : Missing at (places-of 0 l.marks) =
    subst (λ (ps : List ℕ). Missing at ps) l.places_are (ap (λ (n : ℕ). is_place at (slice_get places n)) (sym index) ∙ missing) in
    let named : at < length (numbers_of l.front) = place-within (numbers_of l.front) r.id.raw at mine in
    let within : at < length l.front = rw (← length-map l.front (λ (d : Draft). d.id.raw)) named in
    let spot : i ≡ below at (places-of 0 l.marks) = index ∙ ap (below at) l.places_are in
    let put_in = put-in table 0 at at l.marks l.front r (omega arith) within not_there l.others in
    record {
      front = set l.front at r;
      marks = set l.marks at true;
      all_is = ap (λ (xs : List Draft). put xs r) l.all_is ∙ put-front l.front new r at mine;
      numbers = numbers-kept l.front r at mine ∙ l.numbers;
      places_are = ap₂ (λ (ps : List ℕ) (n : ℕ). insert ps n at) l.places_are spot ∙ sym put_in.spots_are;
      seen_are = ap₂ (λ (xs : List Draft) (n : ℕ). insert xs n r) l.seen_are spot ∙ sym put_in.seen_are;
      others = put_in.others;
    }

-- ---- the rows

none-of : (o : Option Row) → is_some o ≡ false → o ≡ None
none-of None e = refl
none-of (Some row) e = cc

rows-marked : (table : TableId) (marks : List Bool) (ds : List Draft) → OthersLack table marks ds
    → filter_map (row_of table) (marked marks ds) ≡ filter_map (row_of table) ds
rows-marked table [] [] others = refl
rows-marked table [] (d ∷ ds) others = absurd others
rows-marked table (true ∷ marks) [] others = absurd others
rows-marked table (false ∷ marks) [] others = absurd others
rows-marked table (true ∷ marks) (d ∷ ds) others = ap (cons_option (row_of table d)) (rows-marked table marks ds others)
rows-marked table (false ∷ marks) (d ∷ ds) others =
    rows-marked table marks ds others.1 ∙ ap (λ (o : Option Row). cons_option o (filter_map (row_of table) ds)) (sym (none-of (row_of table d) others.0))

pub rows_layered : (table : TableId) (documents : List Draft) (places : List ℕ) (seen new all : List Draft) → IsLayered table documents places seen new all
    → filter_map (row_of table) (seen ++ new) ≡ filter_map (row_of table) all
rows_layered table documents places seen new all l =
    filter_map-append (row_of table) seen new
    ∙ ap (λ (rows : List Row). rows ++ filter_map (row_of table) new) (ap (filter_map (row_of table)) l.seen_are ∙ rows-marked table l.marks l.front l.others)
    ∙ sym (filter_map-append (row_of table) l.front new) ∙ ap (filter_map (row_of table)) (sym l.all_is)

-- ---- how many places are less

one-of : (q : ℕ) (places : List ℕ) (m : ℕ) → m < length places → AllByRecursion (λ n. q < n) places → q < get_or places m 0
one-of q [] m within all = absurd (omega (arith, within))
one-of q (p ∷ places) zero within all = all.0
one-of q (p ∷ places) (suc m) within all = one-of q places m (omega (arith, within)) all.1

pub below_more : (at : ℕ) (places : List ℕ) (m : ℕ) → AreAscending places → m < length places → get_or places m 0 < at → m < below at places
below_more at [] m order within less = absurd (omega (arith, within))
below_more at (q ∷ places) zero order within less =
    let one : below at (q ∷ places) ≡ suc (below at places) = behind q at places less in omega (arith, one)
below_more at (q ∷ places) (suc m) order within less =
    let inner : m < length places = omega (arith, within) in
    let front : q < get_or places m 0 = one-of q places m inner order.0 in
    let one : below at (q ∷ places) ≡ suc (below at places) = behind q at places (omega (arith, front, less)) in
    let rest : m < below at places = below_more at places m order.1 inner less in
    omega (arith, one, rest)

least-by : (b : Bool) (n m : ℕ) → n ≤ m → (if b then suc n else 0) ≤ suc m
least-by true n m h = omega (arith, h)
least-by false n m h = omega arith

pub below_least : (at : ℕ) (places : List ℕ) (m : ℕ) → m < length places → at ≤ get_or places m 0 → below at places ≤ m
below_least at [] m within more = absurd (omega (arith, within))
below_least at (q ∷ places) zero within more =
    let none : below at (q ∷ places) ≡ 0 = ap (λ (b : Bool). if b then suc (below at places) else 0) (not-less q at more) in omega (arith, none)
below_least at (q ∷ places) (suc m) within more =
    least-by (nat_lt q at) (below at places) m (below_least at places m (omega (arith, within)) more)

pub below_within : (at : ℕ) (places : List ℕ) → below at places ≤ length places
below_within at [] = omega arith
below_within at (p ∷ places) = least-by (nat_lt p at) (below at places) (length places) (below_within at places)

-- ---- revisions that are lent

pub mapped_insert : {A B : Type 0} (f : A → B) (xs : List A) (i : ℕ) (x : A) → map f (insert xs i x) ≡ insert (map f xs) i (f x)
mapped_insert f [] zero x = refl
mapped_insert f [] (suc i) x = refl
mapped_insert f (y ∷ xs) zero x = refl
mapped_insert {B = B} f (y ∷ xs) (suc i) x = ap (λ (ys : List B). f y ∷ ys) (mapped_insert f xs i x)

-- one more is put
pub newest_next : (ds : List Draft) (newest : List (Bor Draft)) (i : ℕ) (d : Bor Draft) → i < length newest → d ≡ get_or newest i d
    → put (latest_from ds (map (λ (x : Bor Draft). x.now) (take i newest))) d.now ≡ latest_from ds (map (λ (x : Bor Draft). x.now) (take (i + 1) newest))
newest_next ds newest i d within this =
    let more : take (i + 1) newest ≡ take i newest ++ d ∷ [] = take_more newest i d within ∙ ap (λ (x : Bor Draft). take i newest ++ x ∷ []) (sym this) in
    sym (ap (λ (xs : List (Bor Draft)). latest_from ds (map (λ (x : Bor Draft). x.now) xs)) more
    ∙ ap (latest_from ds) (map-append (λ (x : Bor Draft). x.now) (take i newest) (d ∷ []))
    ∙ latest-more ds (map (λ (x : Bor Draft). x.now) (take i newest)) (d.now ∷ []))
