-- Pending revisions, and the last one of each document.
use Rattle.std.proofs.Common.{◌≡◌, ◌∙◌, ℕ, zero, suc, ◌+◌, ◌<◌, ◌==◌, ◌||◌, Bool, true, false, List, [], ◌∷◌, ◌++◌, length, get_or, take, drop, set, map, Option, Some, None, refl, sym, ap, ap₂, subst, append_assoc, length-append, arith}
use Rattle.std.specs.Prelude.{option_map, slice_get, if◌then◌else◌}
use Rattle.std.specs.List.{cons_option, filter_map}
use Rattle.std.proofs.lemmas.Bool.{eq-eqb, eqb-true, or_parts}
use Rattle.std.proofs.lemmas.List.{drop_more, length-take-le, map-append, map-set, take_more}
use Rattle.ql_types.specs.declared.DocId.{DocId}
use Rattle.ledger_model.specs.declared.block.Draft.{Draft}
use Rattle.ledger_model.specs.Views.{put, latest, latest_from}
use Rattle.txn_core.specs.declared.log.Touched.{Touched}
use Rattle.txn_core.specs.Logs.{AreTouched, place_touched, put_at, put_touched, with_id, with_place}
use Rattle.txn_core.specs.Seen.{place_in}
use Rattle.txn_core.proofs.Overlaid.{latest_last, put-at, put-new}

-- ---- what stands at the places

get-more : (log more : List Draft) (n : ℕ) (d : Draft) → slice_get log n ≡ Some d → slice_get (log ++ more) n ≡ Some d
get-more [] more n d e = cc
get-more (x ∷ log) more zero d e = e
get-more (x ∷ log) more (suc n) d e = get-more log more n d e

get-end : (log : List Draft) (d : Draft) → slice_get (log ++ d ∷ []) (length log) ≡ Some d
get-end [] d = refl
get-end (x ∷ log) d = get-end log d

-- a revision behind them changes nothing
later : (log more : List Draft) (ts : List Touched) (ds : List Draft) → map (with_place log) ts ≡ map with_id ds
    → map (with_place (log ++ more)) ts ≡ map with_id ds
later log more [] ds e = e
later log more (t ∷ ts) [] e = cc
later log more (t ∷ ts) (d ∷ ds) e =
    let front : with_place log t ≡ with_id d = cc in
    let rest : map (with_place log) ts ≡ map with_id ds = cc in
    let stands : slice_get log t.place ≡ Some d = ap (λ (p : ℕ × Option Draft). p.1) front in
    ap₂ (λ (o : Option Draft) (ps : List (ℕ × Option Draft)). (t.id.raw, o) ∷ ps) (get-more log more t.place d stands) (later log more ts ds rest)
    ∙ ap (λ (n : ℕ). (n, Some d) ∷ map with_id ds) (ap (λ (p : ℕ × Option Draft). p.0) front)

same-place : (log : List Draft) (ts : List Touched) (ds : List Draft) (id : ℕ) → map (with_place log) ts ≡ map with_id ds
    → place_touched ts id ≡ place_in ds id
same-place log [] [] id e = refl
same-place log [] (d ∷ ds) id e = cc
same-place log (t ∷ ts) [] id e = cc
same-place log (t ∷ ts) (d ∷ ds) id e =
    let front : with_place log t ≡ with_id d = cc in
    let rest : map (with_place log) ts ≡ map with_id ds = cc in
    ap₂ (λ (n : ℕ) (o : Option ℕ). if n == id then Some 0 else option_map (λ at. at + 1) o) (ap (λ (p : ℕ × Option Draft). p.0) front)
    (same-place log ts ds id rest)

put-same : (log : List Draft) (ts : List Touched) (ds : List Draft) (t : Touched) (d : Draft) (o : Option ℕ) → o ≡ place_in ds d.id.raw
    → map (with_place log) ts ≡ map with_id ds → with_place log t ≡ with_id d → map (with_place log) (put_at o ts t) ≡ map with_id (put ds d)
put-same log ts ds t d None place e is =
    map-append (with_place log) ts (t ∷ [])
    ∙ ap₂ (λ (ps : List (ℕ × Option Draft)) (p : ℕ × Option Draft). ps ++ p ∷ []) e is
    ∙ sym (map-append with_id ds (d ∷ [])) ∙ ap (map with_id) (sym (put-new ds d (sym place)))
put-same log ts ds t d (Some at) place e is =
    map-set (with_place log) ts at t
    ∙ ap₂ (λ (ps : List (ℕ × Option Draft)) (p : ℕ × Option Draft). set ps at p) e is
    ∙ sym (map-set with_id ds at d) ∙ ap (map with_id) (sym (put-at ds d at (sym place)))

touched-more : (log : List Draft) (ts : List Touched) (t : Touched) (d : Draft) → t.id.raw ≡ d.id.raw → t.place ≡ length log → AreTouched log ts
    → AreTouched (log ++ d ∷ []) (put_touched ts t)
touched-more log ts t d own at are =
    let place : place_touched ts t.id.raw ≡ place_in (latest log) d.id.raw =
    same-place log ts (latest log) t.id.raw are ∙ ap (place_in (latest log)) own in
    let stands : slice_get (log ++ d ∷ []) t.place ≡ Some d = ap (slice_get (log ++ d ∷ [])) at ∙ get-end log d in
    let is : with_place (log ++ d ∷ []) t ≡ with_id d = ap₂ (λ (n : ℕ) (o : Option Draft). (n, o)) own stands in
    put-same (log ++ d ∷ []) ts (latest log) t d (place_touched ts t.id.raw) place (later log (d ∷ []) ts (latest log) are) is
    ∙ ap (map with_id) (sym (latest_last log d))

-- ---- one revision after another

-- the places after more revisions, where there were `count`
abbrev pub AreAfter : ℕ → List Touched → List Draft → List Touched → Type 0
AreAfter count before more after = (log : List Draft) → length log ≡ count → AreTouched log before → AreTouched (log ++ more) after

pub after_next : (count i place : ℕ) (more : List Draft) (d : Draft) (before now after : List Touched) → i < length more → d ≡ get_or more i d
    → place ≡ count + i → after ≡ put_touched now (record { id = d.id; place = place }) → AreAfter count before (take i more) now
    → AreAfter count before (take (i + 1) more) after
after_next count i place more d before now after within this place_is is so_far log long are =
    let front : List Draft = log ++ take i more in
    let one_more : log ++ take (i + 1) more ≡ front ++ d ∷ [] =
    ap (λ (xs : List Draft). log ++ xs) (take_more more i d within ∙ ap (λ (x : Draft). take i more ++ x ∷ []) (sym this))
    ∙ sym (append_assoc log (take i more) (d ∷ [])) in
    let some : length (take i more) ≡ i = length-take-le i more (omega (arith, within)) in
    let at : place ≡ length front = place_is ∙ ap₂ (λ (a b : ℕ). a + b) (sym long) (sym some) ∙ sym (length-append log (take i more)) in
    subst (λ (ts : List Touched). AreTouched (log ++ take (i + 1) more) ts) (sym is)
    (subst (λ (xs : List Draft). AreTouched xs (put_touched now (record { id = d.id; place = place }))) (sym one_more)
    (touched-more front now (record { id = d.id; place = place }) d refl at (so_far log long are)))

within-step : (b : Bool) (rest : Option ℕ) (n at : ℕ) → ((k : ℕ) → rest ≡ Some k → k < n)
    → (if b then Some 0 else option_map (λ k. k + 1) rest) ≡ Some at → at < suc n
within-step true rest n at ih e = let z : 0 ≡ at = cc in omega arith
within-step false None n at ih e = cc
within-step false (Some k) n at ih e = let z : k + 1 ≡ at = cc in let h : k < n = ih k refl in omega arith

pub touched_within : (ts : List Touched) (id at : ℕ) → place_touched ts id ≡ Some at → at < length ts
touched_within [] id at e = cc
touched_within (t ∷ ts) id at e = within-step (t.id.raw == id) (place_touched ts id) (length ts) at (λ k h. touched_within ts id k h) e

-- ---- what is told of the last revisions

abbrev id_made : ℕ → DocId
id_made n = record { raw = n }

ids-same : (log : List Draft) (ts : List Touched) (ds : List Draft) → map (with_place log) ts ≡ map with_id ds
    → map (λ (t : Touched). t.id) ts ≡ map (λ (d : Draft). d.id) ds
ids-same log [] [] e = refl
ids-same log [] (d ∷ ds) e = cc
ids-same log (t ∷ ts) [] e = cc
ids-same log (t ∷ ts) (d ∷ ds) e =
    let front : with_place log t ≡ with_id d = cc in
    let rest : map (with_place log) ts ≡ map with_id ds = cc in
    let own : t.id ≡ d.id = ap id_made (ap (λ (p : ℕ × Option Draft). p.0) front) in
    ap₂ (λ (id : DocId) (ids : List DocId). id ∷ ids) own (ids-same log ts ds rest)

pub ids_touched : (log : List Draft) (ts : List Touched) → AreTouched log ts → map (λ (t : Touched). t.id) ts ≡ map (λ (d : Draft). d.id) (latest log)
ids_touched log ts are = ids-same log ts (latest log) are

abbrev pub drafts_of : List Draft → List Touched → List Draft
drafts_of log ts = filter_map (λ (t : Touched). slice_get log t.place) ts

drafts-same : (log : List Draft) (ts : List Touched) (ds : List Draft) → map (with_place log) ts ≡ map with_id ds → drafts_of log ts ≡ ds
drafts-same log [] [] e = refl
drafts-same log [] (d ∷ ds) e = cc
drafts-same log (t ∷ ts) [] e = cc
drafts-same log (t ∷ ts) (d ∷ ds) e =
    let front : with_place log t ≡ with_id d = cc in
    let rest : map (with_place log) ts ≡ map with_id ds = cc in
    ap₂ (λ (o : Option Draft) (xs : List Draft). cons_option o xs) (ap (λ (p : ℕ × Option Draft). p.1) front) (drafts-same log ts ds rest)

pub newest_touched : (log : List Draft) (ts : List Touched) → AreTouched log ts → drafts_of log ts ≡ latest log
newest_touched log ts are = drafts-same log ts (latest log) are

cons-first : (o : Option Draft) (ds : List Draft) → cons_option o ds ≡ cons_option o [] ++ ds
cons-first None ds = refl
cons-first (Some d) ds = refl

-- those read so far and those at the places that are left
pub drafts_next : (log : List Draft) (ts : List Touched) (i : ℕ) (t : Touched) (o : Option Draft) (some more all : List Draft) → i < length ts
    → t ≡ get_or ts i t → o ≡ slice_get log t.place → more ≡ some ++ cons_option o [] → some ++ drafts_of log (drop i ts) ≡ all
    → more ++ drafts_of log (drop (i + 1) ts) ≡ all
drafts_next log ts i t o some more all within this there next so_far =
    let rest : List Draft = drafts_of log (drop (i + 1) ts) in
    let front : drop i ts ≡ t ∷ drop (i + 1) ts = drop_more ts i t within ∙ ap (λ (x : Touched). x ∷ drop (i + 1) ts) (sym this) in
    let first : drafts_of log (drop i ts) ≡ cons_option o [] ++ rest =
    ap (drafts_of log) front ∙ ap (λ (own : Option Draft). cons_option own rest) (sym there) ∙ cons-first o rest in
    ap (λ (xs : List Draft). xs ++ rest) next ∙ append_assoc some (cons_option o []) rest ∙ ap (λ (xs : List Draft). some ++ xs) (sym first) ∙ so_far

-- ---- the last revisions over documents give what all give

abbrev is_there : List Draft → ℕ → Bool
is_there [] n = false
is_there (d ∷ ds) n = (d.id.raw == n) || is_there ds n

abbrev Apart : List Draft → Type 0
Apart [] = Unit {0}
Apart (d ∷ ds) = (is_there ds d.id.raw ≡ false) × Apart ds

differ-turned : (a b : ℕ) (c : Bool) → (b == a) ≡ c → (a == b) ≡ false → c ≡ false
differ-turned a b false is e = refl
differ-turned a b true is e = let bad : true ≡ false = sym (eq-eqb a b (sym (eqb-true b a is))) ∙ e in cc

turned : (a b : ℕ) → (a == b) ≡ false → (b == a) ≡ false
turned a b e = differ-turned a b (b == a) refl e

there-by : (b : Bool) (d r : Draft) (n : ℕ) (ds : List Draft) → (d.id.raw == r.id.raw) ≡ b → is_there (put ds r) n ≡ is_there ds n
    → is_there (if b then r ∷ ds else d ∷ put ds r) n ≡ ((d.id.raw == n) || is_there ds n)
there-by true d r n ds same ih = ap (λ (k : ℕ). (k == n) || is_there ds n) (sym (eqb-true d.id.raw r.id.raw same))
there-by false d r n ds same ih = ap (λ (b : Bool). (d.id.raw == n) || b) ih

there-put : (ds : List Draft) (r : Draft) (n : ℕ) → (r.id.raw == n) ≡ false → is_there (put ds r) n ≡ is_there ds n
there-put [] r n other = ap (λ (b : Bool). b || false) other
there-put (d ∷ ds) r n other = there-by (d.id.raw == r.id.raw) d r n ds refl (there-put ds r n other)

own-by : (b : Bool) (d r : Draft) (ds : List Draft) → is_there (put ds r) r.id.raw ≡ true → is_there (if b then r ∷ ds else d ∷ put ds r) r.id.raw ≡ true
own-by true d r ds ih = ap (λ (b : Bool). b || is_there ds r.id.raw) (eq-eqb r.id.raw r.id.raw refl)
own-by false d r ds ih = or-own (d.id.raw == r.id.raw) (is_there (put ds r) r.id.raw) ih
  where
    or-own : (a b : Bool) → b ≡ true → (a || b) ≡ true
    or-own true b e = refl
    or-own false b e = e

own-there : (ds : List Draft) (r : Draft) → is_there (put ds r) r.id.raw ≡ true
own-there [] r = ap (λ (b : Bool). b || false) (eq-eqb r.id.raw r.id.raw refl)
own-there (d ∷ ds) r = own-by (d.id.raw == r.id.raw) d r ds (own-there ds r)

apart-by : (b : Bool) (d r : Draft) (ds : List Draft) → (d.id.raw == r.id.raw) ≡ b → is_there ds d.id.raw ≡ false → Apart ds → Apart (put ds r)
    → Apart (if b then r ∷ ds else d ∷ put ds r)
apart-by true d r ds same none apart ih = (ap (is_there ds) (sym (eqb-true d.id.raw r.id.raw same)) ∙ none, apart)
apart-by false d r ds same none apart ih = (there-put ds r d.id.raw (turned d.id.raw r.id.raw same) ∙ none, ih)

apart-put : (ds : List Draft) (r : Draft) → Apart ds → Apart (put ds r)
apart-put [] r apart = (refl, tt)
apart-put (d ∷ ds) r apart = apart-by (d.id.raw == r.id.raw) d r ds refl apart.0 apart.1 (apart-put ds r apart.1)

-- of two revisions of one document the later one counts
twice-by : (b : Bool) (d e x : Draft) (ds : List Draft) → (d.id.raw == e.id.raw) ≡ b → (e.id.raw == x.id.raw) ≡ true → put (put ds e) x ≡ put ds x
    → put (if b then e ∷ ds else d ∷ put ds e) x ≡ put (d ∷ ds) x
twice-by true d e x ds is same ih =
    ap (λ (b : Bool). if b then x ∷ ds else e ∷ put ds x) same
    ∙ sym (ap (λ (b : Bool). if b then x ∷ ds else d ∷ put ds x) (ap (λ (n : ℕ). n == x.id.raw) (eqb-true d.id.raw e.id.raw is) ∙ same))
twice-by false d e x ds is same ih =
    let other : (d.id.raw == x.id.raw) ≡ false = ap (λ (n : ℕ). d.id.raw == n) (sym (eqb-true e.id.raw x.id.raw same)) ∙ is in
    ap (λ (b : Bool). if b then x ∷ put ds e else d ∷ put (put ds e) x) other ∙ ap (λ (xs : List Draft). d ∷ xs) ih
    ∙ sym (ap (λ (b : Bool). if b then x ∷ ds else d ∷ put ds x) other)

put-twice : (ds : List Draft) (e x : Draft) → (e.id.raw == x.id.raw) ≡ true → put (put ds e) x ≡ put ds x
put-twice [] e x same = ap (λ (b : Bool). if b then x ∷ [] else e ∷ x ∷ []) same
put-twice (d ∷ ds) e x same = twice-by (d.id.raw == e.id.raw) d e x ds refl same (put-twice ds e x same)

-- those of two documents come in either order, if the one stands already
swapped-by : (b c : Bool) (f e x : Draft) (fs : List Draft) → (f.id.raw == e.id.raw) ≡ b → (f.id.raw == x.id.raw) ≡ c → (e.id.raw == x.id.raw) ≡ false
    → (c || is_there fs x.id.raw) ≡ true → (is_there fs x.id.raw ≡ true → put (put fs e) x ≡ put (put fs x) e)
    → put (if b then e ∷ fs else f ∷ put fs e) x ≡ put (if c then x ∷ fs else f ∷ put fs x) e
swapped-by true true f e x fs p q other h ih =
    let bad : false ≡ true = sym other ∙ ap (λ (n : ℕ). n == x.id.raw) (sym (eqb-true f.id.raw e.id.raw p)) ∙ q in cc
swapped-by true false f e x fs p q other h ih =
    ap (λ (b : Bool). if b then x ∷ fs else e ∷ put fs x) other ∙ sym (ap (λ (b : Bool). if b then e ∷ put fs x else f ∷ put (put fs x) e) p)
swapped-by false true f e x fs p q other h ih =
    ap (λ (b : Bool). if b then x ∷ put fs e else f ∷ put (put fs e) x) q
    ∙ sym (ap (λ (b : Bool). if b then e ∷ fs else x ∷ put fs e) (turned e.id.raw x.id.raw other))
swapped-by false false f e x fs p q other h ih =
    ap (λ (b : Bool). if b then x ∷ put fs e else f ∷ put (put fs e) x) q ∙ ap (λ (xs : List Draft). f ∷ xs) (ih h)
    ∙ sym (ap (λ (b : Bool). if b then e ∷ put fs x else f ∷ put (put fs x) e) p)

swapped : (fs : List Draft) (e x : Draft) → is_there fs x.id.raw ≡ true → (e.id.raw == x.id.raw) ≡ false → put (put fs e) x ≡ put (put fs x) e
swapped [] e x there other = cc
swapped (f ∷ fs) e x there other =
    swapped-by (f.id.raw == e.id.raw) (f.id.raw == x.id.raw) f e x fs refl refl other there (λ h. swapped fs e x h other)

moved : (es fs : List Draft) (x : Draft) → is_there fs x.id.raw ≡ true → is_there es x.id.raw ≡ false → put (latest_from fs es) x ≡ latest_from (put fs x) es
moved [] fs x there none = refl
moved (e ∷ es) fs x there none =
    let both = or_parts (e.id.raw == x.id.raw) (is_there es x.id.raw) none in
    moved es (put fs e) x (there-put fs e x.id.raw both.0 ∙ there) both.1
    ∙ ap (λ (ds : List Draft). latest_from ds es) (swapped fs e x there both.0)

behind-by : (b : Bool) (e x : Draft) (es ds : List Draft) → (e.id.raw == x.id.raw) ≡ b → is_there es e.id.raw ≡ false
    → latest_from (put ds e) (put es x) ≡ put (latest_from (put ds e) es) x
    → latest_from ds (if b then x ∷ es else e ∷ put es x) ≡ put (latest_from (put ds e) es) x
behind-by true e x es ds is none ih =
    let same : e.id.raw ≡ x.id.raw = eqb-true e.id.raw x.id.raw is in
    sym (moved es (put ds e) x (ap (is_there (put ds e)) (sym same) ∙ own-there ds e) (ap (is_there es) (sym same) ∙ none)
    ∙ ap (λ (ys : List Draft). latest_from ys es) (put-twice ds e x is))
behind-by false e x es ds is none ih = ih

put-behind : (es ds : List Draft) (x : Draft) → Apart es → latest_from ds (put es x) ≡ put (latest_from ds es) x
put-behind [] ds x apart = refl
put-behind (e ∷ es) ds x apart = behind-by (e.id.raw == x.id.raw) e x es ds refl apart.0 (put-behind es (put ds e) x apart.1)

again : (log es ds : List Draft) → Apart es → latest_from ds (latest_from es log) ≡ latest_from (latest_from ds es) log
again [] es ds apart = refl
again (x ∷ log) es ds apart =
    again log (put es x) ds (apart-put es x apart) ∙ ap (λ (ys : List Draft). latest_from ys log) (put-behind es ds x apart)

pub latest_again : (ds log : List Draft) → latest_from ds (latest log) ≡ latest_from ds log
latest_again ds log = again log [] ds tt
