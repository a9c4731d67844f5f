-- The pending revision of a document: the last one of it in the log.
use Rattle.std.proofs.Common.{◌≡◌, ◌∙◌, ℕ, Bool, true, false, cond, ◌==◌, List, [], ◌∷◌, ◌++◌, refl, sym, ap, subst, Option, Some, None}
use Rattle.std.specs.List.{AllByRecursion, find, list_any}
use Rattle.std.proofs.lemmas.Bool.{both_ways, eq-eqb, eqb-true, false_from_ne_true, or_from}
use Rattle.ledger_model.specs.declared.block.Draft.{Draft}
use Rattle.ledger_model.specs.Views.{latest, latest_from, put}
use Rattle.laws_footprint.specs.Naming.{is_pending}
use Rattle.laws_footprint.proofs.Documents.{Distinct, all_put, distinct_put, latest_after}
use Rattle.pql_model.proofs.Equality.{inside}

-- a revision of the document
abbrev pub is_doc : ℕ → Draft → Bool
is_doc id d = d.id.raw == id

-- ---- one revision more

put_there : (id : ℕ) (d x : Draft) (rest : Option Draft) (c : Bool) → (x.id.raw == id) ≡ c
    → (d.id.raw == x.id.raw) ≡ true
    → cond (x.id.raw == id) (Some x) rest ≡ cond (x.id.raw == id) (Some x) (cond (d.id.raw == id) (Some d) rest)
put_there id d x rest true e same = ap (λ b. cond b (Some x) rest) e
    ∙ sym (ap (λ b. cond b (Some x) (cond (d.id.raw == id) (Some d) rest)) e)
put_there id d x rest false e same =
    let not : (d.id.raw == id) ≡ false = ap (λ n. n == id) (eqb-true d.id.raw x.id.raw same) ∙ e in
    sym (ap (λ b. cond (x.id.raw == id) (Some x) (cond b (Some d) rest)) not)

put_behind : (id : ℕ) (d x : Draft) (rest : Option Draft) (c : Bool) → (x.id.raw == id) ≡ c
    → (d.id.raw == x.id.raw) ≡ false
    → cond (d.id.raw == id) (Some d) (cond (x.id.raw == id) (Some x) rest)
    ≡ cond (x.id.raw == id) (Some x) (cond (d.id.raw == id) (Some d) rest)
put_behind id d x rest false e other =
    ap (λ b. cond (d.id.raw == id) (Some d) (cond b (Some x) rest)) e
    ∙ sym (ap (λ b. cond b (Some x) (cond (d.id.raw == id) (Some d) rest)) e)
put_behind id d x rest true e other =
    let not : (d.id.raw == id) ≡ false =
    false_from_ne_true (d.id.raw == id) (λ t. both_ways (d.id.raw == x.id.raw) other
    (eq-eqb d.id.raw x.id.raw (eqb-true d.id.raw id t ∙ sym (eqb-true x.id.raw id e)))) in
    ap (λ b. cond b (Some d) (cond (x.id.raw == id) (Some x) rest)) not
    ∙ sym (ap (λ b. cond (x.id.raw == id) (Some x) (cond b (Some d) rest)) not)

find_by : (id : ℕ) (d x : Draft) (ds : List Draft) (b : Bool) → (d.id.raw == x.id.raw) ≡ b
    → find (is_doc id) (put ds x) ≡ cond (x.id.raw == id) (Some x) (find (is_doc id) ds)
    → find (is_doc id) (cond b (x ∷ ds) (d ∷ put ds x))
    ≡ cond (x.id.raw == id) (Some x) (cond (d.id.raw == id) (Some d) (find (is_doc id) ds))
find_by id d x ds true e ih = put_there id d x (find (is_doc id) ds) (x.id.raw == id) refl e
find_by id d x ds false e ih = ap (λ o. cond (d.id.raw == id) (Some d) o) ih
    ∙ put_behind id d x (find (is_doc id) ds) (x.id.raw == id) refl e

pub find_put : (id : ℕ) (docs : List Draft) (x : Draft)
    → find (is_doc id) (put docs x) ≡ cond (x.id.raw == id) (Some x) (find (is_doc id) docs)
find_put id [] x = refl
find_put id (d ∷ ds) x = find_by id d x ds (d.id.raw == x.id.raw) refl (find_put id ds x)

pub find_more : (id : ℕ) (log : List Draft) (x : Draft)
    → find (is_doc id) (latest (log ++ x ∷ [])) ≡ cond (x.id.raw == id) (Some x) (find (is_doc id) (latest log))
find_more id log x = ap (find (is_doc id)) (latest_after [] log (x ∷ [])) ∙ find_put id (latest log) x

-- ---- none

pub none_of : (x : Draft) (b : Bool) (rest : Option Draft) → cond b (Some x) rest ≡ None → (b ≡ false) × (rest ≡ None)
none_of x true rest h = cc
none_of x false rest h = (refl, h)

none_pends : (id : ℕ) (docs log : List Draft) → find (is_doc id) (latest_from docs log) ≡ None
    → (find (is_doc id) docs ≡ None) × (list_any (is_doc id) log ≡ false)
none_pends id docs [] h = (h, refl)
none_pends id docs (x ∷ xs) h =
    let rest = none_pends id (put docs x) xs h in
    let parts = none_of x (x.id.raw == id) (find (is_doc id) docs) (sym (find_put id docs x) ∙ rest.0) in
    (parts.1, or_from (x.id.raw == id) (list_any (is_doc id) xs) parts.0 rest.1)

-- where none is found, none pends
pub not_pending : (id : ℕ) (log : List Draft) → find (is_doc id) (latest log) ≡ None → is_pending id log ≡ false
not_pending id log h = (none_pends id [] log h).1

-- ---- what is found is from the log

pub latest_keeps : (P : Draft → Type 0) (docs ds : List Draft) → AllByRecursion P docs → AllByRecursion P ds
    → AllByRecursion P (latest_from docs ds)
latest_keeps P docs [] h k = h
latest_keeps P docs (d ∷ ds) h k = latest_keeps P (put docs d) ds (all_put P docs d h k.0) k.1

all_found_by : (P : Draft → Type 0) (id : ℕ) (x : Draft) (docs : List Draft) (b : Bool) (e : Draft)
    → cond b (Some x) (find (is_doc id) docs) ≡ Some e → P x
    → (find (is_doc id) docs ≡ Some e → P e) → P e
all_found_by P id x docs true e h here rest = subst P (inside x e h) here
all_found_by P id x docs false e h here rest = rest h

pub all_found : (P : Draft → Type 0) (id : ℕ) (docs : List Draft) (e : Draft) → AllByRecursion P docs
    → find (is_doc id) docs ≡ Some e → P e
all_found P id [] e all h = cc
all_found P id (x ∷ xs) e all h = all_found_by P id x xs (x.id.raw == id) e h all.0 (λ k. all_found P id xs e all.1 k)

found_by : (id : ℕ) (x : Draft) (docs : List Draft) (b : Bool) (e : Draft) → (x.id.raw == id) ≡ b
    → cond b (Some x) (find (is_doc id) docs) ≡ Some e
    → (find (is_doc id) docs ≡ Some e → e.id.raw ≡ id) → e.id.raw ≡ id
found_by id x docs true e is h rest = sym (ap (λ (d : Draft). d.id.raw) (inside x e h)) ∙ eqb-true x.id.raw id is
found_by id x docs false e is h rest = rest h

-- it is of the document
pub found_id : (id : ℕ) (docs : List Draft) (e : Draft) → find (is_doc id) docs ≡ Some e → e.id.raw ≡ id
found_id id [] e h = cc
found_id id (x ∷ xs) e h = found_by id x xs (x.id.raw == id) e refl h (λ k. found_id id xs e k)

-- ---- the documents over committed and pending revisions show the pending ones

abbrev pub Agrees : List Draft → Draft → Type 0
Agrees mine d = (e : Draft) → find (is_doc d.id.raw) mine ≡ Some e → e ≡ d

own_agrees : (mine : List Draft) (x : Draft) → Agrees (put mine x) x
own_agrees mine x e h =
    sym (inside x e (sym (find_put x.id.raw mine x
    ∙ ap (λ b. cond b (Some x) (find (is_doc x.id.raw) mine)) (eq-eqb x.id.raw x.id.raw refl)) ∙ h))

other_agrees : (mine : List Draft) (x d : Draft) → (x.id.raw == d.id.raw) ≡ false → Agrees mine d
    → Agrees (put mine x) d
other_agrees mine x d other h e is =
    h e (sym (find_put d.id.raw mine x ∙ ap (λ b. cond b (Some x) (find (is_doc d.id.raw) mine)) other) ∙ is)

pub swapped : (a b : ℕ) → (a == b) ≡ false → (b == a) ≡ false
swapped a b h = false_from_ne_true (b == a) (λ t. both_ways (a == b) h (eq-eqb a b (sym (eqb-true b a t))))

others_agree : (mine ds : List Draft) (x d : Draft) → (d.id.raw == x.id.raw) ≡ true
    → AllByRecursion (λ (y : Draft). (y.id.raw == d.id.raw) ≡ false) ds
    → AllByRecursion (Agrees mine) ds → AllByRecursion (Agrees (put mine x)) ds
others_agree mine [] x d same distinct h = tt
others_agree mine (y ∷ ys) x d same distinct h = (
  other_agrees mine x y (ap (λ n. n == y.id.raw) (sym (eqb-true d.id.raw x.id.raw same))
      ∙ swapped y.id.raw d.id.raw distinct.0) h.0,
  others_agree mine ys x d same distinct.1 h.1,
)

agree_by : (mine ds : List Draft) (x d : Draft) (b : Bool) → (d.id.raw == x.id.raw) ≡ b
    → AllByRecursion (λ (y : Draft). (y.id.raw == d.id.raw) ≡ false) ds
    → AllByRecursion (Agrees mine) (d ∷ ds) → AllByRecursion (Agrees (put mine x)) (put ds x)
    → AllByRecursion (Agrees (put mine x)) (cond b (x ∷ ds) (d ∷ put ds x))
agree_by mine ds x d true e distinct h ih = (own_agrees mine x, others_agree mine ds x d e distinct h.1)
agree_by mine ds x d false e distinct h ih = (other_agrees mine x d (swapped d.id.raw x.id.raw e) h.0, ih)

agree_put : (mine docs : List Draft) (x : Draft) → Distinct docs → AllByRecursion (Agrees mine) docs
    → AllByRecursion (Agrees (put mine x)) (put docs x)
agree_put mine [] x distinct h = (own_agrees mine x, tt)
agree_put mine (d ∷ ds) x distinct h =
    agree_by mine ds x d (d.id.raw == x.id.raw) refl distinct.0 h (agree_put mine ds x distinct.1 h.1)

all_agree : (mine docs log : List Draft) → Distinct docs → AllByRecursion (Agrees mine) docs
    → AllByRecursion (Agrees (latest_from mine log)) (latest_from docs log)
all_agree mine docs [] distinct h = h
all_agree mine docs (x ∷ xs) distinct h =
    all_agree (put mine x) (put docs x) xs (distinct_put docs x distinct) (agree_put mine docs x distinct h)

none_yet : (docs : List Draft) → AllByRecursion (Agrees []) docs
none_yet [] = tt
none_yet (d ∷ ds) = (λ e h. cc, none_yet ds)

distinct_all : (docs ds : List Draft) → Distinct docs → Distinct (latest_from docs ds)
distinct_all docs [] h = h
distinct_all docs (d ∷ ds) h = distinct_all (put docs d) ds (distinct_put docs d h)

pub pending_agree : (committed log : List Draft) → AllByRecursion (Agrees (latest log)) (latest (committed ++ log))
pending_agree committed log =
    subst (AllByRecursion (Agrees (latest log))) (sym (latest_after [] committed log))
    (all_agree [] (latest committed) log (distinct_all [] committed tt) (none_yet (latest committed)))
