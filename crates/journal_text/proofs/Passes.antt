-- Lists gone over place by place: what is gathered so far, and what is left.
use Rattle.std.proofs.Common.{◌≡◌, ◌∙◌, ℕ, zero, suc, ◌<◌, ◌≤◌, ◌==◌, Bool, true, false, not, ◌||◌, cond, List, [], ◌∷◌, ◌++◌, length, drop, take, get_or, append_assoc, refl, sym, ap, arith}
use Rattle.std.proofs.Math.Seq.{drop-cons, take-suc}
use Rattle.std.proofs.lemmas.List.{take-append-drop}
use Rattle.std.proofs.lemmas.List.Folds.{list_any-append}
use Rattle.std.specs.List.{filter, list_any}
use Rattle.std.specs.Ordering.{nat_cmp}
use Rattle.std.specs.BTreeMap.{is_at}
use Rattle.std.specs.BTreeSet.{BTreeSet, contains}
use Rattle.ledger_model.specs.declared.block.Revision.{Revision}
use Rattle.ledger_model.specs.declared.block.Schema.{Schema}
use Rattle.ledger_model.specs.Follows.{all_differ, created_id, created_ids, document_ids}
use Rattle.journal_text.proofs.Distinct.{differ-again, differ-push}
use Rattle.journal_text.proofs.Fields.{is_eq-nat_cmp}

not-not : (b : Bool) → b ≡ not (not b)
not-not true = refl
not-not false = refl

or_pushed : (a b : Bool) → cond b true a ≡ (a || (b || false))
or_pushed true true = refl
or_pushed true false = refl
or_pushed false true = refl
or_pushed false false = refl

passes : (b : Bool) (x : ℕ) (rest : List ℕ) → cond b (x ∷ rest) rest ≡ cond b (x ∷ []) [] ++ rest
passes true x rest = refl
passes false x rest = refl

-- what is left, opened
pub opened : {A : Type 0} → (xs : List A) (i j : ℕ) (d x : A) → j ≡ suc i → i < length xs → x ≡ get_or xs i d → drop i xs ≡ x ∷ drop j xs
opened xs i j d x next h is = rw next (drop-cons xs i d h ∙ ap (λ y. y ∷ drop (suc i) xs) (sym is))

pub drop_end : {A : Type 0} → (xs : List A) (n : ℕ) → length xs ≤ n → drop n xs ≡ []
drop_end [] zero h = refl
drop_end [] (suc n) h = refl
drop_end (x ∷ xs) zero h = absurd (omega arith)
drop_end (x ∷ xs) (suc n) h = drop_end xs n (omega arith)

take_end : (xs : List ℕ) (n : ℕ) → length xs ≤ n → take n xs ≡ xs
take_end [] zero h = refl
take_end [] (suc n) h = refl
take_end (x ∷ xs) zero h = absurd (omega arith)
take_end (x ∷ xs) (suc n) h = ap (λ ys. x ∷ ys) (take_end xs n (omega arith))

-- the whole, opened
pub split_at : (xs : List ℕ) (i j : ℕ) (x : ℕ) → j ≡ suc i → i < length xs → x ≡ get_or xs i 0 → xs ≡ take i xs ++ x ∷ drop j xs
split_at xs i j x next h is = sym (take-append-drop i xs) ∙ ap (λ ys. take i xs ++ ys) (opened xs i j 0 x next h is)

-- ---- the ids of created tables

pub created_next : (ids new : List ℕ) (schema : List Schema) (i j : ℕ) (c : Schema) → j ≡ suc i → i < length schema → c ≡ get_or schema i c
    → ids ++ created_ids (drop i schema) ≡ created_ids schema → new ≡ ids ++ created_id c → new ++ created_ids (drop j schema) ≡ created_ids schema
created_next ids new schema i j c next h is before now =
    ap (λ xs. xs ++ created_ids (drop j schema)) now
    ∙ append_assoc ids (created_id c) (created_ids (drop j schema))
    ∙ ap (λ cs. ids ++ created_ids cs) (sym (opened schema i j c c next h is))
    ∙ before

-- ---- the ids of documents

pub documents_next : (ids new : List ℕ) (revisions : List Revision) (i j : ℕ) (r : Revision) → j ≡ suc i → i < length revisions → r ≡ get_or revisions i r
    → ids ++ document_ids (drop i revisions) ≡ document_ids revisions → new ≡ ids ++ r.metadata.id.raw ∷ [] → new ++ document_ids (drop j revisions) ≡ document_ids revisions
documents_next ids new revisions i j r next h is before now =
    ap (λ xs. xs ++ document_ids (drop j revisions)) now
    ∙ append_assoc ids (r.metadata.id.raw ∷ []) (document_ids (drop j revisions))
    ∙ ap (λ rs. ids ++ document_ids rs) (sym (opened revisions i j r r next h is))
    ∙ before

first_passes : (p : ℕ → Bool) (x : ℕ) (xs : List ℕ) → filter p (x ∷ xs) ≡ filter p (x ∷ []) ++ filter p xs
first_passes p x xs = passes (p x) x (filter p xs)

pub new_next : (p : ℕ → Bool) (start ids new : List ℕ) (revisions : List Revision) (i j : ℕ) (r : Revision) → j ≡ suc i → i < length revisions → r ≡ get_or revisions i r
    → ids ++ filter p (document_ids (drop i revisions)) ≡ start ++ filter p (document_ids revisions)
    → new ≡ ids ++ filter p (r.metadata.id.raw ∷ [])
    → new ++ filter p (document_ids (drop j revisions)) ≡ start ++ filter p (document_ids revisions)
new_next p start ids new revisions i j r next h is before now =
    ap (λ xs. xs ++ filter p (document_ids (drop j revisions))) now
    ∙ append_assoc ids (filter p (r.metadata.id.raw ∷ [])) (filter p (document_ids (drop j revisions)))
    ∙ ap (λ xs. ids ++ xs) (sym (first_passes p r.metadata.id.raw (document_ids (drop j revisions))))
    ∙ ap (λ rs. ids ++ filter p (document_ids rs)) (sym (opened revisions i j r r next h is))
    ∙ before

-- ---- whether numbers differ

-- the numbers of a set are those so far
abbrev pub Seen : BTreeSet ℕ → List ℕ → Type 0
Seen set xs = (q : ℕ) → contains nat_cmp set q ≡ list_any (λ y. y == q) xs

taken_more : (xs : List ℕ) (i j x : ℕ) → j ≡ suc i → i < length xs → x ≡ get_or xs i 0 → take j xs ≡ take i xs ++ x ∷ []
taken_more xs i j x next h is = rw next (take-suc xs i 0 h ∙ ap (λ y. take i xs ++ y ∷ []) (sym is))

was_new : (set : BTreeSet ℕ) (xs : List ℕ) (x : ℕ) (added : Bool) → Seen set xs → added ≡ not (contains nat_cmp set x) → list_any (λ y. y == x) xs ≡ not added
was_new set xs x added seen is = sym (seen x) ∙ not-not (contains nat_cmp set x) ∙ ap not (sym is)

pub repeated : (set : BTreeSet ℕ) (xs : List ℕ) (i x : ℕ) (added : Bool) → i < length xs → x ≡ get_or xs i 0 → Seen set (take i xs)
    → added ≡ not (contains nat_cmp set x) → added ≡ false → false ≡ all_differ xs
repeated set xs i x added h is seen new fails =
    sym (ap all_differ (split_at xs i (suc i) x refl h is) ∙ differ-again (take i xs) (drop (suc i) xs) x (was_new set (take i xs) x added seen new ∙ ap not fails))

pub still_differ : (set : BTreeSet ℕ) (xs : List ℕ) (i j x : ℕ) (added : Bool) → j ≡ suc i → i < length xs → x ≡ get_or xs i 0 → Seen set (take i xs) → all_differ (take i xs) ≡ true
    → added ≡ not (contains nat_cmp set x) → added ≡ true → all_differ (take j xs) ≡ true
still_differ set xs i j x added next h is seen differ new holds =
    ap all_differ (taken_more xs i j x next h is) ∙ differ-push (take i xs) x differ (was_new set (take i xs) x added seen new ∙ ap not holds)

pub seen_more : (set more : BTreeSet ℕ) (xs : List ℕ) (i j x : ℕ) → j ≡ suc i → i < length xs → x ≡ get_or xs i 0 → Seen set (take i xs)
    → ((q : ℕ) → contains nat_cmp more q ≡ cond (is_at (nat_cmp x) q) true (contains nat_cmp set q)) → Seen more (take j xs)
seen_more set more xs i j x next h is seen updates q =
    updates q ∙ ap (λ b. cond b true (contains nat_cmp set q)) (is_eq-nat_cmp x q) ∙ ap (λ b. cond (x == q) true b) (seen q)
    ∙ or_pushed (list_any (λ y. y == q) (take i xs)) (x == q)
    ∙ sym (list_any-append (λ y. y == q) (take i xs) (x ∷ [])) ∙ sym (ap (list_any (λ y. y == q)) (taken_more xs i j x next h is))

pub all_seen : (xs : List ℕ) (n : ℕ) → length xs ≤ n → all_differ (take n xs) ≡ true → true ≡ all_differ xs
all_seen xs n h differ = sym (sym (ap all_differ (take_end xs n h)) ∙ differ)
