-- Lists of which each element is fine, and lists of numbers that all differ.
use Rattle.std.proofs.Common.{◌≡◌, ◌∙◌, ◌||◌, ◌==◌, ℕ, Bool, true, false, not, List, [], ◌∷◌, ◌++◌, map, get_or, zero, suc, refl, sym, subst, append-nil}
use Rattle.std.specs.List.{AllByRecursion, list_all, list_any}
use Rattle.std.proofs.lemmas.Bool.{and_from, and_parts, or_from, or_parts, not_from_false, not-true, ne_eqb, eqb-false}
use Rattle.std.proofs.lemmas.List.Folds.{list_any-append}
use Rattle.ledger_model.specs.Follows.{all_differ}

pub all_append : {X : Type 0} (P : X → Type 0) (xs ys : List X) → AllByRecursion P xs → AllByRecursion P ys
    → AllByRecursion P (xs ++ ys)
all_append P [] ys h k = k
all_append P (x ∷ xs) ys h k = (h.0, all_append P xs ys h.1 k)

pub all_push : {X : Type 0} (P : X → Type 0) (xs : List X) (x : X) → AllByRecursion P xs → P x
    → AllByRecursion P (xs ++ x ∷ [])
all_push P xs x h k = all_append P xs (x ∷ []) h (k, tt)

pub all_front : {X : Type 0} (P : X → Type 0) (xs ys : List X) → AllByRecursion P (xs ++ ys) → AllByRecursion P xs
all_front P [] ys h = tt
all_front P (x ∷ xs) ys h = (h.0, all_front P xs ys h.1)

pub all_rest : {X : Type 0} (P : X → Type 0) (xs ys : List X) → AllByRecursion P (xs ++ ys) → AllByRecursion P ys
all_rest P [] ys h = h
all_rest P (x ∷ xs) ys h = all_rest P xs ys h.1

pub all_insert : {X : Type 0} (P : X → Type 0) (xs ys : List X) (x : X) → AllByRecursion P (xs ++ ys) → P x
    → AllByRecursion P (xs ++ x ∷ ys)
all_insert P [] ys x h k = (k, h)
all_insert P (z ∷ xs) ys x h k = (h.0, all_insert P xs ys x h.1 k)

pub all_like : {X : Type 0} (P Q : X → Type 0) → ((x : X) → P x → Q x) → (xs : List X) → AllByRecursion P xs
    → AllByRecursion Q xs
all_like P Q f [] h = tt
all_like P Q f (x ∷ xs) h = (f x h.0, all_like P Q f xs h.1)

pub all_both : {X : Type 0} (P Q : X → Type 0) (xs : List X) → AllByRecursion P xs → AllByRecursion Q xs
    → AllByRecursion (λ x. P x × Q x) xs
all_both P Q [] h k = tt
all_both P Q (x ∷ xs) h k = ((h.0, k.0), all_both P Q xs h.1 k.1)

pub all_mapped : {X Y : Type 0} (P : Y → Type 0) (f : X → Y) (xs : List X) → AllByRecursion (λ x. P (f x)) xs
    → AllByRecursion P (map f xs)
all_mapped P f [] h = tt
all_mapped P f (x ∷ xs) h = (h.0, all_mapped P f xs h.1)

pub all_unmapped : {X Y : Type 0} (P : Y → Type 0) (f : X → Y) (xs : List X) → AllByRecursion P (map f xs)
    → AllByRecursion (λ x. P (f x)) xs
all_unmapped P f [] h = tt
all_unmapped P f (x ∷ xs) h = (h.0, all_unmapped P f xs h.1)

pub all_read : {X : Type 0} (P : X → Type 0) (d : X) → P d → (xs : List X) (i : ℕ) → AllByRecursion P xs
    → P (get_or xs i d)
all_read P d k [] i h = k
all_read P d k (x ∷ xs) zero h = h.0
all_read P d k (x ∷ xs) (suc i) h = all_read P d k xs i h.1

pub passes : {X : Type 0} (p : X → Bool) (xs : List X) → AllByRecursion (λ x. p x ≡ true) xs → list_all p xs ≡ true
passes p [] h = refl
passes p (x ∷ xs) h = and_from (p x) (list_all p xs) h.0 (passes p xs h.1)

pub passing : {X : Type 0} (p : X → Bool) (xs : List X) → list_all p xs ≡ true → AllByRecursion (λ x. p x ≡ true) xs
passing p [] h = tt
passing p (x ∷ xs) h = let both = and_parts (p x) (list_all p xs) h in (both.0, passing p xs both.1)

-- ---- numbers that differ

pub apart : (z : ℕ) (xs : List ℕ) → AllByRecursion (λ x. z ≡ x → ⊥) xs → list_any (λ x. z == x) xs ≡ false
apart z [] h = refl
apart z (x ∷ xs) h = or_from (z == x) (list_any (λ y. z == y) xs) (ne_eqb z x h.0) (apart z xs h.1)

pub other_way : (x z : ℕ) → (z == x) ≡ false → (x == z) ≡ false
other_way x z h = ne_eqb x z (λ e. eqb-false z x h (sym e))

-- one number more among them
pub differ_put : (xs ys : List ℕ) (z : ℕ) → all_differ (xs ++ ys) ≡ true → list_any (λ y. z == y) (xs ++ ys) ≡ false
    → all_differ (xs ++ z ∷ ys) ≡ true
differ_put [] ys z h k = and_from _ _ (not_from_false _ k) h
differ_put (x ∷ xs) ys z h k =
    let both = and_parts (not (list_any (λ y. x == y) (xs ++ ys))) (all_differ (xs ++ ys)) h in
    let new = or_parts (z == x) (list_any (λ y. z == y) (xs ++ ys)) k in
    let none : list_any (λ y. x == y) xs || list_any (λ y. x == y) ys ≡ false =
    sym (list_any-append (λ y. x == y) xs ys) ∙ not-true _ both.0 in
    let each = or_parts (list_any (λ y. x == y) xs) (list_any (λ y. x == y) ys) none in
    let now : list_any (λ y. x == y) (xs ++ z ∷ ys) ≡ false =
    list_any-append (λ y. x == y) xs (z ∷ ys)
    ∙ or_from _ _ each.0 (or_from (x == z) (list_any (λ y. x == y) ys) (other_way x z new.0) each.1) in
    and_from _ _ (not_from_false _ now) (differ_put xs ys z both.1 new.1)

pub differ_push : (xs : List ℕ) (z : ℕ) → all_differ xs ≡ true → list_any (λ y. z == y) xs ≡ false
    → all_differ (xs ++ z ∷ []) ≡ true
differ_push xs z h k =
    differ_put xs [] z (subst (λ l. all_differ l ≡ true) (sym (append-nil xs)) h)
    (subst (λ l. list_any (λ y. z == y) l ≡ false) (sym (append-nil xs)) k)
