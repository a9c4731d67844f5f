-- Numbers that differ.
use Rattle.std.proofs.Common.{◌≡◌, ◌∙◌, ℕ, Bool, true, false, ◌&&◌, ◌||◌, not, ◌==◌, List, [], ◌∷◌, ◌++◌, refl, sym, ap, ⊎_elim}
use Rattle.std.specs.List.{list_all, list_any}
use Rattle.std.proofs.lemmas.List.Folds.{list_any-append}
use Rattle.std.proofs.lemmas.Bool.{and_left, and_parts, and_right, cases_Bool, not_from_false}
use Rattle.ledger_model.specs.Follows.{all_differ}

-- no number of the first list is in the second
abbrev pub apart : List ℕ → List ℕ → Bool
apart xs ys = list_all (λ x. not (list_any (λ y. x == y) ys)) xs

regroup : (a b d p e : Bool) → (not (a || b) && ((d && p) && e)) ≡ (((not a && d) && (not b && p)) && e)
regroup true b d p e = refl
regroup false true true p e = refl
regroup false true false p e = refl
regroup false false d p e = refl

pub all_differ-append : (xs ys : List ℕ) → all_differ (xs ++ ys) ≡ ((all_differ xs && apart xs ys) && all_differ ys)
all_differ-append [] ys = refl
all_differ-append (x ∷ xs) ys = rw (list_any-append (λ y. x == y) xs ys, all_differ-append xs ys) (regroup (list_any (λ y. x == y) xs) (list_any (λ y. x == y) ys) (all_differ xs) (apart xs ys) (all_differ ys))

pub all_differ-front : (xs ys : List ℕ) → all_differ (xs ++ ys) ≡ true → all_differ xs ≡ true
all_differ-front xs ys h = (and_parts (all_differ xs) (apart xs ys) (and_parts (all_differ xs && apart xs ys) (all_differ ys) (sym (all_differ-append xs ys) ∙ h)).0).0

one_or_more : (b r : Bool) → (not (b || false) && not r) ≡ not (b || r)
one_or_more true r = refl
one_or_more false r = refl

apart-one : (xs : List ℕ) (x : ℕ) → apart xs (x ∷ []) ≡ not (list_any (λ y. y == x) xs)
apart-one [] x = refl
apart-one (z ∷ xs) x = rw (apart-one xs x) (one_or_more (z == x) (list_any (λ y. y == x) xs))

three : (a b : Bool) → a ≡ true → b ≡ true → ((a && b) && true) ≡ true
three a b h g = cc

-- one more, which isn't among the others
pub differ-push : (xs : List ℕ) (x : ℕ) → all_differ xs ≡ true → list_any (λ y. y == x) xs ≡ false → all_differ (xs ++ x ∷ []) ≡ true
differ-push xs x differ away = all_differ-append xs (x ∷ []) ∙ three (all_differ xs) (apart xs (x ∷ [])) differ (apart-one xs x ∙ not_from_false (list_any (λ y. y == x) xs) away)

hit : (b p q : Bool) → b ≡ true → (not (b || p) && q) ≡ false
hit b p q h = cc

apart-hit : (xs ys : List ℕ) (x : ℕ) → list_any (λ y. y == x) xs ≡ true → apart xs (x ∷ ys) ≡ false
apart-hit [] ys x h = cc
apart-hit (z ∷ xs) ys x h =
    ⊎_elim
    (λ y. hit (z == x) (list_any (λ q. z == q) ys) (apart xs (x ∷ ys)) y)
    (λ n. and_right (not (list_any (λ q. z == q) (x ∷ ys))) (apart xs (x ∷ ys)) (apart-hit xs ys x (sym (ap (λ b. b || list_any (λ y. y == x) xs) n) ∙ h)))
    (cases_Bool (z == x))

-- a number that is among those before it
pub differ-again : (xs ys : List ℕ) (x : ℕ) → list_any (λ y. y == x) xs ≡ true → all_differ (xs ++ x ∷ ys) ≡ false
differ-again xs ys x h = all_differ-append xs (x ∷ ys) ∙ and_left (all_differ xs && apart xs (x ∷ ys)) (all_differ (x ∷ ys)) (and_right (all_differ xs) (apart xs (x ∷ ys)) (apart-hit xs ys x h))
