-- What is so of each member of a list.
use Rattle.std.proofs.Common.{◌≡◌, ℕ, zero, suc, ◌≤◌, ◌<◌, List, [], ◌∷◌, ◌++◌, length, take, drop, map, refl, sym, subst, arith}
use Rattle.std.specs.Prelude.{Contains, slice_index_or}
use Rattle.std.specs.List.{AllByRecursion}
use Rattle.outside.specs.Store.{fronts, fronts_from}

pub all_append : {A : Type 0} (P : A → Type 0) (xs ys : List A) → AllByRecursion P xs → AllByRecursion P ys → AllByRecursion P (xs ++ ys)
all_append P [] ys h k = k
all_append P (x ∷ xs) ys h k = (h.0, all_append P xs ys h.1 k)

pub all_map : {A : Type 0} (P Q : A → Type 0) (xs : List A) → ((x : A) → P x → Q x) → AllByRecursion P xs → AllByRecursion Q xs
all_map P Q [] f h = tt
all_map P Q (x ∷ xs) f h = (f x h.0, all_map P Q xs f h.1)

all_of_map : {A B : Type 0} (P : B → Type 0) (f : A → B) (xs : List A) → AllByRecursion (λ x. P (f x)) xs → AllByRecursion P (map f xs)
all_of_map P f [] h = tt
all_of_map P f (x ∷ xs) h = (h.0, all_of_map P f xs h.1)

drop_map : {A B : Type 0} (f : A → B) (n : ℕ) (xs : List A) → drop n (map f xs) ≡ map f (drop n xs)
drop_map f zero xs = refl
drop_map f (suc n) [] = refl
drop_map f (suc n) (x ∷ xs) = drop_map f n xs

drop_none : (P : List ℕ → Type 0) (n : ℕ) → AllByRecursion P (drop n [])
drop_none P zero = tt
drop_none P (suc n) = tt

-- what is so of each front part of at least this length is so of all of them
pub all_fronts : (P : List ℕ → Type 0) (least : ℕ) (whole : List ℕ) → ((k : ℕ) → least ≤ k → P (take k whole))
    → AllByRecursion P (fronts_from least whole)
all_fronts P zero [] h = (h 0 (omega arith), tt)
all_fronts P (suc n) [] h = drop_none P n
all_fronts P zero (x ∷ xs) h = (
  h 0 (omega arith),
  all_of_map P (λ front. x ∷ front) (fronts xs)
      (all_fronts (λ front. P (x ∷ front)) zero xs (λ k le. h (suc k) (omega arith))),
)
all_fronts P (suc n) (x ∷ xs) h =
    subst (AllByRecursion P) (sym (drop_map (λ front. x ∷ front) n (fronts xs)))
    (all_of_map P (λ front. x ∷ front) (drop n (fronts xs))
    (all_fronts (λ front. P (x ∷ front)) n xs (λ k le. h (suc k) (omega (arith, le)))))

-- what is so of each is so of one that is in the list
pub all_at : {A : Type 0} (P : A → Type 0) (xs : List A) (k : ℕ) (d : A) → k < length xs → AllByRecursion P xs → P (slice_index_or xs k d)
all_at P [] k d less h = let bad : ⊥ = omega (arith, less) in absurd bad
all_at P (x ∷ xs) zero d less h = h.0
all_at P (x ∷ xs) (suc k) d less h = all_at P xs k d (omega (arith, less)) h.1

pub all_contains : {A : Type 0} (P : A → Type 0) (xs : List A) (x : A) → Contains xs x → AllByRecursion P xs → P x
all_contains P xs x among h = subst P among.2 (all_at P xs among.0 x among.1 h)
