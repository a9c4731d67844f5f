-- Putting hashes in order one by one comes to the same as any sort of them.
use Rattle.std.proofs.Common.{◌≡◌, ◌∙◌, ℕ, ◌<◌, ◌≤◌, suc, Bool, true, false, not, ◌&&◌, List, [], ◌∷◌, length, get_or, refl, ap, sym, arith, cond, Ordering, Less, Equal, Greater}
use Rattle.std.proofs.lemmas.List.Sorted.{ranks_by, sorted_far}
use Rattle.std.specs.Cmp.{IsStrictWeakOrder}
use Rattle.std.specs.Cmp.Lexicographic.{slice_cmp, nat_list_cmp_total, texts_ties, bytes_decides}
use Rattle.std.specs.List.{filter, AllByRecursion}
use Rattle.std.specs.List.Sorted.{IsSorted, IsStable, ties}
use Rattle.std.specs.Ordering.{is_lt, is_eq, nat_cmp, ordering_reverse}
use Rattle.hash_model.specs.Serialize.{in_order, put_in_order}

abbrev pub Hashes : Type 0
Hashes = List (List ℕ)

abbrev pub below : List ℕ → List ℕ → Bool
below x y = is_lt (slice_cmp nat_cmp x y)

order : IsStrictWeakOrder below
order = ranks_by nat_list_cmp_total (λ x. x)

neither : (r : Ordering) → is_lt (ordering_reverse r) ≡ false → is_lt r ≡ false → is_eq (ordering_reverse r) ≡ true
neither Less h g = cc
neither Equal h g = refl
neither Greater h g = cc

-- of two different hashes one is less
pub level : (x y : List ℕ) → below x y ≡ false → below y x ≡ false → x ≡ y
level x y h g =
    let turned = nat_list_cmp_total.antisymm x y in
    (bytes_decides x y).0 (texts_ties x y ∙ ap is_eq turned ∙ neither (slice_cmp nat_cmp y x) (ap is_lt (sym turned) ∙ h) g)

not_itself : (x : List ℕ) → below x x ≡ false
not_itself x = elim (below x x) as (λ b. below x x ≡ b → below x x ≡ false) [ true ↦ λ e. order.one_way x x e | false ↦ λ e. e ] refl

-- whether it is this hash
abbrev pub alike : List ℕ → List ℕ → Bool
alike = ties below

alike_from : (b c : Bool) → (not b && not c) ≡ true → (b ≡ false) × (c ≡ false)
alike_from true c h = absurd (cc)
alike_from false true h = absurd (cc)
alike_from false false h = (refl, refl)

pub alike_is : (x y : List ℕ) → alike x y ≡ true → x ≡ y
alike_is x y h = let both = alike_from (below x y) (below y x) h in level x y both.0 both.1

pub alike_itself : (x : List ℕ) → alike x x ≡ true
alike_itself x = rw (not_itself x)

-- each of the hashes is at least x
abbrev pub From : List ℕ → Hashes → Type 0
From x xs = AllByRecursion (λ y. below y x ≡ false) xs

abbrev pub Ascends : Hashes → Type 0
Ascends [] = Unit {0}
Ascends (x ∷ xs) = From x xs × Ascends xs

not_alike : (b c : Bool) → b ≡ true → (not b && not c) ≡ false
not_alike true c h = refl
not_alike false c h = absurd (cc)

less_further : (y x z : List ℕ) → below y x ≡ true → below z x ≡ false → below y z ≡ true
less_further y x z h g =
    elim (below y z) as (λ b. below y z ≡ b → b ≡ true) [
      | true ↦ λ e. refl
      | false ↦ λ e. absurd (let far = order.chain y z x e g in cc)
    ] refl

-- what is less than all of them is none of them
none : (y x : List ℕ) → below y x ≡ true → (xs : Hashes) → From x xs → filter (alike y) xs ≡ []
none y x h [] all = refl
none y x h (z ∷ zs) all =
    let apart : alike y z ≡ false = not_alike (below y z) (below z y) (less_further y x z h all.0) in
    rw apart (none y x h zs all.1)

first_none : (y x : List ℕ) → below y x ≡ true → (xs : Hashes) → From x xs → filter (alike y) (x ∷ xs) ≡ []
first_none y x h xs all = none y x h (x ∷ xs) (not_itself x, all)

pub found : (y : List ℕ) (ys : Hashes) → filter (alike y) (y ∷ ys) ≡ y ∷ filter (alike y) ys
found y ys = rw (alike_itself y)

abbrev pub Same : Hashes → Hashes → Type 0
Same xs ys = (z : List ℕ) → filter (alike z) xs ≡ filter (alike z) ys

not_less : (x y : List ℕ) (xs ys : Hashes) → From x xs → filter (alike y) (x ∷ xs) ≡ filter (alike y) (y ∷ ys) → below y x ≡ false
not_less x y xs ys all same =
    elim (below y x) as (λ b. below y x ≡ b → b ≡ false) [
      | true ↦ λ e. absurd (let gone = first_none y x e xs all in let here = found y ys in cc)
      | false ↦ λ e. refl
    ] refl

behind : (b : Bool) (x : List ℕ) (xs ys : Hashes) → cond b (x ∷ xs) xs ≡ cond b (x ∷ ys) ys → xs ≡ ys
behind true x xs ys h = cc
behind false x xs ys h = h

-- two ascending lists of the same hashes are one
pub ascending_same : (xs ys : Hashes) → Ascends xs → Ascends ys → Same xs ys → xs ≡ ys
ascending_same [] [] up vp same = refl
ascending_same [] (y ∷ ys) up vp same = absurd (let e = same y in let here = found y ys in cc)
ascending_same (x ∷ xs) [] up vp same = absurd (let e = same x in let here = found x xs in cc)
ascending_same (x ∷ xs) (y ∷ ys) up vp same =
    let one : x ≡ y = level x y (not_less y x ys xs vp.0 (sym (same x))) (not_less x y xs ys up.0 (same y)) in
    let again : Same (x ∷ xs) (x ∷ ys) = λ z. same z ∙ ap (λ first. filter (alike z) (first ∷ ys)) (sym one) in
    let rest : xs ≡ ys = ascending_same xs ys up.1 vp.1 (λ z. behind (alike z x) x _ _ (again z)) in
    cc

-- a hash that is put in order is one of them, and the others stay
pub put_all : (P : List ℕ → Type 0) (h : List ℕ) → P h → (xs : Hashes) → AllByRecursion P xs → AllByRecursion P (put_in_order h xs)
unfolding put_in_order
put_all P h p [] all = (p, tt)
put_all P h p (x ∷ xs) all =
    elim (below x h) as (λ b. AllByRecursion P (cond b (x ∷ put_in_order h xs) (h ∷ x ∷ xs))) [
      | true ↦ (all.0, put_all P h p xs all.1)
      | false ↦ (p, all)
    ]

all_from : (x y : List ℕ) → below y x ≡ false → (xs : Hashes) → From y xs → From x xs
all_from x y h [] all = tt
all_from x y h (z ∷ zs) all = (order.chain z y x all.0 h, all_from x y h zs all.1)

put_ascends : (h : List ℕ) (xs : Hashes) → Ascends xs → Ascends (put_in_order h xs)
unfolding put_in_order
put_ascends h [] up = (tt, tt)
put_ascends h (x ∷ xs) up =
    elim (below x h) as (λ b. below x h ≡ b → Ascends (cond b (x ∷ put_in_order h xs) (h ∷ x ∷ xs))) [
      | true ↦ λ e. (put_all (λ y. below y x ≡ false) h (order.one_way x h e) xs up.0, put_ascends h xs up.1)
      | false ↦ λ e. ((e, all_from h x e xs up.0), up)
    ] refl

pub in_order-ascends : (xs : Hashes) → Ascends (in_order xs)
unfolding in_order
in_order-ascends [] = tt
in_order-ascends (x ∷ xs) = put_ascends x (in_order xs) (in_order-ascends xs)

exchange : (b c : Bool) (z x h : List ℕ) (rest : Hashes) → (b ≡ true → z ≡ x) → (c ≡ true → z ≡ h)
    → cond b (x ∷ cond c (h ∷ rest) rest) (cond c (h ∷ rest) rest) ≡ cond c (h ∷ cond b (x ∷ rest) rest) (cond b (x ∷ rest) rest)
exchange true true z x h rest p q = let e = p refl in let d = q refl in cc
exchange true false z x h rest p q = refl
exchange false true z x h rest p q = refl
exchange false false z x h rest p q = refl

put_same : (h : List ℕ) (xs : Hashes) → Same (put_in_order h xs) (h ∷ xs)
unfolding put_in_order
put_same h [] z = refl
put_same h (x ∷ xs) z =
    elim (below x h) as (λ b. filter (alike z) (cond b (x ∷ put_in_order h xs) (h ∷ x ∷ xs)) ≡ filter (alike z) (h ∷ x ∷ xs)) [
      | true ↦
          ap (λ rest. cond (alike z x) (x ∷ rest) rest) (put_same h xs z)
          ∙ exchange (alike z x) (alike z h) z x h (filter (alike z) xs) (alike_is z x) (alike_is z h)
      | false ↦ refl
    ]

pub in_order-same : (xs : Hashes) → Same (in_order xs) xs
unfolding in_order
in_order-same [] z = refl
in_order-same (x ∷ xs) z =
    put_same x (in_order xs) z ∙ ap (λ rest. cond (alike z x) (x ∷ rest) rest) (in_order-same xs z)

-- each hash of a sorted list is at most those after it
ascends_from : (xs : Hashes) → ((i j : ℕ) (d : List ℕ) → i ≤ j → j < length xs → below (get_or xs j d) (get_or xs i d) ≡ false) → Ascends xs
ascends_from [] far = tt
ascends_from (x ∷ xs) far = (
  each x xs (λ j below_length. far 0 (suc j) x (omega arith) (omega arith)),
  ascends_from xs (λ i j d h g. far (suc i) (suc j) d (omega arith) (omega arith)),
)
  where
    each : (x : List ℕ) (ys : Hashes) → ((j : ℕ) → j < length ys → below (get_or ys j x) x ≡ false) → From x ys
    each x [] h = tt
    each x (y ∷ ys) h = (h 0 (omega arith), each x ys (λ j g. h (suc j) (omega arith)))

-- what a stable sort leaves
pub sorted-in_order : (xs ys : Hashes) → IsSorted (slice_cmp nat_cmp) ys → IsStable (slice_cmp nat_cmp) xs ys → ys ≡ in_order xs
sorted-in_order xs ys up stable =
    ascending_same ys (in_order xs) (ascends_from ys (λ i j d h g. sorted_far below order ys up i j d h g)) (in_order-ascends xs)
    (λ z. stable z ∙ sym (in_order-same xs z))
