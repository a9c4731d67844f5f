-- Where the transaction of a name stands.
use Rattle.std.proofs.Common.{◌≡◌, ℕ, suc, ◌+◌, ◌<◌, true, false, List, [], ◌∷◌, ◌++◌, length, take, drop, get_or, drop-cons, take-suc, Some, refl, sym, ap, ◌∙◌, arith, if◌then◌else◌}
use Rattle.interleavings.specs.declared.desk.OpenTxn.{OpenTxn}
use Rattle.interleavings.specs.Desks.{IsNowhere, StandsAt, has_name, named, without}

-- what was looked at so far is of other names
pub record LooksOn (name : List ℕ) (at : ℕ) (xs : List OpenTxn) : Type 0 where
  pub named_is : named name (drop at xs) ≡ named name xs
  pub rest : without name xs ≡ take at xs ++ without name (drop at xs)

pub opened_at : (xs : List OpenTxn) (at : ℕ) (x : OpenTxn) → at < length xs → drop at xs ≡ get_or xs at x ∷ drop (at + 1) xs
opened_at xs at x within =
    let step : suc at ≡ at + 1 = omega arith in
    drop-cons xs at x within ∙ ap (λ n. get_or xs at x ∷ drop n xs) step

taken_next : (xs : List OpenTxn) (at : ℕ) (x : OpenTxn) → at < length xs → take (at + 1) xs ≡ take at xs ++ get_or xs at x ∷ []
taken_next xs at x within =
    let step : at + 1 ≡ suc at = omega arith in
    ap (λ n. take n xs) step ∙ take-suc xs at x within

joined : (ys : List OpenTxn) (x : OpenTxn) (zs : List OpenTxn) → ys ++ (x ∷ zs) ≡ (ys ++ x ∷ []) ++ zs
joined [] x zs = refl
joined (y ∷ ys) x zs = ap (λ l. y ∷ l) (joined ys x zs)

pub looks_start : (name : List ℕ) (xs : List OpenTxn) → LooksOn name 0 xs
looks_start name xs = record { named_is = refl; rest = refl }

-- ---- the next one is of another name

module _ (name : List ℕ) (at : ℕ) (xs : List OpenTxn) (x : OpenTxn) (within : at < length xs) (is : x ≡ get_or xs at x) (looks : LooksOn name at xs) where
  here : drop at xs ≡ x ∷ drop (at + 1) xs
  here = opened_at xs at x within ∙ ap (λ y. y ∷ drop (at + 1) xs) (sym is)

  pub looks_next : has_name name x ≡ false → LooksOn name (at + 1) xs
  looks_next other = record {
    named_is =
        sym (ap (λ b. if b then Some x.txn else named name (drop (at + 1) xs)) other)
        ∙ sym (ap (named name) here) ∙ looks.named_is;
    rest =
        looks.rest
        ∙ ap (λ l. take at xs ++ without name l) here
        ∙ ap (λ b. take at xs ++ (if b then drop (at + 1) xs else x ∷ without name (drop (at + 1) xs))) other
        ∙ joined (take at xs) x (without name (drop (at + 1) xs))
        ∙ ap (λ y. (take at xs ++ y ∷ []) ++ without name (drop (at + 1) xs)) is
        ∙ ap (λ l. l ++ without name (drop (at + 1) xs)) (sym (taken_next xs at x within));
  }

  same_at : (d : OpenTxn) → x ≡ get_or xs at d
  same_at d = let both : x ∷ drop (at + 1) xs ≡ get_or xs at d ∷ drop (at + 1) xs = sym here ∙ opened_at xs at d within in cc both

  pub looks_at : has_name name x ≡ true → StandsAt name xs at
  looks_at own = record {
    inside = within;
    found = λ d.
        sym looks.named_is ∙ ap (named name) here
        ∙ ap (λ b. if b then Some x.txn else named name (drop (at + 1) xs)) own
        ∙ ap (λ (y : OpenTxn). Some y.txn) (same_at d);
    rest =
        looks.rest
        ∙ ap (λ l. take at xs ++ without name l) here
        ∙ ap (λ b. take at xs ++ (if b then drop (at + 1) xs else x ∷ without name (drop (at + 1) xs))) own;
  }

-- ---- none is left

dropped_all : (xs : List OpenTxn) → drop (length xs) xs ≡ []
dropped_all [] = refl
dropped_all (x ∷ xs) = dropped_all xs

taken_all : (xs : List OpenTxn) → take (length xs) xs ≡ xs
taken_all [] = refl
taken_all (x ∷ xs) = ap (λ l. x ∷ l) (taken_all xs)

with_none : (xs : List OpenTxn) → xs ++ [] ≡ xs
with_none [] = refl
with_none (x ∷ xs) = ap (λ l. x ∷ l) (with_none xs)

pub looks_none : (name : List ℕ) (at : ℕ) (xs : List OpenTxn) → at ≡ length xs → LooksOn name at xs → IsNowhere name xs
looks_none name at xs end looks =
    let none : drop at xs ≡ [] = ap (λ n. drop n xs) end ∙ dropped_all xs in
    record {
      none = sym looks.named_is ∙ ap (named name) none;
      rest =
          looks.rest ∙ ap (λ l. take at xs ++ without name l) none ∙ with_none (take at xs)
          ∙ ap (λ n. take n xs) end ∙ taken_all xs;
    }

-- ---- it is taken

pub taken_txn : (name : List ℕ) (xs : List OpenTxn) (at : ℕ) (x : OpenTxn) → StandsAt name xs at → x ≡ get_or xs at x → Some x.txn ≡ named name xs
taken_txn name xs at x stands is = sym (stands.found x ∙ ap (λ (y : OpenTxn). Some y.txn) (sym is))

pub taken_rest : (name : List ℕ) (xs ys : List OpenTxn) (at : ℕ) → StandsAt name xs at → ys ≡ take at xs ++ drop (at + 1) xs → ys ≡ without name xs
taken_rest name xs ys at stands is = is ∙ sym stands.rest
