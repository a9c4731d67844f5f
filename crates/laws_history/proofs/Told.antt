-- Numbers that outcomes tell: that they differ where each belongs to one place, and their greatest.
use Rattle.std.proofs.Common.{◌≡◌, ℕ, ◌≤◌, true, not, ◌==◌, List, [], ◌∷◌, ◌++◌, map, refl, ap, subst, inl, inr, arith}
use Rattle.std.specs.List.{AllByRecursion, list_any}
use Rattle.std.proofs.lemmas.Bool.{and_from, not_from_false}
use Rattle.ql_types.specs.declared.Place.{Place}
use Rattle.ledger_model.specs.declared.outcome.Outcome.{Outcome}
use Rattle.ledger_model.specs.declared.outcome.Outcome.TheVariants.{Committed, Conflict, Refused, DigestDiffers, StoreFault, JournalFull, IdsSpent, Aborted, Denied, OutOfMemory}
use Rattle.ledger_model.specs.Follows.{all_differ}
use Rattle.ledger_model.specs.Script.{Placed}
use Rattle.turn_lock.specs.History.{Stands}
use Rattle.laws_validity.proofs.Lists.{all_append, all_like, apart}
use Rattle.laws_history.specs.Records.{greatest_count, told_count, told_counts, told_id, told_ids, InOrder, IsBehind}
use Rattle.laws_history.proofs.Places.{behind_differs}
use Rattle.laws_history.specs.Runs.{Served, told_of}
use Rattle.laws_history.proofs.Lists.{stands_front, stands_rest}

-- ---- numbers of places

-- what the outcomes tell, in order
abbrev pub tells : (Outcome → List ℕ) → List Served → List ℕ
tells tell [] = []
tells tell (s ∷ ss) = tell s.outcome ++ tells tell ss

pub ids_told : (ss : List Served) → told_ids (map told_of ss) ≡ tells told_id ss
ids_told [] = refl
ids_told (s ∷ ss) = ap (λ (xs : List ℕ). told_id s.outcome ++ xs) (ids_told ss)

pub counts_told : (ss : List Served) → told_counts (map told_of ss) ≡ tells told_count ss
counts_told [] = refl
counts_told (s ∷ ss) = ap (λ (xs : List ℕ). told_count s.outcome ++ xs) (counts_told ss)

-- one at most
abbrev pub IsOne : List ℕ → Type 0
IsOne [] = Unit {0}
IsOne (x ∷ []) = Unit {0}
IsOne (x ∷ y ∷ xs) = ⊥

pub one_id : (x : Outcome) → IsOne (told_id x)
one_id (Committed tx block) = tt
one_id (Conflict tx since named) = tt
one_id (Refused tx since statement cause) = tt
one_id (DigestDiffers tx since mine given) = tt
one_id (StoreFault tx count) = tt
one_id (JournalFull tx blocks) = tt
one_id (IdsSpent last) = tt
one_id (Aborted tx since) = tt
one_id (Denied statement action table rule) = tt
one_id OutOfMemory = tt

pub one_count : (x : Outcome) → IsOne (told_count x)
one_count (Committed tx block) = tt
one_count (Conflict tx since named) = tt
one_count (Refused tx since statement cause) = tt
one_count (DigestDiffers tx since mine given) = tt
one_count (StoreFault tx count) = tt
one_count (JournalFull tx blocks) = tt
one_count (IdsSpent last) = tt
one_count (Aborted tx since) = tt
one_count (Denied statement action table rule) = tt
one_count OutOfMemory = tt

module _ (tell : Outcome → List ℕ) (one : (x : Outcome) → IsOne (tell x)) (Of : Place → ℕ → Type 0)
    (single : (p q : Place) (n : ℕ) → Of p n → Of q n → p ≡ q) where
  -- each number is of its outcome's place
  abbrev pub EachOf : List Served → Type 0
  EachOf ss = AllByRecursion (λ (s : Served). AllByRecursion (Of s.placed.place) (tell s.outcome)) ss

  others : (p : Placed) (n : ℕ) → Of p.place n → (ss : List Served) → EachOf ss
      → AllByRecursion (IsBehind p.place) (map (λ (s : Served). s.placed) ss)
      → AllByRecursion (λ m. n ≡ m → ⊥) (tells tell ss)
  others p n own [] each behind = tt
  others p n own (s ∷ ss) each behind =
      all_append (λ m. n ≡ m → ⊥) (tell s.outcome) (tells tell ss)
      (all_like (Of s.placed.place) (λ m. n ≡ m → ⊥)
      (λ m of same. behind_differs p.place s.placed behind.0
      (single p.place s.placed.place m (subst (Of p.place) same own) of)) (tell s.outcome) each.0)
      (others p n own ss each.1 behind.1)

  differ_by : (p : Placed) (ns : List ℕ) → IsOne ns → AllByRecursion (Of p.place) ns → (ss : List Served) → EachOf ss
      → AllByRecursion (IsBehind p.place) (map (λ (s : Served). s.placed) ss)
      → all_differ (tells tell ss) ≡ true → all_differ (ns ++ tells tell ss) ≡ true
  differ_by p [] is own ss each behind rest = rest
  differ_by p (n ∷ []) is own ss each behind rest =
      and_from (not (list_any (λ m. n == m) (tells tell ss))) (all_differ (tells tell ss))
      (not_from_false (list_any (λ m. n == m) (tells tell ss))
      (apart n (tells tell ss) (others p n own.0 ss each behind))) rest
  differ_by p (n ∷ m ∷ ns) is own ss each behind rest = absurd is

  pub all_apart : (ss : List Served) → InOrder (map (λ (s : Served). s.placed) ss) → EachOf ss
      → all_differ (tells tell ss) ≡ true
  all_apart [] order each = refl
  all_apart (s ∷ ss) order each =
      differ_by s.placed (tell s.outcome) (one s.outcome) each.0 ss each.1 order.0 (all_apart ss order.1 each.1)

-- ---- the greatest

pub least_greatest : (least : ℕ) (xs : List ℕ) → least ≤ greatest_count least xs
least_greatest least [] = omega arith
least_greatest least (x ∷ xs) = omega (arith, least_greatest least xs)

pub stands_greatest : (least : ℕ) (xs : List ℕ) (x : ℕ) → Stands x xs → x ≤ greatest_count least xs
stands_greatest least [] x h = absurd h
stands_greatest least (y ∷ xs) x (inl e) = omega (arith, e)
stands_greatest least (y ∷ xs) x (inr h) = omega (arith, stands_greatest least xs x h)

pub greatest_most : (least most : ℕ) (xs : List ℕ) → least ≤ most → AllByRecursion (λ x. x ≤ most) xs
    → greatest_count least xs ≤ most
greatest_most least most [] low h = low
greatest_most least most (x ∷ xs) low h =
    let rest = greatest_most least most xs low h.1 in let here : x ≤ most = h.0 in omega (arith, rest, here)

-- ---- one number of one outcome

pub stands_told : (tell : Outcome → List ℕ) (n : ℕ) (s : Served) (ss : List Served) → Stands s ss
    → Stands n (tell s.outcome)
    → Stands n (tells tell ss)
stands_told tell n s [] h k = absurd h
stands_told tell n s (r ∷ ss) (inl e) k =
    stands_front n (tell r.outcome) (tells tell ss) (subst (λ (x : Served). Stands n (tell x.outcome)) e k)
stands_told tell n s (r ∷ ss) (inr h) k = stands_rest n (tell r.outcome) (tells tell ss) (stands_told tell n s ss h k)

pub all_tells : (tell : Outcome → List ℕ) (P : ℕ → Type 0) (ss : List Served)
    → AllByRecursion (λ (s : Served). AllByRecursion P (tell s.outcome)) ss → AllByRecursion P (tells tell ss)
all_tells tell P [] h = tt
all_tells tell P (s ∷ ss) h = all_append P (tell s.outcome) (tells tell ss) h.0 (all_tells tell P ss h.1)
