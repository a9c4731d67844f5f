-- Numbers that rise, and those of them that follow one another.
use Rattle.std.proofs.Common.{◌≡◌, ℕ, ◌+◌, ◌<◌, ◌≤◌, List, [], ◌∷◌, ◌++◌, map, length, ap, ◌∙◌, arith}
use Rattle.std.specs.List.{AllByRecursion}
use Rattle.ql_types.specs.Ids.{raw_id, transaction_in}
use Rattle.ledger_model.specs.declared.outcome.Outcome.{Outcome}
use Rattle.laws_validity.proofs.Lists.{all_like}
use Rattle.laws_history.specs.Alone.{AreNext, InRow}
use Rattle.laws_history.specs.Runs.{Served}
use Rattle.laws_history.proofs.Told.{IsOne, all_tells, tells}

-- each is below all behind it
abbrev pub Rise : List ℕ → Type 0
Rise [] = Unit {0}
Rise (x ∷ xs) = AllByRecursion (λ y. x < y) xs × Rise xs

-- there is room for all of them below the bound
pub room_for : (x most : ℕ) (xs : List ℕ) → x ≤ most → AllByRecursion (λ y. x ≤ y) xs
    → AllByRecursion (λ y. y < most) xs
    → Rise xs → x + length xs ≤ most
room_for x most [] low from below rise = omega (arith, low)
room_for x most (y ∷ xs) low from below rise =
    let here : y < most = below.0 in
    let first : x ≤ y = from.0 in
    let rest = room_for (y + 1) most xs (omega (arith, here))
    (all_like (λ z. y < z) (λ z. y + 1 ≤ z) (λ z less. omega (arith, less)) xs rise.0) below.1 rise.1 in
    omega (arith, first, rest)

-- where they fill it, they follow one another
pub in_row : (x most : ℕ) (xs : List ℕ) → AllByRecursion (λ y. x ≤ y) xs → AllByRecursion (λ y. y < most) xs → Rise xs
    → most ≤ x + length xs → InRow x xs
in_row x most [] from below rise full = tt
in_row x most (y ∷ xs) from below rise full =
    let here : y < most = below.0 in
    let first : x ≤ y = from.0 in
    let later : AllByRecursion (λ z. y + 1 ≤ z) xs = all_like (λ z. y < z) (λ z. y + 1 ≤ z)
    (λ z less. omega (arith, less)) xs rise.0 in
    let room = room_for (y + 1) most xs (omega (arith, here)) later below.1 rise.1 in
    let is : y ≡ x = omega (arith, first, room, full) in (
      is,
      in_row (x + 1) most xs
          (all_like (λ z. y + 1 ≤ z) (λ z. x + 1 ≤ z) (λ z less. omega (arith, less, is)) xs later) below.1
          rise.1 (omega (arith, full)),
    )

-- ---- what outcomes tell, one number at most each

module _ (tell : Outcome → List ℕ) where
  -- what the first tells is below all that the second does
  abbrev pub TellsLess : Outcome → Outcome → Type 0
  TellsLess first second = AllByRecursion (λ m. AllByRecursion (λ n. m < n) (tell second)) (tell first)

  abbrev pub AllLess : List Served → Type 0
  AllLess [] = Unit {0}
  AllLess (s ∷ ss) = AllByRecursion (λ (r : Served). TellsLess s.outcome r.outcome) ss × AllLess ss

module _ (tell : Outcome → List ℕ) (one : (x : Outcome) → IsOne (tell x)) where
  rise_by : (ms : List ℕ) → IsOne ms → (ss : List Served)
      → AllByRecursion (λ (r : Served). AllByRecursion (λ m. AllByRecursion (λ n. m < n) (tell r.outcome)) ms) ss
      → Rise (tells tell ss) → Rise (ms ++ tells tell ss)
  rise_by [] is ss less rise = rise
  rise_by (m ∷ []) is ss less rise = (
    all_tells tell (λ n. m < n) ss
        (all_like (λ (r : Served). AllByRecursion (λ k. AllByRecursion (λ n. k < n) (tell r.outcome)) (m ∷ []))
        (λ (r : Served). AllByRecursion (λ n. m < n) (tell r.outcome)) (λ r h. h.0) ss less),
    rise,
  )
  rise_by (m ∷ n ∷ ms) is ss less rise = absurd is

  pub told_rise : (ss : List Served) → AllLess tell ss → Rise (tells tell ss)
  told_rise [] less = tt
  told_rise (s ∷ ss) less = rise_by (tell s.outcome) (one s.outcome) ss less.0 (told_rise ss less.1)

-- ---- ids by their numbers

pub are_next : (mask last : ℕ) (raws : List ℕ)
    → AllByRecursion (λ raw. raw ≡ raw_id mask (transaction_in mask raw) 0) raws
    → InRow (last + 1) (map (transaction_in mask) raws) → AreNext mask last raws
are_next mask last [] own row = tt
are_next mask last (raw ∷ raws) own row =
    (own.0 ∙ ap (λ n. raw_id mask n 0) row.0, are_next mask (last + 1) raws own.1 row.1)
