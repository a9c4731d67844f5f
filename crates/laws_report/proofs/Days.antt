-- The date that a day's definition makes of it is a date of the calendar, and its number is that of the day.
use Rattle.std.proofs.Common.{◌≡◌, ◌+◌, ◌-◌, ◌<◌, ◌≤◌, ℕ, zero, suc, ℤ, pos, neg_ℤ, ◌≤ℤ◌, ◌-ℤ◌, int_le, unsigned_abs, Bool, true, false, inl, inr, refl, sym, ap, ◌∙◌, subst, arith}
use Rattle.std.proofs.lemmas.Bool.{cases_eq, cond_both}
use borrow.Author.Differences.{up, down, le-true, le-false}
use Rattle.jiff_core.specs.Calendar.{IsCivilDate, days_from_civil, days_in_month, days_in_year, day_count}
use Rattle.jiff_core.proofs.CalendarLemmas.{days_from_civil-day_count, day_count-day, day_count-next_month, day_count-last_of_year, day_count-next_year, day_count-end}
use Rattle.jiff_core.proofs.SignedLemmas.{signed_arith, one_part, unsigned_abs-parts}
use Rattle.ion_values.proofs.Years.{first_day}
use Rattle.ledger_model.specs.Moment.{last_begun, year_of, month_of, day_of}

not_false : (b : Bool) → (b ≡ false → ⊥) → b ≡ true
not_false true h = refl
not_false false h = absurd (h refl)

le_yes : (a b : ℤ) → up a + down b ≤ up b + down a → int_le a b ≡ true
le_yes a b h = not_false (int_le a b) (λ fails. omega (arith, le-false a b fails))

-- the last that has begun on the day, of those from 1 to n
record Begun (start : ℕ → ℤ) (day : ℤ) (n k : ℕ) : Type 0 where
  pub least : 1 ≤ k
  pub most : k ≤ n
  pub here : int_le (start k) day ≡ true
  pub next : k < n → int_le (start (suc k)) day ≡ false

begun : (start : ℕ → ℤ) (day : ℤ) → int_le (start 1) day ≡ true → (n : ℕ) → 1 ≤ n → Begun start day n (last_begun start day n)
begun start day first zero one = absurd (omega arith)
begun start day first (suc zero) one =
    cond_both (int_le (start 1) day) 1 0 (Begun start day 1)
    (λ here. record { least = omega arith; most = omega arith; here = here; next = λ less. absurd (omega arith) })
    (λ fails. absurd (let no : true ≡ false = sym first ∙ fails in cc))
begun start day first (suc (suc n)) one =
    cond_both (int_le (start (suc (suc n))) day) (suc (suc n)) (last_begun start day (suc n)) (Begun start day (suc (suc n)))
    (λ here. record { least = omega arith; most = omega arith; here = here; next = λ less. absurd (omega arith) })
    (λ fails.
    let before = begun start day first (suc n) (omega arith) in
    let most = before.most in
    record {
      least = before.least;
      most = omega (arith, most);
      here = before.here;
      next = λ less.
          elim (cases_eq (last_begun start day (suc n)) (suc n)) [
            | inl last ↦ subst (λ (k : ℕ). int_le (start (suc k)) day ≡ false) (sym last) fails
            | inr other ↦ before.next (omega (arith, most, other))
          ];
    })

-- a date of the calendar in the years 1 to 9999, of the day's number
pub record IsDateOf (day : ℤ) (y m d : ℕ) : Type 0 where
  pub civil : IsCivilDate (pos y) m d
  pub first : 1 ≤ y
  pub last : y ≤ 9999
  pub number : days_from_civil (pos y) m d ≡ day

-- a count of days that is the day's
abbrev IsCount : ℤ → ℕ → Type 0
IsCount day count = up day + 4_371_953 ≡ down day + count

from : (day : ℤ) (count y m : ℕ) → IsCount day count → int_le (days_from_civil (pos y) m 1) day ≡ true → day_count (pos y) m 1 ≤ count
from day count y m is h = omega (arith, signed_arith, le-true (days_from_civil (pos y) m 1) day h, days_from_civil-day_count (pos y) m 1)

before : (day : ℤ) (count y m : ℕ) → IsCount day count → int_le (days_from_civil (pos y) m 1) day ≡ false → count < day_count (pos y) m 1
before day count y m is h = omega (arith, signed_arith, le-false (days_from_civil (pos y) m 1) day h, days_from_civil-day_count (pos y) m 1)

next_year : (y : ℕ) → day_count (pos (suc y)) 1 1 ≡ day_count (pos y) 1 1 + days_in_year (pos y)
next_year y = day_count-next_year (pos y) (pos (suc y)) (omega (arith, signed_arith)) (omega (arith, signed_arith))

next_month : (y m : ℕ) → 1 ≤ m → day_count (pos y) (suc m) 1 ≡ day_count (pos y) m 1 + days_in_month (pos y) m
next_month y m one = let more : m + 1 ≡ suc m = omega arith in rw more at (day_count-next_month (pos y) m one)

end_of_year : (day : ℤ) (count y : ℕ) → IsCount day count → count < 7_304_850 → Begun (λ year. days_from_civil (pos year) 1 1) day 9999 y
    → count < day_count (pos y) 1 1 + days_in_year (pos y)
end_of_year day count y is low h =
    let most = h.most in
    elim (cases_eq y 9999) [
      | inl last ↦
          let end : day_count (pos (suc y)) 1 1 ≡ 7_304_850 = ap (λ n. day_count (pos (suc n)) 1 1) last ∙ day_count-end in
          omega (arith, next_year y, end)
      | inr other ↦ omega (arith, next_year y, before day count (suc y) 1 is (h.next (omega (arith, most, other))))
    ]

end_of_month : (day : ℤ) (count y m : ℕ) → IsCount day count → count < day_count (pos y) 1 1 + days_in_year (pos y)
    → Begun (λ month. days_from_civil (pos y) month 1) day 12 m → count < day_count (pos y) m 1 + days_in_month (pos y) m
end_of_month day count y m is low h =
    let least = h.least in
    let most = h.most in
    elim (cases_eq m 12) [
      | inl last ↦
          let december : count < day_count (pos y) 12 1 + 31 =
          omega (arith, day_count-last_of_year (pos y), day_count-day (pos y) 12 31 1 (omega arith) (omega arith)) in
          subst (λ (n : ℕ). count < day_count (pos y) n 1 + days_in_month (pos y) n) (sym last) december
      | inr other ↦ omega (arith, next_month y m least, before day count y (suc m) is (h.next (omega (arith, most, other))))
    ]

-- the number of the day is that of the date
same_number : (day : ℤ) (count y m d : ℕ) → IsCount day count → 1 ≤ d → day_count (pos y) m 1 + d ≡ count + 1
    → days_from_civil (pos y) m d ≡ day
same_number day count y m d is one e =
    omega (arith, signed_arith, days_from_civil-day_count (pos y) m d, day_count-day (pos y) m d 1 one (omega arith))

place : (day : ℤ) (count y m : ℕ) → IsCount day count → day_count (pos y) m 1 ≤ count
    → day_count (pos y) m 1 + (unsigned_abs (day -ℤ days_from_civil (pos y) m 1) + 1) ≡ count + 1
place day count y m is h =
    let past : ℤ = day -ℤ days_from_civil (pos y) m 1 in
    elim (one_part past) [
      | inl none ↦ omega (arith, signed_arith, none, unsigned_abs-parts past, days_from_civil-day_count (pos y) m 1)
      | inr none ↦ omega (arith, signed_arith, none, unsigned_abs-parts past, days_from_civil-day_count (pos y) m 1)
    ]

date_of : (day : ℤ) (count y m d : ℕ) → IsCount day count → Begun (λ year. days_from_civil (pos year) 1 1) day 9999 y
    → Begun (λ month. days_from_civil (pos y) month 1) day 12 m → count < day_count (pos y) m 1 + days_in_month (pos y) m
    → 1 ≤ d → day_count (pos y) m 1 + d ≡ count + 1 → IsDateOf day y m d
date_of day count y m d is year month end one e =
    let least = year.least in
    let most = year.most in
    let low = month.least in
    let high = month.most in
    record {
      civil = ((omega (arith, signed_arith), omega (arith, signed_arith)), (low, high), (one, omega (arith, e, end)));
      first = least;
      last = most;
      number = same_number day count y m d is one e;
    }

pub day_is_date : (day : ℤ) → neg_ℤ (pos 719_162) ≤ℤ day → day ≤ℤ pos 2_932_896 → IsDateOf day (year_of day) (month_of day) (day_of day)
unfolding year_of month_of day_of
day_is_date day low high =
    let count = up day + 4_371_953 - down day in
    let is : IsCount day count = omega (arith, signed_arith) in
    let year = begun (λ year. days_from_civil (pos year) 1 1) day
    (le_yes (days_from_civil (pos 1) 1 1) day (omega (arith, signed_arith, first_day))) 9999 (omega arith) in
    let month = begun (λ month. days_from_civil (pos (year_of day)) month 1) day year.here 12 (omega arith) in
    let ends = end_of_month day count (year_of day) (month_of day) is
    (end_of_year day count (year_of day) is (omega (arith, signed_arith)) year) month in
    date_of day count (year_of day) (month_of day) (day_of day) is year month ends (omega arith)
    (place day count (year_of day) (month_of day) is (from day count (year_of day) (month_of day) is month.here))
