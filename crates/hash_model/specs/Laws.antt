-- What holds of the digits of numbers, and of the dates in timestamps' bytes.
use Rattle.std.specs.Prelude.{ℕ, ◌+◌, ◌-◌, ◌*◌, ◌<◌, ◌≤◌, ◌≡◌, ◌⊎◌, List, [], ◌∷◌, ℤ, pos, ◌+ℤ◌, ◌*ℤ◌, All, fold, ⊤}
use Rattle.ion_values.specs.declared.time.TimeParts.{TimeParts}
use Rattle.ion_values.specs.Dates.{day_number}
use Rattle.ion_values.specs.Time.{IsTime, utc_minutes}
use Rattle.hash_model.specs.Numbers.{digits_of}
use Rattle.hash_model.specs.Timestamps.{utc_clock, utc_date}

-- ---- digits

-- the number that digits stand for in a base, the highest first
abbrev pub number_in : ℕ → List ℕ → ℕ
number_in base digits = fold (λ number digit. number * base + digit) 0 digits

-- no digit less would do: a first digit 0 stands alone, or before one that can't be the first, since it isn't below
-- the limit
abbrev pub IsShortest : ℕ → ℕ → List ℕ → Type 0
IsShortest limit first [] = ⊤
IsShortest limit first (next ∷ rest) = (0 < first) ⊎ (limit ≤ next)

-- with the mark taken off the first digit they stand for the number, the first is below the limit and each other one
-- below the base, in the shortest form
abbrev pub TellNumber : ℕ → ℕ → ℕ → ℕ → List ℕ → Type 0
TellNumber base limit mark number [] = ⊥
TellNumber base limit mark number (first ∷ rest) =
    (mark ≤ first) × (number_in base ((first - mark) ∷ rest) ≡ number) × (first - mark < limit)
    × All (λ digit. digit < base) rest
    × IsShortest limit (first - mark) rest

-- the digits of a number tell it
abbrev pub DigitsTellNumbers : Type 0
DigitsTellNumbers =
    (base limit mark number : ℕ) → 1 < base → 0 < limit → limit ≤ base →
    TellNumber base limit mark number (digits_of base limit mark number)

-- ---- dates

-- the date and the clock in UTC give the minutes of the instant, and the clock is less than a day
abbrev pub UtcDatesTellInstants : Type 0
UtcDatesTellInstants =
    (t : TimeParts) → IsTime t
    → (day_number (utc_date t) *ℤ pos 1440 +ℤ pos (utc_clock t) ≡ utc_minutes t) × (utc_clock t < 1440)
