-- What a clock has answered.
use Rattle.std.specs.Prelude.{◌≡◌, ℕ, ◌+◌, ◌-◌, ◌^◌, ◌==◌, min, ℤ, pos, List, [], ◌∷◌, ◌++◌, length, take, replicate, slice_index_or, Option, Some, None, IfSome, IsSomeAnd, if◌then◌else◌}

-- where the list is told afterwards, it was told before and is longer by this answer
abbrev pub AddsAnswer : Option (List ℤ) → Option (List ℤ) → ℤ → Type 0
AddsAnswer before now answer = IfSome now (λ told. IsSomeAnd before (λ earlier. told ≡ earlier ++ answer ∷ []))

-- The times that a clock in memory was set to, and how often it was asked. The count stands still at the greatest u64.
pub record ClockHeld : Type 0 where
  pub times : List ℤ
  pub calls : ℕ

abbrev pub last_time : List ℤ → ℤ
last_time times = slice_index_or times (length times - 1) (pos 0)

-- what the clock answers next: the times in turn, and then the last one
abbrev pub next_time : ClockHeld → ℤ
next_time clock = slice_index_or clock.times clock.calls (last_time clock.times)

abbrev pub clock_after : ClockHeld → ClockHeld
clock_after clock = record clock { calls = min (clock.calls + 1) (2 ^ 64 - 1) }

-- what the first calls of a clock with these times answer
abbrev pub first_answers : List ℤ → ℕ → List ℤ
first_answers times calls = take calls times ++ replicate (calls - length times) (last_time times)

-- the answers that were given, which the clock tells until its count stands still
abbrev pub told_answers : ClockHeld → Option (List ℤ)
told_answers clock = if clock.calls == 2 ^ 64 - 1 then None else Some (first_answers clock.times clock.calls)
