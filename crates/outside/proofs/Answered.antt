-- The answers of a clock in memory grow by what it answers next.
use Rattle.std.proofs.Common.{◌≡◌, ℕ, ◌+◌, ◌-◌, ◌<◌, ◌≤◌, inl, inr, ℤ, List, [], ◌∷◌, ◌++◌, length, get_or, arith, append-nil, append_assoc}
use Rattle.std.proofs.lemmas.Bool.Decides.{leb_tells}
use Rattle.std.proofs.lemmas.Grind.{common_steps}
use Rattle.std.proofs.lemmas.List.{take_more, take_all, get_or_past, replicate_more}
use Rattle.outside.specs.Clocks.{ClockHeld, AddsAnswer, last_time, next_time, clock_after, first_answers, told_answers}

below : (times : List ℤ) (calls : ℕ) → calls < length times
    → first_answers times (calls + 1) ≡ first_answers times calls ++ get_or times calls (last_time times) ∷ []
below times calls h =
    let more : calls + 1 - length times ≡ 0 = omega arith in
    let none : calls - length times ≡ 0 = omega arith in
    rw (more, none, take_more times calls (last_time times) h) (simp append-nil)

past : (times : List ℤ) (calls : ℕ) → length times ≤ calls
    → first_answers times (calls + 1) ≡ first_answers times calls ++ get_or times calls (last_time times) ∷ []
past times calls h =
    let more : calls + 1 - length times ≡ calls - length times + 1 = omega arith in
    let over : length times ≤ calls + 1 = omega arith in
    rw (
      more,
      take_all (calls + 1) times over,
      take_all calls times h,
      get_or_past times calls (last_time times) h,
      append_assoc,
      replicate_more,
    )

next_first : (times : List ℤ) (calls : ℕ)
    → first_answers times (calls + 1) ≡ first_answers times calls ++ get_or times calls (last_time times) ∷ []
next_first times calls =
    elim (leb_tells (length times) calls) [ inl t ↦ past times calls t.1 | inr f ↦ below times calls f.1 ]

pub adds_next : (clock now : ClockHeld) (answer : ℤ) → now ≡ clock_after clock → answer ≡ next_time clock
    → AddsAnswer (told_answers clock) (told_answers now) answer
adds_next clock now answer after next = rw (after, next) (grind (arith, common_steps, next_first clock.times clock.calls))
