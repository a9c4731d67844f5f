-- The list of the calls that are to fail. Its first entry lets some calls pass and fails the next one, then the second
-- entry counts, and so on.
use Rattle.std.specs.Prelude.{ℕ, ◌+◌, ◌-◌, ◌==◌, List, [], ◌∷◌, Option, Some, None, is_some, if◌then◌else◌}
use Rattle.outside.specs.declared.plan.Failing.{Failing}

-- The entries that still count, the first one with the calls that it still lets pass, and how many are used up.
pub record FailPlan : Type 0 where
  pub coming : List Failing
  pub used : ℕ

-- the plan of a list of which no entry is used up
abbrev pub plan_of : List Failing → FailPlan
plan_of fails = record { coming = fails; used = 0 }

abbrev pub due_in : List Failing → Option Failing
due_in [] = None
due_in (entry ∷ rest) = if entry.passes == 0 then Some entry else None

-- the entry that fails the next call, if one does
abbrev pub due : FailPlan → Option Failing
due plan = due_in plan.coming

abbrev pub coming_after : List Failing → List Failing
coming_after [] = []
coming_after (entry ∷ rest) = if entry.passes == 0 then rest else (record entry { passes = entry.passes - 1 } ∷ rest)

-- the plan after one more call
abbrev pub after_call : FailPlan → FailPlan
after_call plan = record { coming = coming_after plan.coming; used = plan.used + (if is_some (due plan) then 1 else 0) }
