-- Which lists of marks come of drawing numbers in order and giving them back.
use Rattle.std.specs.Prelude.{◌≡◌, ℕ, ◌+◌, List, [], ◌∷◌, Option, Some, None, if◌then◌else◌, ◌==◌, nat_lt}
use Rattle.turn_lock.specs.declared.view.Placed.{Placed}
use Rattle.turn_lock.specs.History.{Stands}
use Rattle.turn_lock_example.specs.declared.tally.Mark.{Mark}
use Rattle.turn_lock_example.specs.declared.tally.Mark.TheVariants.{Drawn, Back}

-- the next number behind the marks, the next one before them being n: each is drawn in order, and given back after it
-- was drawn
abbrev pub run : ℕ → List Mark → Option ℕ
run n [] = Some n
run n (Drawn m ∷ marks) = if m == n then run (n + 1) marks else None
run n (Back m ∷ marks) = if nat_lt m n then run n marks else None

abbrev pub IsRun : Unit {0} → List Mark → Type 0
IsRun opening marks = (n : ℕ) × (run 0 marks ≡ Some n)

abbrev pub opened_by : Mark → Option ℕ
opened_by (Drawn n) = Some n
opened_by (Back n) = None

abbrev pub used_by : Mark → Option ℕ
used_by (Drawn n) = None
used_by (Back n) = Some n

-- no entry of the own list uses the number
abbrev pub IsUnused : List (Placed Mark) → ℕ → Type 0
IsUnused own n = (x : Placed Mark) → Stands x own → used_by x.entry ≡ Some n → ⊥
