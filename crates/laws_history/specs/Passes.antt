-- The passes with which a run's ledger is closed, in the order of its workers, and that they are those of a run (the
-- ledger's own).
use Rattle.std.specs.Prelude.{◌≡◌, ℕ, zero, suc, ◌+◌, ◌-◌, ◌%◌, ◌<◌, List, length, slice_get, slice_index_or, Some}
use Rattle.std.specs.List.{AllByRecursion}
use mathlib.Core.List.{IsPrefix}
use Rattle.turn_lock.specs.declared.view.Known.{Known}
use Rattle.turn_lock.specs.History.{OwnedOnce, newborn}
use Rattle.laws_machine.specs.Entries.{Entry, Opening}
use Rattle.laws_history.specs.Runs.{AreWorkers, HasWorked, Served}

-- Of N passes pass i is that of the worker which runs the sessions i + 1, i + 1 + N and so on. Each pass knows a
-- beginning of the history, and each entry is one pass's own.
pub record ArePasses (o : Opening) (workers : ℕ) (ss : List Served) (entries : List Entry)
    (passes : List (Known Entry)) : Type 0 where
  pub as_many : length passes ≡ workers
  pub worked : (i : ℕ) (k : Known Entry) → slice_get passes i ≡ Some k → HasWorked o workers ((i + 1) % workers) ss k
  pub seen : AllByRecursion (λ (k : Known Entry). IsPrefix k.seen entries) passes
  pub owned : OwnedOnce entries passes

-- where the pass stands whose worker's sessions leave this rest: the last worker's leave none
abbrev pub place_of : ℕ → ℕ → ℕ
place_of workers zero = workers - 1
place_of workers (suc n) = n

abbrev pub pass_in : List (Known Entry) → ℕ → Known Entry
pass_in passes rest = slice_index_or passes (place_of (length passes) rest) newborn

abbrev pub PassesWork : Type 0
PassesWork =
    (o : Opening) (workers : ℕ) (ss : List Served) (entries : List Entry) (passes : List (Known Entry))
    → 0 < workers → ArePasses o workers ss entries passes → AreWorkers o workers ss entries (pass_in passes)
