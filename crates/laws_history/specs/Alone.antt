-- Runs of one worker, or of one session: none of its transactions meets a conflict, and its numbers and blocks come in
-- the script's order (the ledger's own).
use Rattle.std.specs.Prelude.{◌≡◌, ℕ, ◌+◌, ◌-◌, ◌^◌, ◌≤◌, Bool, true, false, List, [], ◌∷◌, ◌++◌, length}
use Rattle.std.specs.List.{AllByRecursion}
use Rattle.ql_types.specs.Ids.{raw_id}
use Rattle.ledger_model.specs.declared.outcome.Outcome.{Outcome}
use Rattle.ledger_model.specs.declared.outcome.Outcome.TheVariants.{Committed, IdsSpent, OutOfMemory}
use Rattle.ledger_model.specs.declared.outcome.PlacedOutcome.{PlacedOutcome}
use Rattle.ledger_model.specs.Script.{Placed}
use Rattle.session_driver.specs.Retries.{is_conflict}
use Rattle.turn_lock.specs.declared.view.Known.{Known}
use Rattle.laws_history.specs.Records.{RunRecord, HaveOneWorker, greatest, told_ids}
use Rattle.laws_machine.specs.Entries.{Entry}
use Rattle.laws_history.specs.Claims.{Fits}
use Rattle.laws_history.specs.Runs.{IsRunBy, Served}

-- ---- no conflict

-- one worker runs all jobs, as where there is one worker or one session
abbrev pub HasOneWorker : RunRecord → Type 0
HasOneWorker t =
    AllByRecursion
    (λ (p : Placed). AllByRecursion (λ (q : Placed). HaveOneWorker t.workers p.place.session q.place.session) t.jobs)
    t.jobs

-- no transaction met a conflict
abbrev pub MeetsNoConflict : RunRecord → Type 0
MeetsNoConflict t = AllByRecursion (λ (o : PlacedOutcome). is_conflict o.outcome ≡ false) t.outcomes

-- where one worker runs all jobs, the claim itself leaves no room for a conflict
abbrev pub NoneConflicts : Type 0
NoneConflicts = (t : RunRecord) → HasOneWorker t → Fits t → MeetsNoConflict t

-- ---- numbers and blocks in the script's order

-- each of these ids is that of the number behind the one before
abbrev pub AreNext : ℕ → ℕ → List ℕ → Type 0
AreNext mask last [] = Unit {0}
AreNext mask last (raw ∷ raws) = (raw ≡ raw_id mask (last + 1) 0) × AreNext mask (last + 1) raws

-- the blocks that outcomes tell, in order
abbrev pub told_block : Outcome → List ℕ
told_block (Committed tx block) = block ∷ []
told_block other = []

abbrev pub told_blocks : List PlacedOutcome → List ℕ
told_blocks [] = []
told_blocks (o ∷ os) = told_block o.outcome ++ told_blocks os

-- each of these numbers is the one behind the one before
abbrev pub InRow : ℕ → List ℕ → Type 0
InRow n [] = Unit {0}
InRow n (x ∷ xs) = (x ≡ n) × InRow (n + 1) xs

abbrev pub is_spent : Outcome → Bool
is_spent (IdsSpent last) = true
is_spent other = false

-- where no number is left, the journal and the jobs in front, of which each one uses at most one, have used all
abbrev pub EachSpent : RunRecord → ℕ → List PlacedOutcome → Type 0
EachSpent t n [] = Unit {0}
EachSpent t n (o ∷ os) =
    (is_spent o.outcome ≡ true → 2 ^ 64 - 1 ≤ greatest t.mask t.before + n) × EachSpent t (n + 1) os

-- No transaction meets a conflict. Where none wants memory, the numbers follow one another from the journal's greatest
-- on. The blocks that were made are the committed jobs in the script's order.
pub record RunsInOrder (t : RunRecord) : Type 0 where
  pub calm : MeetsNoConflict t
  pub numbers : AllByRecursion (λ (o : PlacedOutcome). o.outcome ≡ OutOfMemory → ⊥) t.outcomes
      → AreNext t.mask (greatest t.mask t.before) (told_ids t.outcomes)
  pub blocks : InRow (length t.before) (told_blocks t.outcomes)
  pub all_told : length t.before + length (told_blocks t.outcomes) ≡ length t.after
  pub spent : EachSpent t 0 t.outcomes

-- a run by one worker runs so
abbrev pub OneWorkerInOrder : Type 0
OneWorkerInOrder =
    (t : RunRecord) (ss : List Served) (entries : List Entry) (pass_of : ℕ → Known Entry)
    → IsRunBy t ss entries pass_of → t.workers ≡ 1 → RunsInOrder t
