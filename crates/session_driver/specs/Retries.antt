-- The attempts of a job (own): a later one is made where the one before it answered a conflict.
use Rattle.std.specs.Prelude.{◌≡◌, ℕ, zero, suc, ◌<◌, ◌≤◌, Bool, true, false}
use Rattle.ql_types.specs.declared.Place.{Place}
use Rattle.ledger_model.specs.declared.script.Job.{Job}
use Rattle.ledger_model.specs.declared.outcome.Outcome.{Outcome}
use Rattle.ledger_model.specs.declared.outcome.Outcome.TheVariants.{Conflict}

abbrev pub is_conflict : Outcome → Bool
is_conflict (Conflict tx since named) = true
is_conflict _ = false

-- from the link before to the link after there is a number of attempts of the job in a chain, and each returned a
-- conflict
abbrev pub Conflicted : {L : Type 0} → (L → Job → Place → Outcome → L → Type 0) → Job → Place → ℕ → L → L → Type 0
Conflicted {L} Attempted job place zero before after = before ≡ after
Conflicted {L} Attempted job place (suc n) before after =
    (between : L) × (outcome : Outcome) × Conflicted Attempted job place n before between
    × Attempted between job place outcome after × (is_conflict outcome ≡ true)

-- From the link before to the link after there are attempts of the job in a chain. The last one gave this outcome, and
-- each earlier one answered a conflict. There are at most as many retries as the job has, and fewer only where the last
-- attempt is no conflict.
pub record Retried {L : Type 0} (Attempted : L → Job → Place → Outcome → L → Type 0) (job : Job) (place : Place)
    (before : L) (outcome : Outcome) (after : L) : Type 0 where
  pub count : ℕ
  pub between : L
  pub earlier : Conflicted Attempted job place count before between
  pub last : Attempted between job place outcome after
  pub at_most : count ≤ job.retries
  pub fewer : count < job.retries → is_conflict outcome ≡ false
