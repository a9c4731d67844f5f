use Rattle.std.proofs.Common.{◌≡◌, ℕ, ◌+◌, ◌<◌, ◌≤◌, List, length, take}
use Rattle.std.specs.Prelude.{slice_index_or, vec_capacity, vec_len}
use Rattle.ledger_model.specs.declared.outcome.PlacedOutcome.{PlacedOutcome}
use Rattle.ledger_shared.specs.declared.workers.Desk.{Desk}
use Rattle.ledger_shared.specs.Desks.{AreDealt}
use Rattle.ledger_shared.specs.Sessions.{job_count}
use Rattle.ledger_shared.proofs.Merged.{Moving}
use Rattle.ledger_shared.proofs.merging.merge.Given as goal

-- the outcomes of the sessions in front of `left` are with the desks
abbrev pub invariant-sessions : goal.invariant-sessions
invariant-sessions g l =
    record {
      low : l.left ≤ length l.script;
      long : length l.desks ≡ length l.initial.desks;
      workers : (i : ℕ) (d : Desk _ _ _) → i < length l.initial.desks
          → (slice_index_or l.desks i d).worker ≡ (slice_index_or l.initial.desks i d).worker;
      room : vec_len l.outcomes + job_count (take l.left l.script) ≤ vec_capacity l.outcomes;
      moving : (all : List PlacedOutcome) → AreDealt l.script l.initial.desks all → Moving l.left l.script l.desks l.outcomes.items all;
    }

abbrev pub decreases-sessions : goal.decreases-sessions
decreases-sessions g l = l.left
