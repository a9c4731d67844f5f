use Rattle.std.proofs.Common.{◌≡◌, ◌+◌, ◌≤◌, ◌++◌, List, drop}
use Rattle.std.specs.Prelude.{vec_len, vec_capacity}
use Rattle.ledger_model.specs.Script.{Placed, placed_from}
use Rattle.ledger_shared.specs.Behind.{opening_of}
use Rattle.ledger_shared.specs.Sessions.{Course, HasServed, course}
use Rattle.ledger_shared.proofs.worker.Worker.run_session.Given as goal

-- where the session's jobs were left next, those behind `at` are
abbrev pub invariant-jobs : goal.invariant-jobs
invariant-jobs g l =
    let o = opening_of g.S.JournalStore.told l.initial.self.opened in
    record {
      table : l.self.table ≡ l.initial.self.table;
      opened : l.self.opened ≡ l.initial.self.opened;
      serves : (all rest : List Placed) (first : Course)
          → HasServed o all (placed_from l.session 1 l.jobs ++ rest) first (course l.initial.outcomes.items l.initial.self.known)
          → HasServed o all (placed_from l.session (1 + l.at) (drop l.at l.jobs) ++ rest) first (course l.outcomes.items l.self.known);
      kept : vec_len l.outcomes ≡ vec_len l.initial.outcomes + l.at;
      room : vec_capacity l.initial.outcomes ≤ vec_capacity l.outcomes;
    }
