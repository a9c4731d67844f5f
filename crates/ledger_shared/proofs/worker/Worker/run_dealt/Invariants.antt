use Rattle.std.proofs.Common.{◌≡◌, ◌+◌, ◌≤◌, ◌++◌, List, drop, length}
use Rattle.std.specs.Prelude.{vec_len, vec_capacity}
use Rattle.ledger_model.specs.Script.{Placed, all_placed, all_placed_from}
use Rattle.ledger_shared.specs.Behind.{opening_of}
use Rattle.ledger_shared.specs.Sessions.{Course, HasServed, course, dealt_jobs}
use Rattle.ledger_shared.proofs.worker.Worker.run_dealt.Given as goal

-- where the jobs that are dealt were left next, those of the sessions behind `at` are
abbrev pub invariant-sessions : goal.invariant-sessions
invariant-sessions g l =
    let o = opening_of g.S.JournalStore.told l.initial.self.opened in
    record {
      table : l.self.table ≡ l.initial.self.table;
      opened : l.self.opened ≡ l.initial.self.opened;
      serves : (all more : List Placed) (first : Course)
          → HasServed o all (dealt_jobs l.share.workers l.share.rest (all_placed l.script) ++ more) first (course l.initial.outcomes.items l.initial.self.known)
          → HasServed o all (dealt_jobs l.share.workers l.share.rest (all_placed_from (1 + l.at) (drop l.at l.script)) ++ more) first
          (course l.outcomes.items l.self.known);
      room : vec_len l.outcomes + length (dealt_jobs l.share.workers l.share.rest (all_placed_from (1 + l.at) (drop l.at l.script))) ≤ vec_capacity l.outcomes;
    }
