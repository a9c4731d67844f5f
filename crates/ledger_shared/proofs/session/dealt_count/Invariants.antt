use Rattle.std.proofs.Common.{◌≡◌, ◌+◌, ◌*◌, ◌≤◌, drop, length}
use Rattle.ledger_model.specs.Script.{all_placed, all_placed_from}
use Rattle.ledger_shared.specs.Sessions.{dealt_jobs}
use Rattle.ledger_shared.proofs.session.dealt_count.Given as goal

-- the jobs of the sessions in front of `at` are counted
abbrev pub invariant-sessions : goal.invariant-sessions
invariant-sessions l =
    record {
      counted : l.count + length (dealt_jobs l.share.workers l.share.rest (all_placed_from (1 + l.at) (drop l.at l.script)))
          ≡ length (dealt_jobs l.share.workers l.share.rest (all_placed l.script));
      low : l.count ≤ l.at * 4294967296;
    }
