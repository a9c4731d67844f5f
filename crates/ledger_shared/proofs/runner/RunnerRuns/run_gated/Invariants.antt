use Rattle.std.proofs.Common.{◌≡◌, ◌+◌, drop}
use Rattle.ledger_model.specs.Run.{run}
use Rattle.txn_core.proofs.Running.{run_on, with_done}
use Rattle.ledger_shared.proofs.runner.RunnerRuns.run_gated.Given as goal

-- what is left gives what the whole gives
abbrev pub invariant-statements : goal.invariant-statements
invariant-statements g l = record {
  so_far : run_on l.txn (l.statement + 1) (drop l.request-index l.asked) ≡ run l.initial.txn.begun l.initial.txn.base l.asked;
  same : l.txn ≡ with_done l.initial.txn l.txn.done;
}
