use Rattle.laws_history.specs.Standings.{Standing}
use Rattle.ledger_core.specs.Committing.{IsOpenOn}
use Rattle.test_ledger_core.proofs.bench.ask_all.Given as goal

abbrev pub invariant-asked : goal.invariant-asked
invariant-asked l = (s : Standing) → IsOpenOn s l.fn.txn → IsOpenOn s l.txn
