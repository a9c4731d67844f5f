use Rattle.ledger_core.proofs.Openings.{executed_open}
use Rattle.test_ledger_core.proofs.bench.ask_all.Goals as goal

pub asked-init : goal.asked-init
asked-init c = λ s o. o

pub asked-preserved : goal.asked-preserved
asked-preserved c = λ s o. executed_open s _ _ _ _ c.execute-answer.ensures (c.asked.invariant s o)
