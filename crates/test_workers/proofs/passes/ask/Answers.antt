use Rattle.txn_core.specs.Opened.{asked}
use Rattle.laws_passes.proofs.Asking.{statements_keep_open}
use Rattle.test_workers.proofs.passes.ask.Goals as goal

pub returns : goal.returns
returns c o k may =
    statements_keep_open o k c.args.txn.now c.execute-answer.new.self (asked c.args.text.now c.args.params.now) c.execute-answer.result may
    c.execute-answer.ensures
