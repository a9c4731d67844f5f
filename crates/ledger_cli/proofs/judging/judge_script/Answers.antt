use Rattle.ledger_cli.proofs.Runnable.{runnable_is}
use Rattle.ledger_cli.proofs.judging.judge_script.Goals as goal

pub returns-in-Ok-clause-numbered : goal.returns-in-Ok-clause-numbered
returns-in-Ok-clause-numbered c = runnable_is c.args.values c.in-Ok.script c.requires c.in-Ok.ensures
