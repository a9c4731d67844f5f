use Rattle.std.proofs.Common.{◌≡◌, ap, subst, sym}
use Rattle.cli_model.specs.Judging.{scripted}
use Rattle.ledger_shared.specs.Sessions.{AreNumbered}
use Rattle.ledger_cli.proofs.UnderRules.{numbered_under}
use Rattle.ledger_cli.proofs.judging.put_under.Goals as goal

pub returns-in-Ok-clause-numbered : goal.returns-in-Ok-clause-numbered
returns-in-Ok-clause-numbered c =
    subst AreNumbered (sym c.in-Ok.ensures) (numbered_under c.args.rules.now c.args.script c.requires)
