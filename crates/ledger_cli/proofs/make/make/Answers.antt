use Rattle.laws_history.specs.Calls.{span}
use Rattle.ledger_cli.proofs.Making.{unbegun}
use Rattle.ledger_cli.proofs.make.make.Goals as goal

pub returns-in-Err : goal.returns-in-Err
returns-in-Err g c =
    let answers = g.C.Clock.answers c.args.resources.clock in
    unbegun c.args.options (g.S.JournalStore.told c.args.resources.store) (span answers answers)
