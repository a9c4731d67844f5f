use Rattle.std.proofs.Common.{inr, refl}
use Rattle.ledger_model.specs.Script.{all_placed}
use Rattle.ledger_cli.proofs.Loaded.{settles_by}
use Rattle.ledger_cli.proofs.run.run_and_settle.Goals as goal

pub returns-in-Ok : goal.returns-in-Ok
returns-in-Ok g c =
    settles_by g.S.JournalStore.told g.C.Clock.answers g.C.Clock.always c.args.crew.now.workers (all_placed c.args.sessions.now) c.args.tail c.in-Ok.ran.tail
    c.in-Ok.ran.outcomes c.in-Ok.ensures.ran c.settle.result.tail c.settle.result.value c.settle.ensures

pub returns-in-Err : goal.returns-in-Err
returns-in-Err g c = inr (refl, c.in-Err.ensures.refused)
