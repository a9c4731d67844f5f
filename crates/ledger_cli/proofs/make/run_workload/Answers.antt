use Rattle.std.proofs.Common.{List, refl, subst, inr}
use Rattle.ledger_model.specs.Script.{all_placed}
use Rattle.ledger_model.specs.declared.script.Job.{Job}
use Rattle.run_after_setup.specs.FirstRuns.{HaveAllRun}
use Rattle.ledger_cli.specs.Making.{at_first}
use Rattle.ledger_cli.proofs.Making.{makes_all}
use Rattle.ledger_cli.proofs.make.run_workload.Goals as goal

pub returns-in-Ok : goal.returns-in-Ok
returns-in-Ok g c =
    let told = g.S.JournalStore.told in
    let r = c.in-Ok.ran in
    let first = at_first c.args.workload.now.first in
    let jobs = all_placed c.args.workload.now.sessions in
    let h = subst
    (λ (x : List (List Job)). HaveAllRun told g.C.Clock.answers g.C.Clock.always c.args.crew.now.workers first (all_placed x) c.args.tail r.outcomes r.tail)
    c.as_slice.ensures c.in-Ok.ensures.ran in
    makes_all told g.C.Clock.answers g.C.Clock.always c.args.crew.now.workers first jobs c.args.tail r.tail r.outcomes h c.settle.result.value
    c.settle.result.tail c.settle.ensures

pub returns-in-Err : goal.returns-in-Err
returns-in-Err g c = inr (refl, c.in-Err.ensures.refused)
