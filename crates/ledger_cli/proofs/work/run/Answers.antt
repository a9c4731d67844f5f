use Rattle.std.proofs.Common.{◌≡◌, refl}
use Rattle.laws_history.specs.Calls.{span}
use Rattle.cli_model.specs.Calls.{outside}
use Rattle.ledger_cli.proofs.Asked.{keeps_run, works_run, works_unread}
use Rattle.ledger_cli.proofs.Ending.{keeps_run_all}
use Rattle.ledger_cli.proofs.work.run.Goals as goal

pub returns-in-Ok-clause-works : goal.returns-in-Ok-clause-works
returns-in-Ok-clause-works g c =
    let k = c.run_script in
    let r = c.args.resources in
    let reads = c.in-Ok.ensures.reads in
    let source = span (g.So.Source.told c.args.source.now) (g.So.Source.told c.read_script.new.source) in
    let x = outside source (span (g.St.JournalStore.told r.store) (g.St.JournalStore.told k.result.store))
    (span (g.C.Clock.answers r.clock) (g.C.Clock.answers k.result.clock)) in
    works_run (k.result.store ≡ r.store) c.args.options x c.in-Ok.script reads.0 reads.2 k.result.value k.ensures.done k.ensures.ended k.ensures.stop

pub returns-in-Ok-clause-keeps : goal.returns-in-Ok-clause-keeps
returns-in-Ok-clause-keeps g c =
    let k = c.run_script in
    let r = c.args.resources in
    let reads = c.in-Ok.ensures.reads in
    let source = span (g.So.Source.told c.args.source.now) (g.So.Source.told c.read_script.new.source) in
    let x = outside source (span (g.St.JournalStore.told r.store) (g.St.JournalStore.told k.result.store))
    (span (g.C.Clock.answers r.clock) (g.C.Clock.answers k.result.clock)) in
    keeps_run (k.result.store ≡ r.store) c.args.options x c.in-Ok.script reads.0 reads.2 k.result.value k.ensures.done k.ensures.ended

pub returns-clause-works : goal.returns-clause-works
returns-clause-works g c =
    let r = c.args.resources in
    let answers = g.C.Clock.answers r.clock in
    let store = g.St.JournalStore.told r.store in
    let source = span (g.So.Source.told c.args.source.now) (g.So.Source.told c.read_script.new.source) in
    works_unread (r.store ≡ r.store) c.args.options (outside source (span store store) (span answers answers)) c.in-Err.why
    (record { is = refl; told = refl }) c.in-Err.ensures.reads

pub returns-clause-keeps : goal.returns-clause-keeps
returns-clause-keeps g c = keeps_run_all _ _ refl
