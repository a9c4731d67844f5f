use Rattle.std.proofs.Common.{Err, codes, sym, subst, ap}
use Rattle.laws_history.specs.Calls.{span}
use Rattle.cli_model.specs.Lines.{faults_line}
use Rattle.ledger_cli.specs.declared.ends.Status.TheVariants as status
use Rattle.ledger_cli.specs.declared.command_fault.CommandFault.{CommandFault}
use Rattle.ledger_cli.specs.Ends.{EndsBy, count_line}
use Rattle.ledger_cli.proofs.Ending.{same_line}
use Rattle.ledger_cli.proofs.ends.end_by_stop.Goals as goal

pub returns-in-SourceFailed : goal.returns-in-SourceFailed
returns-in-SourceFailed g c =
    let k = c.end_by_count in
    let source = (g.So.Source.told c.args.source.now).faults in
    let store = (g.St.JournalStore.told c.args.store.now).faults in
    let sink = span (g.Si.Sink.told c.args.sink.now) (g.Si.Sink.told k.new.sink) in
    subst (λ (x : CommandFault). EndsBy (Err x) k.result source store sink) (sym c.in-SourceFailed.is)
    (same_line k.result status.SourceFailed sink _ (faults_line (codes "4") source) (ap (count_line (codes "{status:4,faults:")) c.faults.ensures) k.ensures)

pub returns-in-StoreFailed : goal.returns-in-StoreFailed
returns-in-StoreFailed g c =
    let k = c.end_by_count-in-StoreFailed in
    let source = (g.So.Source.told c.args.source.now).faults in
    let store = (g.St.JournalStore.told c.args.store.now).faults in
    let sink = span (g.Si.Sink.told c.args.sink.now) (g.Si.Sink.told k.new.sink) in
    subst (λ (x : CommandFault). EndsBy (Err x) k.result source store sink) (sym c.in-StoreFailed.is)
    (same_line k.result status.StoreFailed sink _ (faults_line (codes "5") store) (ap (count_line (codes "{status:5,faults:")) c.faults-in-StoreFailed.ensures) k.ensures)
