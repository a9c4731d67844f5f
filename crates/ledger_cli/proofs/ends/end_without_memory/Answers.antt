use Rattle.laws_history.specs.Calls.{span}
use Rattle.ledger_cli.proofs.Ending.{memory_line_of, own_memory}
use Rattle.ledger_cli.proofs.ends.end_without_memory.Goals as goal

pub returns-clause-status : goal.returns-clause-status
returns-clause-status g c =
    let sink = span (g.Si.Sink.told c.args.sink.now) (g.Si.Sink.told c.end_by_line.new.sink) in
    own_memory c.end_by_line.result sink c.end_by_line.ensures

pub returns-clause-line : goal.returns-clause-line
returns-clause-line g c =
    let sink = span (g.Si.Sink.told c.args.sink.now) (g.Si.Sink.told c.end_by_line.new.sink) in
    memory_line_of c.end_by_line.result sink c.end_by_line.ensures
