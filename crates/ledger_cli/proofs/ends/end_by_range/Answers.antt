use Rattle.std.proofs.Common.{◌∙◌, inr}
use Rattle.laws_history.specs.Calls.{span}
use Rattle.ledger_cli.specs.declared.ends.Status.TheVariants as status
use Rattle.ledger_cli.proofs.Ending.{made_line}
use Rattle.ledger_cli.proofs.ends.end_by_range.Goals as goal

pub returns-in-Ok : goal.returns-in-Ok
returns-in-Ok g c =
    let sink = span (g.Si.Sink.told c.args.sink.now) (g.Si.Sink.told c.end_by_line.new.sink) in
    made_line c.end_by_line.result status.BadInput sink _ _ (c.as_str.ensures ∙ c.in-Ok.ensures) c.end_by_line.ensures

pub returns-in-Err : goal.returns-in-Err
returns-in-Err g c = inr (c.end_without_memory.ensures.status, c.end_without_memory.ensures.line)
