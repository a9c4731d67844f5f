use Rattle.std.proofs.Common.{◌∙◌}
use Rattle.cli_model.specs.Outputs.{value_line}
use Rattle.ledger_cli.proofs.Written.{line_some, unmade, written_as}
use Rattle.ledger_cli.proofs.writing.write_line.Goals as goal

pub returns-in-Ok : goal.returns-in-Ok
returns-in-Ok g c =
    let told = g.Si.Sink.told in
    written_as (told c.args.sink.now) (told c.write_piece.new.sink) c.write_piece.result _ (value_line (g.L.Lined.value c.args.one.now))
    (c.as_bytes.ensures.value ∙ c.as_str.ensures ∙ c.in-Ok.ensures) c.write_piece.ensures

pub returns-in-Err : goal.returns-in-Err
returns-in-Err g c = unmade (g.Si.Sink.told c.args.sink.now) (value_line (g.L.Lined.value c.args.one.now)) (line_some _)
