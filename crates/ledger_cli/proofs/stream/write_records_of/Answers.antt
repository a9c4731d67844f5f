use Rattle.std.proofs.Common.{◌∙◌, ◌++◌, List, ap}
use Rattle.stream_out.specs.declared.record.Record.{Record}
use Rattle.stream_out.specs.Streams.{block_records}
use Rattle.cli_model.specs.Streams.{records_text}
use Rattle.ledger_cli.proofs.Written.{written_as}
use Rattle.ledger_cli.proofs.stream.write_records_of.Goals as goal

pub returns-in-Ok : goal.returns-in-Ok
returns-in-Ok g c = λ changes h.
    let told = g.Si.Sink.told in
    let made = block_records changes c.args.block.now in
    written_as (told c.args.sink.now) (told c.write_lines.new.sink) c.write_lines.result _ (records_text made)
    (ap records_text
    (c.as_slice.ensures ∙ c.in-Ok.ensures changes h ∙ ap (λ (rs : List Record). rs ++ made) c.new-records.ensures))
    c.write_lines.ensures
