use Rattle.std.proofs.Common.{◌≡◌, ◌∙◌, ◌++◌, Err, sym, rules}
use Rattle.ledger_model.specs.Compaction.{compacted}
use Rattle.stream_out.specs.declared.record.Record.TheVariants as kind
use Rattle.stream_out.specs.Records.{record_text}
use Rattle.stream_out.specs.Streams.{records_of}
use Rattle.cli_model.specs.Streams.{records_text}
use Rattle.ledger_cli.proofs.Streaming.{stream_is}
use Rattle.ledger_cli.proofs.Written.{begun, begun_as, broke, further, last}
use Rattle.ledger_cli.proofs.stream.Stream.write.Goals as goal

pub returns-in_err-write_line : goal.returns-in_err-write_line
returns-in_err-write_line g c =
    let told = g.Si.Sink.told in
    let s = c.self.inside in
    let blocks = compacted s.shown.blocks.list in
    let out : c.from_residual.result ≡ Err c.in_err-write_line.field-0.0 = search rules in
    broke (told c.args.sink.now) (told c.args.sink.now) (told c.write_line.new.sink) (record_text kind.Created)
    (records_text (records_of blocks s.part.from s.part.to) ++ record_text kind.Completed) c.args.self c.in_err-write_line.field-0.0
    c.from_residual.result out
    (begun_as (told c.args.sink.now) (told c.args.sink.now) c.args.self _ c.args.self
    (sym c.self.view_is ∙ stream_is blocks s.part.from s.part.to) (begun (told c.args.sink.now) c.args.self))
    c.in_err-write_line.ensures

pub returns-in_err-write_part : goal.returns-in_err-write_part
returns-in_err-write_part g c =
    let told = g.Si.Sink.told in
    let s = c.self.inside in
    let blocks = compacted s.shown.blocks.list in
    let part = records_text (records_of blocks s.part.from s.part.to) in
    let out : c.from_residual-in_err-write_part.result ≡ Err c.in_err-write_part.field-0.0 = search rules in
    broke (told c.args.sink.now) (told c.write_line.new.sink) (told c.write_part.new.sink) part (record_text kind.Completed) c.args.self
    c.in_err-write_part.field-0.0 c.from_residual-in_err-write_part.result out
    (further (told c.args.sink.now) (told c.args.sink.now) (told c.write_line.new.sink) (record_text kind.Created)
    (part ++ record_text kind.Completed) c.args.self _
    (begun_as (told c.args.sink.now) (told c.args.sink.now) c.args.self _ c.args.self
    (sym c.self.view_is ∙ stream_is blocks s.part.from s.part.to) (begun (told c.args.sink.now) c.args.self))
    c.in_ok-write_line.ensures)
    c.in_err-write_part.ensures

pub returns : goal.returns
returns g c =
    let told = g.Si.Sink.told in
    let s = c.self.inside in
    let blocks = compacted s.shown.blocks.list in
    let part = records_text (records_of blocks s.part.from s.part.to) in
    last (told c.args.sink.now) (told c.write_part.new.sink) (told c.write_line-2.new.sink) (record_text kind.Completed) c.args.self
    c.write_line-2.result
    (further (told c.args.sink.now) (told c.write_line.new.sink) (told c.write_part.new.sink) part (record_text kind.Completed) c.args.self _
    (further (told c.args.sink.now) (told c.args.sink.now) (told c.write_line.new.sink) (record_text kind.Created)
    (part ++ record_text kind.Completed) c.args.self _
    (begun_as (told c.args.sink.now) (told c.args.sink.now) c.args.self _ c.args.self
    (sym c.self.view_is ∙ stream_is blocks s.part.from s.part.to) (begun (told c.args.sink.now) c.args.self))
    c.in_ok-write_line.ensures)
    c.in_ok-write_part.ensures)
    c.write_line-2.ensures
