use Rattle.std.proofs.Common.{◌≡◌, ◌+◌, Err, arith, rules}
use Rattle.ledger_model.specs.Compaction.{compacted}
use Rattle.stream_out.specs.Streams.{records_of}
use Rattle.cli_model.specs.Streams.{records_text}
use Rattle.ledger_cli.specs.Streaming.{block_text}
use Rattle.ledger_cli.proofs.Streaming.{as_many, part_end, part_more}
use Rattle.ledger_cli.proofs.Written.{begun, begun_as, broke, ended, further}
use Rattle.ledger_cli.proofs.stream.write_part.Goals as goal

pub each-init : goal.each-init
each-init g c = record {
  named = c.requires.named;
  so_far = begun (g.Si.Sink.told c.args.sink.now) _;
}

pub each-preserved : goal.each-preserved
each-preserved g c =
    let told = g.Si.Sink.told in
    let all = c.args.shown.now.blocks.list in
    let blocks = compacted all in
    let at = c.each.at in
    let to = c.args.part.to in
    let text = records_text (records_of blocks c.args.part.from to) in
    let wrote = c.in_ok-write_block.ensures in
    record {
      named = wrote.names c.each.invariant.named;
      so_far = further (told c.args.sink.now) (told c.each.sink) (told c.write_block.new.sink) (block_text blocks at)
          (records_text (records_of blocks (at + 1) to)) text _
          (begun_as (told c.args.sink.now) (told c.each.sink) _ _ text
          (part_more blocks at to (omega (arith, as_many all all, c.requires.there)) (omega arith)) c.each.invariant.so_far)
          (wrote.written c.each.invariant.named);
    }

pub returns-in_err-write_block : goal.returns-in_err-write_block
returns-in_err-write_block g c =
    let told = g.Si.Sink.told in
    let all = c.args.shown.now.blocks.list in
    let blocks = compacted all in
    let at = c.each.at in
    let to = c.args.part.to in
    let text = records_text (records_of blocks c.args.part.from to) in
    let out : c.from_residual.result ≡ Err c.in_err-write_block.field-0.0 = search rules in
    broke (told c.args.sink.now) (told c.each.sink) (told c.write_block.new.sink) (block_text blocks at)
    (records_text (records_of blocks (at + 1) to)) text c.in_err-write_block.field-0.0 c.from_residual.result out
    (begun_as (told c.args.sink.now) (told c.each.sink) _ _ text
    (part_more blocks at to (omega (arith, as_many all all, c.requires.there)) (omega arith)) c.each.invariant.so_far)
    (c.in_err-write_block.ensures.written c.each.invariant.named)

pub returns : goal.returns
returns g c =
    let told = g.Si.Sink.told in
    let blocks = compacted c.args.shown.now.blocks.list in
    let to = c.args.part.to in
    let text = records_text (records_of blocks c.args.part.from to) in
    ended (told c.args.sink.now) (told c.each.sink) text
    (begun_as (told c.args.sink.now) (told c.each.sink) _ _ text (part_end blocks c.each.at to (omega arith)) c.each.invariant.so_far)
