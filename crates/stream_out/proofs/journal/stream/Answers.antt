use Rattle.std.proofs.Common.{◌∙◌, List, ap, drop, take}
use Rattle.ledger_model.specs.declared.block.Block.{Block}
use Rattle.stream_out.proofs.Told.{streamed}
use Rattle.stream_out.proofs.journal.stream.Goals as goal

pub returns : goal.returns
returns c =
    streamed c.args.blocks.now.list c.split_at.result.0.now c.split_at.result.1.now c.split_at-2.result.0.now c.args.from c.args.to c.in_ok-names.names
    c.new-records.result c.push.new.self c.push_blocks.new.records c.push-2.new.self
    (c.split_at.ensures.front ∙ ap (λ (bs : List Block). take c.args.from bs) c.as_slice.ensures)
    (c.split_at.ensures.back ∙ ap (λ (bs : List Block). drop c.args.from bs) c.as_slice.ensures) c.split_at-2.ensures.front
    c.new-records.ensures c.in_ok-push.ensures.ok c.in_ok-names.ensures c.in_ok-push_blocks.ensures c.in_ok-push-2.ensures.ok
