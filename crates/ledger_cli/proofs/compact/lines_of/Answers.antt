use Rattle.ledger_model.specs.Journal.{line}
use Rattle.ledger_cli.proofs.Compacting.{lines_on}
use Rattle.ledger_cli.proofs.compact.lines_of.Goals as goal

pub lines-preserved : goal.lines-preserved
lines-preserved c =
    lines_on line c.args.blocks.now c.lines.block-index c.block-item.result c.lines.text c.put_block.new.text c.lines-test.true c.block-item.is
    c.in_ok-put_block.ensures c.lines.invariant
