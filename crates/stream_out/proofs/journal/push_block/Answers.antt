use Rattle.stream_out.proofs.Told.{block_pushed}
use Rattle.stream_out.proofs.journal.push_block.Goals as goal

pub returns : goal.returns
returns c = λ changes stand.
    block_pushed changes c.args.block.now c.args.records.now c.push.new.self c.push_details.new.records c.in_ok-summary.summary
    c.as_slice-tables.result.now c.as_slice-revisions.result.now c.in_ok-summary.ensures c.as_slice-tables.ensures c.as_slice-revisions.ensures
    c.in_ok-push.ensures.ok (c.in_ok-push_details.ensures changes stand)
