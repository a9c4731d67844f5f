use Rattle.txn_core.proofs.InRange.{said-in}
use Rattle.txn_core.proofs.ranges.said_is_within.Goals as goal

pub returns : goal.returns
returns c =
    said-in c.args.said.now c.as_slice.result.now c.as_slice-2.result.now c.text_is_within.ensures c.as_slice.ensures c.values_are_within.ensures
    c.as_slice-2.ensures c.values_are_within-2.ensures
