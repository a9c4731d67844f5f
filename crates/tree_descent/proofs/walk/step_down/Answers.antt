use Rattle.std.proofs.Common.{◌∙◌, sym}
use Rattle.hash_model.specs.PairHash.{dot32}
use Rattle.tree_descent.proofs.Walks.{doubled, doubled_left, node_over}
use Rattle.tree_descent.proofs.walk.step_down.Goals as goal

pub node_at-left-requires-clause-small : goal.node_at-left-requires-clause-small
node_at-left-requires-clause-small c =
    doubled_left c.args.from.level c.args.from.at c.requires.high c.requires.low c.requires.small

pub node_at-right-requires-clause-small : goal.node_at-right-requires-clause-small
node_at-right-requires-clause-small c =
    doubled c.args.from.level c.args.from.at c.requires.high c.requires.low c.requires.small

pub one_pair-requires : goal.one_pair-requires
one_pair-requires c =
    c.requires.hash ∙ node_over c.args.leaves.now c.args.from.level c.args.from.at c.requires.high
    ∙ (λ i. dot32 (sym c.node_at-left.ensures i) (sym c.node_at-right.ensures i))
