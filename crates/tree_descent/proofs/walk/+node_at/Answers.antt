use Rattle.std.proofs.Common.{◌≡◌, ◌∙◌, sym, ap, arith}
use Rattle.hash_model.specs.PairHash.{dot32}
use Rattle.hash_model.specs.Tree.{node, pad_hash}
use Rattle.tree_descent.proofs.Walks.{doubled, doubled_left, node_lowest, node_over}
use Rattle.tree_descent.proofs.walk.+node_at.Goals as goal

pub returns-then-level-eq0 : goal.returns-then-level-eq0
returns-then-level-eq0 t c =
    let lowest : c.args.level ≡ 0 = omega arith in
    c.leaf_at.ensures ∙ sym (node_lowest c.args.leaves.now c.args.at)
    ∙ ap (λ level. node pad_hash c.args.leaves.now level c.args.at) (sym lowest)

pub node_at-left-requires : goal.node_at-left-requires
node_at-left-requires t c =
    (omega arith, (omega arith, doubled_left c.args.level c.args.at (omega arith) c.requires.low c.requires.small))

pub node_at-right-requires : goal.node_at-right-requires
node_at-right-requires t c =
    (omega arith, (omega arith, doubled c.args.level c.args.at (omega arith) c.requires.low c.requires.small))

pub returns : goal.returns
returns t c =
    c.dot_full.ensures ∙ (λ i. dot32 (c.node_at-left.ensures i) (c.node_at-right.ensures i))
    ∙ sym (node_over c.args.leaves.now c.args.level c.args.at (omega arith))
