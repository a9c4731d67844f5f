use Rattle.std.proofs.Common.{◌∙◌, Some, sym, ap, arith}
use Rattle.std.proofs.lemmas.Option.{slice_get-get_or}
use Rattle.hash_model.specs.Tree.{node, pad_hash}
use Rattle.pad_tree.specs.Paths.{folded}
use Rattle.tree_descent.proofs.Walks.{low_tree, node_lowest, past_end, root_is}
use Rattle.tree_descent.proofs.walk.descend.Goals as goal

pub place_below-requires-clause-low : goal.place_below-requires-clause-low
place_below-requires-clause-low c =
    let low = low_tree c.args.leaves.now (omega arith) in
    let long = c.requires.long in
    omega (arith, low, long)

pub place_below-requires-clause-root : goal.place_below-requires-clause-root
place_below-requires-clause-root c =
    root_is c.args.leaves.now (folded c.args.start.now c.args.path.now) c.requires.root
    ∙ ap (λ level. node pad_hash c.args.leaves.now level 0) (sym c.requires.long)

pub returns-then-at-leaves : goal.returns-then-at-leaves
returns-then-at-leaves c =
    slice_get-get_or c.args.leaves.now c.in_ok-at.at pad_hash (omega arith)
    ∙ ap Some (sym (c.in_ok-at.ensures ∙ node_lowest c.args.leaves.now c.in_ok-at.at))

pub returns-else-at-leaves : goal.returns-else-at-leaves
returns-else-at-leaves c =
    c.in_ok-at.ensures ∙ node_lowest c.args.leaves.now c.in_ok-at.at
    ∙ past_end c.args.leaves.now c.in_ok-at.at pad_hash (omega arith)
