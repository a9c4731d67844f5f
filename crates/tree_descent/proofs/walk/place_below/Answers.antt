use Rattle.std.proofs.Common.{◌∙◌, ◌-◌, length, sym, ap, arith}
use Rattle.std.proofs.Math.Seq.{take-length}
use Rattle.pad_tree.specs.Paths.{folded}
use Rattle.tree_descent.proofs.Walks.{some_room, within_below}
use Rattle.tree_descent.proofs.walk.place_below.Goals as goal

pub levels-init : goal.levels-init
levels-init c = record {
  low = omega arith;
  small = some_room (64 - length c.args.path.now);
  hash = ap (folded c.args.start.now) (take-length c.args.path.now) ∙ c.requires.root;
}

pub levels-preserved : goal.levels-preserved
levels-preserved c =
    let so_far = c.levels.invariant.low in
    let low = c.requires.low in
    let next = c.in_ok-at.ensures in
    record {
      low = omega (arith, so_far);
      small = within_below c.levels.place.level c.levels.place.at c.in_ok-at.at (omega arith) (omega (arith, so_far, low))
          c.levels.invariant.small next.place;
      hash = sym c.fold_hashes-below.ensures ∙ next.hash;
    }
