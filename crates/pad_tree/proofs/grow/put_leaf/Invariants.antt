use Rattle.std.proofs.Common.{◌≡◌}
use Rattle.pad_tree.specs.Growing.{after_steps}
use Rattle.pad_tree.proofs.Towers.{IsRaised}
use Rattle.pad_tree.proofs.grow.put_leaf.Given as goal

abbrev pub invariant-levels : goal.invariant-levels
invariant-levels l = record {
  raised : IsRaised l.fn.levels l.fn.leaf l.at l.levels;
  counted : l.steps.taken ≡ after_steps l.at l.fn.steps.taken;
}
