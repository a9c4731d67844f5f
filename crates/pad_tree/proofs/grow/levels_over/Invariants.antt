use Rattle.std.proofs.Common.{◌≡◌, ◌-◌, ◌≤◌, length}
use Rattle.pad_tree.specs.Growing.{after_steps, nodes_up_to, IsLevel}
use Rattle.pad_tree.proofs.AtOnce.{Each}
use Rattle.pad_tree.proofs.grow.levels_over.Given as goal

abbrev pub invariant-levels : goal.invariant-levels
invariant-levels l = record {
  few : length l.levels.items ≤ 32;
  each : Each l.fn.leaves l.levels.items;
  last : IsLevel l.fn.leaves (length l.levels.items) l.level;
  counted : l.steps.taken ≡ after_steps (nodes_up_to l.fn.leaves (length l.levels.items)) l.fn.steps.taken;
}

abbrev pub decreases-levels : goal.decreases-levels
decreases-levels l = 32 - length l.levels.items
