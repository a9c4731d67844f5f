use Rattle.std.proofs.Common.{◌≡◌, take}
use Rattle.pad_tree.specs.Growing.{after_steps, level_over}
use Rattle.pad_tree.proofs.levels.Level.nodes_above.Given as goal

abbrev pub invariant-places : goal.invariant-places
invariant-places l = record {
  so_far : l.above.items ≡ take l.place (level_over l.self.pad l.self.nodes);
  counted : l.steps.taken ≡ after_steps l.place l.fn.steps.taken;
}
