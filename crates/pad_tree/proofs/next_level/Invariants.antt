use Rattle.std.proofs.Common.{◌≡◌, ◌<◌, ℕ, get_or, length}
use Rattle.ql_types.specs.declared.Hash32.{Hash32}
use Rattle.hash_model.specs.Tree.{node}
use Rattle.pad_tree.proofs.next_level.Given as goal

abbrev pub invariant-places : goal.invariant-places
invariant-places l = record {
  long : length l.above.items ≡ l.place;
  nodes : (k : ℕ) (d : Hash32) → k < l.place → get_or l.above.items k d ≡ node l.pad l.below 1 k;
}
