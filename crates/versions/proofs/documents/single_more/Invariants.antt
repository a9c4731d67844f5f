use Rattle.std.proofs.Common.{◌≡◌, take}
use Rattle.versions.proofs.documents.single_more.Given as goal

abbrev pub invariant-trees : goal.invariant-trees
invariant-trees l = l.new.items ≡ take l.one-index l.trees
