use Rattle.std.proofs.Common.{◌≡◌, take}
use Rattle.versions.proofs.tables.copy_indexes.Given as goal

abbrev pub invariant-indexes : goal.invariant-indexes
invariant-indexes l = l.new.items ≡ take l.index-index l.indexes
