use Rattle.std.proofs.Common.{◌≡◌, drop}
use Rattle.versions.specs.Indexes.{tree_on}
use Rattle.versions.proofs.indexes.tree_on.Given as goal

-- the indexes in front are on other fields
abbrev pub invariant-indexes : goal.invariant-indexes
invariant-indexes l = tree_on (drop l.at l.indexes) (drop l.at l.trees) l.table l.field ≡ tree_on l.indexes l.trees l.table l.field
