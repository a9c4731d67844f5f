use Rattle.std.proofs.Common.{drop}
use Rattle.versions.specs.Indexes.{AreIndexes}
use Rattle.versions.specs.Newest.{put}
use Rattle.versions.proofs.Trees.{AreSoFar}
use Rattle.versions.proofs.indexes.indexes_with.Given as goal

-- the postings so far are the new ones, and those that are left are the old ones
abbrev pub invariant-indexes : goal.invariant-indexes
invariant-indexes l =
    AreIndexes l.latest (drop l.at l.indexes) (drop l.at l.trees) × AreSoFar (put l.latest l.item) l.indexes (drop l.at l.indexes) l.new.items
