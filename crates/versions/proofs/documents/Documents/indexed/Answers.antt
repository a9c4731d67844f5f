use Rattle.std.proofs.Common.{subst, ◌∙◌}
use Rattle.versions.specs.Indexes.{IsIndex}
use Rattle.versions.specs.Newest.{newest}
use Rattle.versions.proofs.Trees.{trees_more}
use Rattle.versions.proofs.documents.Documents.indexed.Goals as goal

pub invariant_of-result : goal.invariant_of-result
invariant_of-result c =
    let inside = c.self.inside in
    rw (c.in_ok-shelf.ensures, c.in_ok-indexes.ensures, c.in_ok-trees.ensures, c.as_slice.ensures, c.as_slice-2.ensures)
    (trees_more (newest inside.shelf) inside.indexes inside.trees c.args.index c.in_ok-tree.tree c.self.invariant
    (subst (λ ds. IsIndex ds c.args.index c.in_ok-tree.tree) c.latest.ensures c.in_ok-tree.ensures))
