use Rattle.std.proofs.Common.{◌≡◌, ◌++◌, List, [], ◌∷◌, sym, ◌∙◌, ap, subst}
use Rattle.versions.specs.declared.recorded.Recorded.{Recorded}
use Rattle.versions.specs.Indexes.{AreIndexes}
use Rattle.versions.specs.Newest.{newest, put}
use Rattle.versions.proofs.Newest.{newest-last}
use Rattle.versions.proofs.documents.Documents.push.Goals as goal

pub indexes_with-requires : goal.indexes_with-requires
indexes_with-requires c = rw (c.latest.ensures, c.as_slice.ensures, c.as_slice-2.ensures) c.self.invariant

pub invariant_of-result : goal.invariant_of-result
invariant_of-result c =
    let now : put c.latest.result.now c.args.item ≡ newest c.in_ok-shelf.shelf =
    ap (λ (ds : List Recorded). put ds c.args.item) c.latest.ensures ∙ sym (newest-last c.self.inside.shelf c.args.item) ∙ ap newest (sym c.in_ok-shelf.ensures) in
    rw (c.in_ok-indexes.ensures, c.in_ok-trees-2.ensures) (subst (λ (ds : List Recorded). AreIndexes ds c.self.inside.indexes c.in_ok-trees.trees.items) now
    (rw (sym c.as_slice.ensures) c.in_ok-trees.ensures))
