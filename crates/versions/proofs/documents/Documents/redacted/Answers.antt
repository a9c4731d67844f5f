use Rattle.std.proofs.Common.{List, sym, ◌∙◌, ap, subst}
use Rattle.versions.specs.declared.recorded.Recorded.{Recorded}
use Rattle.versions.specs.Indexes.{AreIndexes}
use Rattle.versions.specs.Newest.{newest}
use Rattle.versions.proofs.Redacting.{newest_stands}
use Rattle.versions.proofs.documents.Documents.redacted.Goals as goal

pub invariant_of-result : goal.invariant_of-result
invariant_of-result c =
    let inside = c.self.inside in
    rw (c.in_ok-indexes.ensures, c.in_ok-trees.ensures)
    (subst (λ (ds : List Recorded). AreIndexes ds inside.indexes inside.trees)
    (sym (ap newest c.in_ok-shelf.ensures ∙ newest_stands c.args.change.now inside.shelf)) c.self.invariant)
