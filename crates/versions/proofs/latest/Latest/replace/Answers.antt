use Rattle.versions.specs.Newest.{id_of}
use Rattle.versions.proofs.Places.{document-within, places-kept}
use Rattle.versions.proofs.latest.Latest.replace.Goals as goal

pub set-requires : goal.set-requires
set-requires c = rw c.self.view_is (document-within c.args.self.now (id_of c.args.item.value) c.args.at c.requires)

pub invariant_of-result : goal.invariant_of-result
invariant_of-result c =
    rw c.in_ok-places.ensures (places-kept c.self.inside.places c.args.at c.self.inside.documents c.in_ok-documents.documents c.args.item.value c.self.invariant
    (rw c.self.view_is c.requires) c.in_ok-documents.ensures)
