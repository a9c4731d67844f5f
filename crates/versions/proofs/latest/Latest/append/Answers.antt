use Rattle.std.proofs.Common.{◌∙◌, ap}
use Rattle.versions.specs.declared.recorded.Recorded.{Recorded}
use Rattle.versions.proofs.Places.{places-more}
use Rattle.versions.proofs.latest.Latest.append.Goals as goal

pub invariant_of-result : goal.invariant_of-result
invariant_of-result c =
    places-more c.self.inside.places c.in_ok-places.places c.self.inside.documents c.in_ok-documents.documents c.args.item.value
    c.in_ok-id.id.value c.in_ok-place.place.value c.self.invariant (rw c.self.view_is c.requires)
    (c.in_ok-id.ensures.ok ∙ ap (λ (r : Recorded). r.revision.metadata.id) c.deref.ensures) (c.in_ok-place.ensures.ok ∙ c.len.ensures) c.in_ok-places.ensures c.in_ok-documents.ensures
