use Rattle.std.proofs.Common.{Some, None, refl, sym, ◌∙◌, ap}
use Rattle.std.specs.Option.{option_copied}
use Rattle.versions.proofs.Named.{named_here, named_later}
use Rattle.versions.proofs.redactions.named_along.Goals as goal

pub returns-in-Some-named_at : goal.returns-in-Some-named_at
returns-in-Some-named_at c =
    named_here c.args.change.now c.args.revisions.now c.args.places.now c.places.number c.in-Some.place.now (Some c.in-Some-named_at.recorded.now) _
    (sym c.in-Some.ensures) (sym (ap option_copied c.in-Some-named_at.is) ∙ c.named_at.ensures) c.places.invariant refl

pub places-preserved : goal.places-preserved
places-preserved c =
    named_later c.args.change.now c.args.revisions.now c.args.places.now c.places.number c.in-Some.place.now None _
    (sym c.in-Some.ensures) (sym (ap option_copied c.in_default-named_at.is) ∙ c.named_at.ensures) c.places.invariant refl
