use Rattle.std.proofs.Common.{◌≡◌, ◌-◌, length, take, sym, ◌∙◌, ap, arith}
use Rattle.versions.specs.Redactions.{changed_along}
use Rattle.versions.proofs.Changing.{along_next, before_taken}
use Rattle.versions.proofs.redactions.changed_along.Goals as goal

pub places-preserved : goal.places-preserved
places-preserved c =
    along_next c.args.change.now c.args.places.now c.places.number c.in-Some.place.now c.args.revisions.now c.places.new
    c.in_ok-new-2.new (sym c.in-Some.ensures) c.places.invariant c.in_ok-new-2.ensures

pub returns : goal.returns
returns c =
    let last : c.places.number ≡ length c.args.places.now - 1 = omega (arith, c.places-test.false, c.places.auto.number-end) in
    c.places.invariant
    ∙ ap (λ places. changed_along c.args.change.now places c.args.revisions.now)
    (ap (λ n. take n c.args.places.now) last ∙ before_taken c.args.places.now)
