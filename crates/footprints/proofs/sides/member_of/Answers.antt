use Rattle.std.proofs.Common.{length, refl}
use Rattle.std.proofs.lemmas.Option.{slice_get_past, slice_get_read}
use Rattle.footprints.proofs.Naming.{member_given, member_not_given}
use Rattle.footprints.proofs.sides.member_of.Goals as goal

pub returns-in-Some : goal.returns-in-Some
returns-in-Some c =
    let params = c.args.params.now in
    let n = c.in-Parameter.number in
    member_given params c.args.e.now n c.in-Some.value c.in-Parameter.is
    (slice_get_read params (length params) n c.in-Some.value.now refl c.in-Some.ensures.lookup.3.0 c.in-Some.ensures.lookup.1)

pub returns-in-None : goal.returns-in-None
returns-in-None c =
    member_not_given c.args.params.now c.args.e.now c.in-Parameter.number c.in-Parameter.is
    (slice_get_past c.args.params.now c.in-Parameter.number c.in-None.ensures.lookup.3)
