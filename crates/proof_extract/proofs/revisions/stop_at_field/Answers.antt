use Rattle.std.proofs.Common.{arith}
use Rattle.proof_extract.proofs.Places.{left_after, none_left, other_name}
use Rattle.proof_extract.proofs.revisions.stop_at_field.Goals as goal

pub fields-init : goal.fields-init
fields-init c = (c.requires.names, c.requires.among)

pub other_field-requires : goal.other_field-requires
other_field-requires c =
    other_name c.args.other.now c.args.fields.now c.fields.field-index c.field-item.result c.fields-test.true c.field-item.is
    c.fields.invariant

pub fields-preserved : goal.fields-preserved
fields-preserved c =
    left_after c.args.other.now c.args.fields.now c.fields.field-index c.field-item.result c.fields-test.true c.field-item.is
    c.fields.invariant c.in_ok-other_field.ensures

pub returns : goal.returns
returns c =
    none_left c.args.other.now c.args.fields.now c.fields.field-index (omega (arith, c.fields-test.false)) c.fields.invariant
