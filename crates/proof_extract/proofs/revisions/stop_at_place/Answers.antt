use Rattle.std.proofs.Common.{◌∙◌, sym, ap}
use Rattle.std.specs.Option.{option_copied}
use Rattle.proof_extract.proofs.Places.{its_place, left_at_first, their_fields}
use Rattle.proof_extract.proofs.revisions.stop_at_place.Goals as goal

pub stop_at_field-requires-clause-names : goal.stop_at_field-requires-clause-names
stop_at_field-requires-clause-names c =
    let b = c.args.block.now in
    let m = c.args.metadata.now in
    let fields = their_fields m c.in_ok-value.value c.in-Some.fields.now c.in_ok-value.ensures
    (sym c.fields_in.ensures ∙ ap option_copied c.in-Some.is) in
    let place = its_place b.info b.revisions c.in_ok-info.info c.in-Some-first_field.place.now c.in_ok-info.ensures
    (sym c.first_field.ensures ∙ ap option_copied c.in-Some-first_field.is) in
    let left = left_at_first c.frame_is_injective.ensures c.escape_is_injective.ensures c.joined_hashes_are_injective.ensures
    c.field_hashes_are_long.ensures m b.info b.revisions c.requires.fits c.requires.form c.as_slice.result.now
    c.in-Some.fields.now c.in-Some-first_field.place.now c.as_slice.ensures fields place in
    left.0

pub stop_at_field-requires-clause-among : goal.stop_at_field-requires-clause-among
stop_at_field-requires-clause-among c =
    let b = c.args.block.now in
    let m = c.args.metadata.now in
    let fields = their_fields m c.in_ok-value.value c.in-Some.fields.now c.in_ok-value.ensures
    (sym c.fields_in.ensures ∙ ap option_copied c.in-Some.is) in
    let place = its_place b.info b.revisions c.in_ok-info.info c.in-Some-first_field.place.now c.in_ok-info.ensures
    (sym c.first_field.ensures ∙ ap option_copied c.in-Some-first_field.is) in
    let left = left_at_first c.frame_is_injective.ensures c.escape_is_injective.ensures c.joined_hashes_are_injective.ensures
    c.field_hashes_are_long.ensures m b.info b.revisions c.requires.fits c.requires.form c.as_slice.result.now
    c.in-Some.fields.now c.in-Some-first_field.place.now c.as_slice.ensures fields place in
    left.1
