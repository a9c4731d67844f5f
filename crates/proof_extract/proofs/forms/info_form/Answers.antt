use Rattle.proof_extract.proofs.Places.{info_form_long}
use Rattle.proof_extract.proofs.forms.info_form.Goals as goal

pub returns-clause-long : goal.returns-clause-long
returns-clause-long c =
    info_form_long c.four_hashes_are_long.ensures c.field_hashes_are_long.ensures c.args.block.now.info c.as_slice.result.now c.in_ok-form.form
    c.requires c.in_ok-form.ensures
