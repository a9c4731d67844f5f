use Rattle.std.proofs.Common.{◌∙◌, sym, ap}
use Rattle.hash_model.specs.Serialize.{serialize}
use Rattle.ledger_model.specs.Journal.{metadata_value}
use Rattle.ledger_model.specs.Seals.{info_hash}
use Rattle.proof_extract.proofs.Strings.{form_sum, value_sum}
use Rattle.proof_extract.proofs.revisions.stop_at_metadata.Goals as goal

pub stop_if_different-requires : goal.stop_if_different-requires
stop_if_different-requires c =
    let b = c.args.block.now in
    value_sum (metadata_value c.args.metadata.now) (info_hash b.info b.revisions) c.in_ok-form.form
    (c.in_ok-form.ensures ∙ ap serialize c.in_ok-value.ensures) (sym c.requires.hash)
    ∙ form_sum b.info b.revisions c.in_ok-info.info c.in_ok-info.ensures.form

pub stop_at_place-requires-clause-form : goal.stop_at_place-requires-clause-form
stop_at_place-requires-clause-form c =
    sym (c.in_ok-form.ensures ∙ ap serialize c.in_ok-value.ensures) ∙ c.in_ok-stop_if_different.ensures ∙ c.in_ok-info.ensures.form
