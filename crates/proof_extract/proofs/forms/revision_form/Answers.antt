use Rattle.std.proofs.Common.{◌∙◌, sym, ap, arith}
use Rattle.ql_types.specs.declared.Hash32.{Hash32}
use Rattle.hash_model.specs.PairHash.{dot32}
use Rattle.hash_model.specs.Serialize.{hash_of, serialize}
use Rattle.ledger_model.specs.Journal.{metadata_value}
use Rattle.proof_extract.proofs.Parts.{deleted_is, kept_is}
use Rattle.proof_extract.proofs.Strings.{metadata_long, pair_sum, value_sum}
use Rattle.proof_extract.proofs.forms.revision_form.Goals as goal

pub returns-in-None : goal.returns-in-None
returns-in-None c =
    let r = c.args.revision.now in
    let form = c.in_ok-form-in-None.form in
    let told = c.in_ok-form-in-None.ensures ∙ ap serialize c.in_ok-metadata.ensures in
    let long = metadata_long c.four_fields_are_long.ensures r.metadata form told in
    record {
      form = value_sum (metadata_value r.metadata) r.hash form told
          (c.requires ∙ deleted_is r.content r.metadata (sym c.in_ok-found.ensures ∙ c.in-None.is));
      long = omega (arith, long);
    }

pub returns-clause-form : goal.returns-clause-form
returns-clause-form c =
    let r = c.args.revision.now in
    let part = c.in-Some.part in
    let first = c.in_ok-first-in-Some.ensures ∙ ap hash_of c.in_ok-metadata.ensures in
    pair_sum c.in_ok-first-in-Some.first part r.hash c.in_ok-pair-in-Some.pair c.in_ok-pair-in-Some.ensures.form
    (c.requires ∙ kept_is r.content r.metadata part (sym c.in_ok-found.ensures ∙ c.in-Some.is)
    ∙ sym (ap (λ (h : Hash32). dot32 h part) first))
