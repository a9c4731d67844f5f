use Rattle.std.specs.Prelude.{IfSome}
use Rattle.std.proofs.Common.{subst}
use Rattle.ion_values.specs.declared.value.Value.{Value}
use Rattle.ledger_model.specs.Journal.{metadata_value}
use Rattle.tree_descent.proofs.Stops.{stop_for}
use Rattle.proof_extract.specs.Extracts.{AreAlike, SameParts, data_in}
use Rattle.proof_extract.proofs.Parts.{alike_for}
use Rattle.proof_extract.proofs.revisions.same_parts.Goals as goal

pub returns : goal.returns
returns c =
    let r = c.args.revision.now in
    let own = c.args.own.now in
    let v = c.in_ok-metadata.metadata in
    let w = c.in_ok-other.other in
    stop_for (λ _. IfSome (data_in own.content) (AreAlike v))
    (λ _. SameParts r.content r.metadata own.content own.metadata)
    (λ _ last. record {
      hashes = c.in_ok-same_hashes.ensures;
      metadata = alike_for v w (metadata_value r.metadata) (metadata_value own.metadata) c.in_ok-metadata.ensures
          c.in_ok-other.ensures c.in_ok-alike.ensures;
      both = c.in_ok-both_alike.ensures;
      kept_metadata = subst (λ (x : Value). IfSome (data_in r.content) (λ (d : Value). AreAlike d x)) c.in_ok-other.ensures
          c.in_ok-data_alike.ensures;
      metadata_kept = subst (λ (x : Value). IfSome (data_in own.content) (AreAlike x)) c.in_ok-metadata.ensures last;
    })
    c.alike_data.result c.alike_data.ensures
