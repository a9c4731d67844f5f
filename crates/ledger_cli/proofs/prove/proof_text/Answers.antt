use Rattle.std.proofs.Common.{◌≡◌, ◌∙◌, ℕ, List, Option, ap, sym, subst}
use Rattle.std.specs.Prelude.{IfSome}
use Rattle.ledger_model.specs.declared.block.Block.{Block}
use Rattle.ledger_model.specs.declared.block.Revision.{Revision}
use Rattle.ledger_model.specs.Compaction.{shown_revision}
use Rattle.proof_model.specs.Issued.{proof_for}
use Rattle.cli_model.specs.Journals.{PublishesProof}
use Rattle.cli_model.specs.Outputs.{bundle_text}
use Rattle.cli_model.proofs.Addresses.{addresses}
use Rattle.ledger_cli.proofs.Proving.{accepted_shown, found, found_some, not_none, same_revision, shown_at, shown_some}
use Rattle.ledger_cli.proofs.prove.proof_text.Goals as goal

pub unreachable-requires : goal.unreachable-requires
unreachable-requires c =
    let blocks = c.args.journal.now.blocks in
    let sequence = c.args.sequence in
    let index = c.args.index in
    let chained = c.undamaged_is_chained.ensures blocks c.blocks-blocks.ensures.undamaged in
    let f = found blocks chained sequence index c.tip_in-tip.result c.in_ok-proof.ensures.refused in
    let at = ap (λ (bs : List Block). shown_at bs sequence index) c.blocks-blocks.ensures.blocks in
    not_none (shown_revision blocks f.table f.revision) _ (found_some blocks sequence index f) (sym (c.in_ok-found.ensures ∙ at) ∙ c.in_default.is)

pub returns-clause-published : goal.returns-clause-published
returns-clause-published c =
    let blocks = c.args.journal.now.blocks in
    let sequence = c.args.sequence in
    let index = c.args.index in
    let tip = c.tip_in-tip.result in
    let undamaged = c.blocks-blocks.ensures.undamaged in
    let digest = c.in_ok-digest.digest in
    let proof = c.in_ok-proof.proof in
    let f = found blocks (c.undamaged_is_chained.ensures blocks undamaged) sequence index tip c.in_ok-proof.ensures.refused in
    let shown = shown_revision blocks f.table f.revision in
    let own = addresses blocks undamaged sequence f.block f.block_is index f.revision f.revision_is in
    let at = ap (λ (bs : List Block). shown_at bs sequence index) c.blocks-blocks.ensures.blocks in
    let same : c.in-Some.revision ≡ shown =
    same_revision c.in-Some.revision shown _ (sym c.in-Some.is ∙ c.in_ok-found.ensures ∙ at) (found_some blocks sequence index f) in
    subst (λ (t : ℕ). PublishesProof sequence index t blocks c.in_ok-text.text) c.tip_in-tip.ensures
    (record {
      there = c.in_ok-proof.ensures.refused;
      digest = digest;
      digest_is = c.in_ok-digest.ensures.digest;
      block = f.block;
      block_is = f.block_is;
      revision = shown;
      revision_is = shown_some blocks f.block.info.tables f.block.revisions index f.table f.revision f.table_is f.revision_is;
      proof = proof;
      proof_is = subst (λ (o : Option Block). IfSome o (λ b. proof ≡ proof_for blocks b sequence index tip)) f.block_is c.in_ok-proof.ensures.proof;
      accepted = accepted_shown blocks f.table f.revision digest proof
          (c.in_ok-proof.ensures.accepted f.block f.revision digest f.block_is f.revision_is own c.in_ok-digest.ensures.digest);
      text_is = c.in_ok-text.ensures ∙ ap (λ (r : Revision). bundle_text digest r proof) same;
    })
