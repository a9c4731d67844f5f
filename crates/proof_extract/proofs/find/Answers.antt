use Rattle.std.proofs.Common.{◌∙◌, ap, subst}
use Rattle.std.specs.Prelude.{slice_get}
use Rattle.std.proofs.lemmas.Option.{slice_get_within}
use Rattle.ledger_model.specs.declared.block.Block.{Block}
use Rattle.tree_descent.proofs.Stops.{stop_for}
use Rattle.proof_extract.specs.Climbs.{HasChanges}
use Rattle.proof_extract.specs.Extracts.{IsFound, IsRevisionOf}
use Rattle.proof_extract.proofs.Chain.{count_here, hashes_here, told_here}
use Rattle.proof_extract.proofs.Finds.{found_at}
use Rattle.proof_extract.proofs.Found.{one_there}
use Rattle.proof_extract.proofs.find.Goals as goal

pub block_of-requires-clause-top : goal.block_of-requires-clause-top
block_of-requires-clause-top c = c.in_ok-climbed.ensures.top ∙ c.requires.verified.root

pub block_at-block-requires : goal.block_at-block-requires
block_at-block-requires c =
    let of = c.in_ok-number.ensures in slice_get_within c.args.blocks.now c.in_ok-number.number of.block of.at

pub revision_in-requires-clause-hashes : goal.revision_in-requires-clause-hashes
revision_in-requires-clause-hashes c =
    hashes_here c.args.blocks.now c.requires.chained c.in_ok-number.number c.block_at-block.result.now c.block_at-block.ensures

pub revision_in-requires-clause-fits : goal.revision_in-requires-clause-fits
revision_in-requires-clause-fits c =
    told_here c.args.blocks.now c.requires.chained c.in_ok-number.number c.block_at-block.result.now c.block_at-block.ensures

pub revision_in-requires-clause-revisions : goal.revision_in-requires-clause-revisions
revision_in-requires-clause-revisions c =
    count_here c.args.blocks.now c.requires.chained c.in_ok-number.number c.block_at-block.result.now c.block_at-block.ensures

pub revision_in-requires-clause-header : goal.revision_in-requires-clause-header
revision_in-requires-clause-header c =
    let of = c.in_ok-number.ensures in
    of.revisions
    ∙ ap (λ (x : Block). x.header.revisions)
    (one_there (slice_get c.args.blocks.now c.in_ok-number.number) of.block c.block_at-block.result.now of.at
    c.block_at-block.ensures)

pub revision_in-requires-clause-changes : goal.revision_in-requires-clause-changes
revision_in-requires-clause-changes c =
    let of = c.in_ok-number.ensures in
    subst (λ (x : Block). HasChanges x c.in_ok-climbed.climbed)
    (one_there (slice_get c.args.blocks.now c.in_ok-number.number) of.block c.block_at-block.result.now of.at
    c.block_at-block.ensures) of.changes

pub returns : goal.returns
returns c =
    let blocks = c.args.blocks.now in
    let r = c.args.revision.now in
    let number = c.in_ok-number.number in
    let of = c.in_ok-number.ensures in
    let b = c.block_at-block.result.now in
    let same = one_there (slice_get blocks number) of.block b of.at c.block_at-block.ensures in
    stop_for (IsRevisionOf b r) (IsFound blocks r)
    (found_at blocks c.args.digest.now r c.args.proof.now number b c.requires.chained c.requires.within c.requires.published
    c.requires.verified c.block_at-block.ensures (of.sequence ∙ ap (λ (x : Block). x.header.address.sequence) same))
    c.revision_in.result c.revision_in.ensures
