use Rattle.std.proofs.Common.{◌≡◌, ◌∙◌, sym}
use Rattle.std.specs.Prelude.{slice_get}
use Rattle.std.proofs.lemmas.Option.{slice_get_within}
use Rattle.ledger_model.specs.declared.block.Block.{Block}
use Rattle.proof_extract.proofs.Chain.{hashes_here}
use Rattle.proof_extract.proofs.Found.{there}
use Rattle.proof_extract.proofs.blocks.block_of.Goals as goal

pub block_at-block-requires : goal.block_at-block-requires
block_at-block-requires c =
    let has = c.in_ok-found.ensures in slice_get_within c.args.blocks.now c.in_ok-found.found has.block has.at

pub same_changes-requires-clause-hashes : goal.same_changes-requires-clause-hashes
same_changes-requires-clause-hashes c =
    hashes_here c.args.blocks.now c.requires.chained c.in_ok-found.found c.block_at-block.result.now c.block_at-block.ensures

pub same_changes-requires-clause-entries : goal.same_changes-requires-clause-entries
same_changes-requires-clause-entries c =
    there (λ (x : Block). c.args.climbed.now.entries ≡ x.entries) (slice_get c.args.blocks.now c.in_ok-found.found)
    c.block_at-block.result.now c.block_at-block.ensures c.in_ok-same_entries.ensures

pub same_header-requires : goal.same_header-requires
same_header-requires c = sym c.requires.header ∙ c.in_ok-same_changes.ensures.1

pub returns : goal.returns
returns c = record {
  block = c.block_at-block.result.now;
  at = c.block_at-block.ensures;
  sequence = c.in_ok-same_header.ensures.0;
  revisions = c.in_ok-same_header.ensures.1;
  changes = c.in_ok-same_changes.ensures.0;
}
