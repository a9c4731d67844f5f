use Rattle.std.proofs.Common.{◌≡◌, map, take}
use Rattle.ledger_model.specs.declared.block.Block.{Block}
use Rattle.proof_extract.proofs.blocks.hashes_to.Given as goal

abbrev pub invariant-up_to : goal.invariant-up_to
invariant-up_to l = l.hashes ≡ map (λ (b : Block). b.hash) (take l.block-index l.block-items)
