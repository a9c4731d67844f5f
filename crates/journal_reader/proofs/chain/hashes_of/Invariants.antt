use Rattle.std.proofs.Common.{◌≡◌, take}
use Rattle.proof_model.specs.Issued.{block_hashes}
use Rattle.journal_reader.proofs.chain.hashes_of.Given as goal

-- the hashes of the blocks so far
abbrev pub invariant-each : goal.invariant-each
invariant-each l = l.hashes.items ≡ block_hashes (take l.block-index l.blocks)
