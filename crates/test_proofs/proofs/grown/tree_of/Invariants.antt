use Rattle.std.proofs.Common.{◌≡◌, take}
use Rattle.proof_model.specs.Issued.{block_hashes}
use Rattle.test_proofs.proofs.grown.tree_of.Given as goal

-- the leaves are the hashes of the blocks so far
abbrev pub invariant-leaves : goal.invariant-leaves
invariant-leaves l = l.tree.leaves ≡ block_hashes (take l.block-index l.block-items)
