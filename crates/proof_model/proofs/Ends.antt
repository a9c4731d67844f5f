-- The whole of a journal is what stands up to its last block.
use Rattle.std.proofs.Common.{◌≡◌, ◌∙◌, ◌+◌, ◌-◌, List, [], ◌∷◌, length, take, refl, sym, ap, arith}
use Rattle.std.proofs.Math.Seq.{take-length}
use Rattle.ledger_model.specs.declared.block.Block.{Block}
use Rattle.proof_model.specs.Issued.{block_hashes, hashes_to}

pub all_hashes : (blocks : List Block) → block_hashes blocks ≡ hashes_to blocks (length blocks - 1)
all_hashes [] = refl
all_hashes (b ∷ bs) =
    let long : length (b ∷ bs) - 1 + 1 ≡ length (b ∷ bs) = omega arith in
    sym (ap block_hashes (ap (λ n. take n (b ∷ bs)) long ∙ take-length (b ∷ bs)))
