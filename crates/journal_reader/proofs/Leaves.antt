-- The root of the tree over the hashes of a journal's blocks, and the digest that it makes.
use Rattle.std.proofs.Common.{◌≡◌, ◌∙◌, ◌-◌, List, [], ◌∷◌, Some, length, refl, ap}
use Rattle.std.specs.Prelude.{slice_get}
use Rattle.ql_types.specs.declared.Hash.TheVariants.{Empty, Full}
use Rattle.ql_types.specs.declared.Hash32.{Hash32}
use Rattle.hash_model.specs.Tree.{root_of}
use Rattle.ledger_model.specs.declared.block.Block.{Block}
use Rattle.proof_model.specs.Chained.{Chained}
use Rattle.proof_model.specs.Issued.{block_hashes, IsDigest}
use Rattle.proof_model.proofs.Chains.{place_is, strand_is}
use Rattle.proof_model.proofs.Ends.{all_hashes}

pub no_blocks : (leaves : List Hash32) (blocks : List Block) → leaves ≡ block_hashes blocks → Empty ≡ root_of leaves → blocks ≡ []
no_blocks leaves [] is e = refl
no_blocks leaves (b ∷ bs) is e = let root : root_of leaves ≡ root_of (block_hashes (b ∷ bs)) = ap root_of is in cc

pub grown_digest : (leaves : List Hash32) (blocks : List Block) (last : Block) (root : Hash32) → Chained blocks → leaves ≡ block_hashes blocks
    → slice_get blocks (length blocks - 1) ≡ Some last → Full root ≡ root_of leaves
    → IsDigest blocks (length blocks - 1) (record { digest = root; tip = last.header.address })
grown_digest leaves blocks last root chained is at e = record {
  root = e ∙ ap root_of (is ∙ all_hashes blocks);
  sequence = place_is blocks chained (length blocks - 1) last at;
  strand = λ first f. strand_is blocks chained (length blocks - 1) last first at f;
}
