-- The digest of a journal and the proof of a revision (QLDB Developer Guide, "Data verification in Amazon QLDB").
use Rattle.std.specs.Prelude.{ℕ, ◌+◌, ◌<◌, ◌≤◌, ◌≡◌, List, ◌∷◌, ◌++◌, length, map, take, Some, slice_get}
use Rattle.ql_types.specs.declared.Hash.TheVariants.{Full}
use Rattle.ql_types.specs.declared.Hash32.{Hash32}
use Rattle.hash_model.specs.Tree.{root_of}
use Rattle.pad_tree.specs.Paths.{path_of}
use Rattle.ledger_model.specs.declared.block.Revision.{Revision}
use Rattle.ledger_model.specs.declared.block.Block.{Block}
use Rattle.ledger_model.specs.Seals.{info_hash}
use Rattle.proof_model.specs.declared.Digest.{Digest}
use Rattle.proof_model.specs.declared.Proof.{Proof}
use Rattle.proof_model.specs.Chained.{Chained}
use Rattle.proof_model.specs.Verified.{Verified}

-- the hashes of the blocks
abbrev pub block_hashes : List Block → List Hash32
block_hashes blocks = map (λ b. b.hash) blocks

-- the hashes of the blocks up to a tip
abbrev pub hashes_to : List Block → ℕ → List Hash32
hashes_to blocks tip = map (λ b. b.hash) (take (tip + 1) blocks)

-- the digest is the root over the hashes of the blocks up to the tip, with the tip's address
pub record IsDigest (blocks : List Block) (tip : ℕ) (d : Digest) : Type 0 where
  pub root : Full d.digest ≡ root_of (hashes_to blocks tip)
  pub sequence : d.tip.sequence ≡ tip
  pub strand : (b : Block) → slice_get blocks 0 ≡ Some b → d.tip.strand ≡ b.header.address.strand

-- the proof of the revision at an index of the block at a place, for the digest with this tip
abbrev pub proof_for : List Block → Block → ℕ → ℕ → ℕ → Proof
proof_for blocks b sequence index tip = record {
  header = b.header;
  index = index;
  path = path_of (map (λ r. r.hash) b.revisions) index
      ++ info_hash b.info b.revisions ∷ b.previous ∷ path_of (hashes_to blocks tip) sequence;
}

-- the proof is accepted for the revision at that index of that block, where the revision has its block's address
abbrev pub IsAccepted : List Block → ℕ → ℕ → ℕ → Proof → Type 0
IsAccepted blocks sequence index tip p = (b : Block) (r : Revision) (d : Digest) → slice_get blocks sequence ≡ Some b
    → slice_get b.revisions index ≡ Some r → r.address ≡ b.header.address → IsDigest blocks tip d → Verified d r p

-- what a chained journal gives as the proof of a revision is accepted
abbrev pub ProofsVerify : Type 0
ProofsVerify =
    (blocks : List Block) (b : Block) (sequence index tip : ℕ) → Chained blocks → tip < length blocks → sequence ≤ tip
    → slice_get blocks sequence ≡ Some b → IsAccepted blocks sequence index tip (proof_for blocks b sequence index tip)
