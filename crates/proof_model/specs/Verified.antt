-- When a proof shows that a revision is in the journal of a digest (QLDB Developer Guide, "Data verification in Amazon
-- QLDB"; FIPS 180-4 for SHA-256, Ion Hash for values). Where the hashes of the header and of what the transaction did
-- stand is the ledger's own rule.
use Rattle.std.specs.Prelude.{ℕ, ◌+◌, ◌<◌, ◌≤◌, ◌≡◌, List, ◌∷◌, ◌++◌, take, drop, length}
use Rattle.ql_types.specs.declared.Hash32.{Hash32}
use Rattle.hash_model.specs.Serialize.{hash_of}
use Rattle.hash_model.specs.Tree.{height_of}
use Rattle.pad_tree.specs.Paths.{folded}
use Rattle.ledger_model.specs.declared.block.Revision.{Revision}
use Rattle.ledger_model.specs.Journal.{header_value}
use Rattle.ledger_model.specs.Seals.{revision_hash}
use Rattle.proof_model.specs.declared.Digest.{Digest}
use Rattle.proof_model.specs.declared.Proof.{Proof}

-- how many hashes of a path lead from the revision to the root of its block's revisions
abbrev pub block_height : Proof → ℕ
block_height p = height_of p.header.revisions

-- and how many lead from the block to the digest
abbrev pub digest_height : Digest → ℕ
digest_height d = height_of (d.tip.sequence + 1)

-- between the two stand the hash of what the transaction did and the hash of the block before
abbrev pub path_length : Digest → Proof → ℕ
path_length d p = block_height p + 2 + digest_height d

-- the path with the header's hash behind that of what the transaction did
abbrev pub whole_path : Proof → List Hash32
whole_path p = take (block_height p + 1) p.path ++ hash_of (header_value p.header) ∷ drop (block_height p + 1) p.path

-- what the revision's hash comes to
abbrev pub root_by : Revision → Proof → Hash32
root_by r p = folded r.hash (whole_path p)

-- the parts, in the order in which they are checked
pub record Verified (d : Digest) (r : Revision) (p : Proof) : Type 0 where
  pub strand : p.header.address.strand ≡ d.tip.strand
  pub address : r.address ≡ p.header.address
  pub tip : p.header.address.sequence ≤ d.tip.sequence
  pub index : p.index < p.header.revisions
  pub long : length p.path ≡ path_length d p
  pub stated : r.hash ≡ revision_hash r.content r.metadata
  pub root : root_by r p ≡ d.digest
