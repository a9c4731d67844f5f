-- What an accepted proof comes to in the journal of its digest (QLDB Developer Guide, "Data verification in Amazon
-- QLDB", for digests and proofs). A hash of two hashes forgets which came first, so neither the proof's own index nor
-- which of two parts is the metadata is told.
use Rattle.std.specs.Prelude.{ℕ, ◌<◌, ◌≡◌, ◌≢◌, ◌⊎◌, true, List, [], ◌∷◌, length, reverse, Option, Some, None, IfSome, slice_get}
use Rattle.ion_values.specs.Equivalent.{is_equivalent}
use Rattle.ion_values.specs.declared.value.Value.{Value}
use Rattle.ql_types.specs.declared.Hash32.{Hash32}
use Rattle.hash_model.specs.Serialize.{hash_of}
use Rattle.ledger_model.specs.declared.block.Block.{Block}
use Rattle.ledger_model.specs.declared.block.Content.{Content}
use Rattle.ledger_model.specs.declared.block.Content.TheVariants.{Deleted, Kept, Redacted}
use Rattle.ledger_model.specs.declared.block.Metadata.{Metadata}
use Rattle.ledger_model.specs.declared.block.Revision.{Revision}
use Rattle.ledger_model.specs.Journal.{metadata_value}
use Rattle.proof_model.specs.declared.Digest.{Digest}
use Rattle.proof_model.specs.Issued.{IsDigest}
use Rattle.tree_descent.specs.Collisions.{IsCollision}
use Rattle.proof_extract.specs.declared.Extracted.{Extracted}
use Rattle.proof_extract.specs.declared.Extracted.TheVariants as extracted

-- ---- parts of revisions

-- the hash of the data, which a delete has not
abbrev pub data_hash : Content → Option Hash32
data_hash Deleted = None
data_hash (Kept v) = Some (hash_of v)
data_hash (Redacted hash) = Some hash

abbrev pub with_metadata : Hash32 → Option Hash32 → List Hash32
with_metadata m None = m ∷ []
with_metadata m (Some kept) = m ∷ kept ∷ []

-- the hashes of the metadata and of the data
abbrev pub part_hashes : Content → Metadata → List Hash32
part_hashes content m = with_metadata (hash_of (metadata_value m)) (data_hash content)

-- they are one unordered pair, or for a delete that of the metadata
abbrev pub SameHashes : Content → Metadata → Content → Metadata → Type 0
SameHashes a m b n = (part_hashes a m ≡ part_hashes b n) ⊎ (part_hashes a m ≡ reverse (part_hashes b n))

-- the data, where they stand there
abbrev pub data_in : Content → Option Value
data_in (Kept v) = Some v
data_in _ = None

-- values of one hash are equivalent
abbrev pub AreAlike : Value → Value → Type 0
AreAlike v w = hash_of v ≡ hash_of w → is_equivalent v w ≡ true

-- both have the same part hashes; values that both sides have under one of them are equivalent
pub record SameParts (a : Content) (m : Metadata) (b : Content) (n : Metadata) : Type 0 where
  pub hashes : SameHashes a m b n
  pub metadata : AreAlike (metadata_value m) (metadata_value n)
  pub both : IfSome (data_in a) (λ v. IfSome (data_in b) (AreAlike v))
  pub kept_metadata : IfSome (data_in a) (λ v. AreAlike v (metadata_value n))
  pub metadata_kept : IfSome (data_in b) (AreAlike (metadata_value m))

-- ---- what is found

-- the first of the revisions that has the hash
pub record IsFirst (revisions : List Revision) (h : Hash32) (index : ℕ) (own : Revision) : Type 0 where
  pub is : slice_get revisions index ≡ Some own
  pub hash : own.hash ≡ h
  pub least : (i : ℕ) (other : Revision) → i < index → slice_get revisions i ≡ Some other → other.hash ≢ h

-- it has the parts of the revision besides
pub record IsRevisionOf (b : Block) (r : Revision) (index : ℕ) : Type 0 where
  pub own : Revision
  pub first : IsFirst b.revisions r.hash index own
  pub parts : SameParts r.content r.metadata own.content own.metadata

-- the block at the revision's address has a revision of this index with its hash and its parts, and none before that
-- has the hash
pub record IsFound (blocks : List Block) (r : Revision) (index : ℕ) : Type 0 where
  pub block : Block
  pub at : slice_get blocks r.address.sequence ≡ Some block
  pub address : block.header.address ≡ r.address
  pub revision : IsRevisionOf block r index

-- the digest is that of the journal with its tip
abbrev pub IsPublished : List Block → Digest → Type 0
IsPublished blocks d = (d.tip.sequence < length blocks) × IsDigest blocks d.tip.sequence d

-- two byte strings that are returned collide
abbrev pub IsExtracted : List Block → Revision → Extracted → Type 0
IsExtracted blocks r (extracted.Found index) = IsFound blocks r index
IsExtracted blocks r (extracted.Collision first second) = IsCollision first second
