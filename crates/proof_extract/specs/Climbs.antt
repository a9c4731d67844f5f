-- The hashes on the way from a revision up to a digest, and what they are found to be on the way down.
use Rattle.std.specs.Prelude.{ℕ, ◌+◌, ◌≡◌, ◌⊎◌, List, [], ◌∷◌, take, drop, Option, Some, option_map, slice_get}
use Rattle.ion_values.specs.declared.value.Value.{Value}
use Rattle.ion_values.specs.declared.value.Field.{Field}
use Rattle.ql_types.specs.declared.Hash.{Hash}
use Rattle.ql_types.specs.declared.Hash.TheVariants.{Empty, Full}
use Rattle.ql_types.specs.declared.Hash32.{Hash32}
use Rattle.hash_model.specs.PairHash.{dot32}
use Rattle.hash_model.specs.Serialize.{hash_of}
use Rattle.pad_tree.specs.Paths.{folded}
use Rattle.ledger_model.specs.declared.block.Block.{Block}
use Rattle.ledger_model.specs.declared.block.Revision.{Revision}
use Rattle.ledger_model.specs.Journal.{header_value}
use Rattle.ledger_model.specs.Script.{and_then}
use Rattle.ledger_model.specs.Seals.{info_hash, revisions_root}
use Rattle.ledger_model.specs.Values.{fields_in}
use Rattle.proof_model.specs.declared.Proof.{Proof}
use Rattle.proof_model.specs.Verified.{block_height, root_by}
use Rattle.proof_extract.specs.declared.climb.Climb.{Climb}
use Rattle.proof_extract.specs.declared.forms.Entries.{Entries}

-- the hashes below that of what the transaction said and did, and those above the hash of the block before
abbrev pub below : Proof → List Hash32
below p = take (block_height p) p.path

abbrev pub above : Proof → List Hash32
above p = drop (block_height p + 2) p.path

-- each is the hash of the two before it, from the root of revisions up to the block
pub record IsStacked (c : Climb) : Type 0 where
  pub changes : c.changes ≡ dot32 c.root c.said
  pub entries : c.entries ≡ dot32 c.changes c.header
  pub block : c.block ≡ dot32 c.entries c.previous

-- they lead from the revision to what the proof comes to
pub record IsClimb (r : Revision) (p : Proof) (c : Climb) : Type 0 where
  pub stacked : IsStacked c
  pub root : c.root ≡ folded r.hash (below p)
  pub header : c.header ≡ hash_of (header_value p.header)
  pub top : folded c.block (above p) ≡ root_by r p

-- the hash of what a transaction said and did, with that of its revisions
abbrev pub changes_of : Hash32 → Hash → Hash32
changes_of said Empty = said
changes_of said (Full root) = dot32 said root

-- what the transaction said and did, in the value of a block
abbrev pub info_in : Value → Option Value
info_in v = and_then (fields_in v) (λ (fields : List Field). option_map (λ (f : Field). f.value) (slice_get fields 7))

-- the hashes of a block's entries
abbrev pub entries_of : Block → Entries
entries_of b = record {
  said = info_hash b.info b.revisions;
  root = revisions_root b.revisions;
  header = hash_of (header_value b.header);
}

-- the block of this number has this hash
pub record HasHash (blocks : List Block) (number : ℕ) (h : Hash32) : Type 0 where
  pub block : Block
  pub at : slice_get blocks number ≡ Some block
  pub hash : block.hash ≡ h

-- the hash climbed to joins the hash of the transaction's info with that of the block's revisions
abbrev pub HasChanges : Block → Climb → Type 0
HasChanges b c = c.changes ≡ changes_of (info_hash b.info b.revisions) (revisions_root b.revisions)

-- and the hash of the header is the block's
abbrev pub AreItsChanges : Block → Climb → Type 0
AreItsChanges b c = HasChanges b c × (c.header ≡ hash_of (header_value b.header))

-- the block of this number has the sequence number and the count of the proof's header, and the hashes climbed to are
-- its own
pub record IsBlockOf (blocks : List Block) (p : Proof) (c : Climb) (number : ℕ) : Type 0 where
  pub block : Block
  pub at : slice_get blocks number ≡ Some block
  pub sequence : p.header.address.sequence ≡ block.header.address.sequence
  pub revisions : p.header.revisions ≡ block.header.revisions
  pub changes : HasChanges block c

-- one of the revisions has this hash
pub record HasRevision (revisions : List Revision) (h : Hash32) : Type 0 where
  pub index : ℕ
  pub own : Revision
  pub is : slice_get revisions index ≡ Some own
  pub hash : own.hash ≡ h

-- the hash is one of these
abbrev pub IsAmong : List ℕ → List (List ℕ) → Type 0
IsAmong hash [] = ⊥
IsAmong hash (h ∷ hs) = (hash ≡ h) ⊎ IsAmong hash hs
