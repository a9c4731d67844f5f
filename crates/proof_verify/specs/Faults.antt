-- The checks of a proof in order, and the first that fails (QLDB Developer Guide, "Data verification in Amazon QLDB";
-- the order is the ledger's own).
use Rattle.std.specs.Prelude.{◌≡◌, ◌==◌, nat_lt, nat_le, length, Option, Some, None, if◌then◌else◌}
use Rattle.ledger_model.specs.declared.block.Revision.{Revision}
use Rattle.ledger_model.specs.Script.{or_else}
use Rattle.ledger_model.specs.Seals.{revision_hash}
use Rattle.ledger_model.specs.Follows.{same_address}
use Rattle.ledger_model.specs.Damages.{same_hash}
use Rattle.proof_model.specs.declared.Digest.{Digest}
use Rattle.proof_model.specs.declared.Proof.{Proof}
use Rattle.proof_model.specs.Verified.{path_length, root_by, Verified}
use Rattle.proof_verify.specs.declared.ProofFault.{ProofFault}
use Rattle.proof_verify.specs.declared.ProofFault.TheVariants as fault

-- the header is of the digest's strand
abbrev pub strand_fault : Digest → Proof → Option ProofFault
strand_fault d p =
    if p.header.address.strand.raw == d.tip.strand.raw then None
    else Some (fault.WrongStrand p.header.address.strand d.tip.strand)

-- the revision has the header's address
abbrev pub address_fault : Revision → Proof → Option ProofFault
address_fault r p =
    if same_address r.address p.header.address then None else Some (fault.AddressDiffers r.address p.header.address)

-- the block isn't past the tip
abbrev pub tip_fault : Digest → Proof → Option ProofFault
tip_fault d p =
    if nat_le p.header.address.sequence d.tip.sequence then None
    else Some (fault.PastTip p.header.address.sequence d.tip.sequence)

-- the block has a revision of this index
abbrev pub index_fault : Proof → Option ProofFault
index_fault p =
    if nat_lt p.index p.header.revisions then None else Some (fault.IndexPastCount p.index p.header.revisions)

-- the path has a hash for each step from the revision to the digest
abbrev pub length_fault : Digest → Proof → Option ProofFault
length_fault d p =
    if length p.path == path_length d p then None else Some (fault.PathLength (path_length d p) (length p.path))

-- the revision's hash is that of its parts
abbrev pub hash_fault : Revision → Option ProofFault
hash_fault r =
    let computed = revision_hash r.content r.metadata in
    if same_hash r.hash computed then None else Some (fault.HashFieldDiffers r.hash computed)

-- the path leads to the digest
abbrev pub root_fault : Digest → Revision → Proof → Option ProofFault
root_fault d r p = if same_hash (root_by r p) d.digest then None else Some (fault.RootDiffers (root_by r p) d.digest)

-- the first fault of where the revision stands
abbrev pub place_fault : Digest → Revision → Proof → Option ProofFault
place_fault d r p = or_else (strand_fault d p) (or_else (address_fault r p) (or_else (tip_fault d p) (index_fault p)))

-- the first check that fails
abbrev pub fault_of : Digest → Revision → Proof → Option ProofFault
fault_of d r p = or_else (place_fault d r p) (or_else (length_fault d p) (or_else (hash_fault r) (root_fault d r p)))

-- what a verifier returns beside an acceptance: that fault, or out of memory
abbrev pub IsRefused : Option ProofFault → ProofFault → Type 0
IsRefused refused (fault.Malformed field) = ⊥
IsRefused refused fault.OutOfMemory = Unit {0}
IsRefused refused other = refused ≡ Some other

-- no check fails exactly where the proof shows that the revision is in the digest's journal
pub record IsExact (d : Digest) (r : Revision) (p : Proof) : Type 0 where
  pub sound : fault_of d r p ≡ None → Verified d r p
  pub complete : Verified d r p → fault_of d r p ≡ None

abbrev pub FaultsAreExact : Type 0
FaultsAreExact = (d : Digest) (r : Revision) (p : Proof) → IsExact d r p
