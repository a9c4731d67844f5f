-- No check of a proof fails exactly where the proof is accepted.
use Rattle.std.proofs.Common.{◌≡◌, ◌≢◌, ◌∙◌, ℕ, ◌<◌, ◌≤◌, Bool, true, false, List, length, Option, Some, None, refl, ap, if◌then◌else◌, ◌==◌, nat_lt, arith}
use Rattle.std.specs.Prelude.{nat_le}
use Rattle.std.proofs.lemmas.Bool.{eqb-true, eq-eqb}
use Rattle.std.proofs.lemmas.Bool.Decides.{nat_tests}
use Rattle.std.proofs.lemmas.Slice.Eq.{bytes_eq-Decides}
use Rattle.std.specs.Cmp.Derive.{both_true}
use Rattle.ql_types.specs.declared.Hash32.{Hash32}
use Rattle.ql_types.specs.declared.StrandId.{StrandId}
use Rattle.ql_types.specs.declared.BlockAddress.{BlockAddress}
use Rattle.ledger_model.specs.declared.block.Revision.{Revision}
use Rattle.ledger_model.specs.Script.{or_else}
use Rattle.ledger_model.specs.Seals.{revision_hash}
use Rattle.ledger_model.specs.Follows.{same_address}
use Rattle.ledger_model.specs.Damages.{same_hash}
use Rattle.value_codec.proofs.Inverse.{left, right}
use Rattle.proof_model.specs.declared.Digest.{Digest}
use Rattle.proof_model.specs.declared.Proof.{Proof}
use Rattle.proof_model.specs.Verified.{path_length, root_by, Verified}
use Rattle.proof_model.proofs.Chains.{same_hash-is}
use Rattle.proof_verify.specs.declared.ProofFault.{ProofFault}
use Rattle.proof_verify.specs.declared.ProofFault.TheVariants as fault
use Rattle.proof_verify.specs.Faults.{strand_fault, address_fault, tip_fault, index_fault, length_fault, hash_fault, root_fault, place_fault, fault_of, IsRefused, FaultsAreExact}

-- ---- a check without a fault passes

passes : (b : Bool) (f : ProofFault) → (if b then None else Some f) ≡ None → b ≡ true
passes true f e = refl
passes false f e = cc

neither : (a b : Option ProofFault) → or_else a b ≡ None → (a ≡ None) × (b ≡ None)
neither None b e = (refl, e)
neither (Some f) b e = cc

strand_is : (a b : StrandId) → a.raw ≡ b.raw → a ≡ b
strand_is a b e = ap (λ (n : ℕ). let strand : StrandId = record { raw = n } in strand) e

address_is : (a b : BlockAddress) → same_address a b ≡ true → a ≡ b
address_is a b e =
    let strand = strand_is a.strand b.strand (eqb-true a.strand.raw b.strand.raw (left _ _ e)) in
    let sequence = eqb-true a.sequence b.sequence (right (a.strand.raw == b.strand.raw) (a.sequence == b.sequence) e) in
    ap (λ (s : StrandId). let address : BlockAddress = record { strand = s; sequence = a.sequence } in address) strand
    ∙ ap (λ (n : ℕ). let address : BlockAddress = record { strand = b.strand; sequence = n } in address) sequence

below : (a b : ℕ) → nat_lt a b ≡ true → a < b
below a b e = grind (arith, nat_tests)

at_most : (a b : ℕ) → nat_le a b ≡ true → a ≤ b
at_most a b e = grind (arith, nat_tests)

-- where a revision that stands nowhere wrong has its index
pub placed : (d : Digest) (r : Revision) (p : Proof) → place_fault d r p ≡ None → p.index < p.header.revisions
placed d r p e =
    let a = neither (strand_fault d p) _ e in
    let b = neither (address_fault r p) _ a.1 in
    let c = neither (tip_fault d p) (index_fault p) b.1 in
    below p.index p.header.revisions (passes (nat_lt p.index p.header.revisions) _ c.1)

-- a path without a fault has its length
pub has_length : (d : Digest) (p : Proof) → length_fault d p ≡ None → length p.path ≡ path_length d p
has_length d p e = eqb-true (length p.path) (path_length d p) (passes (length p.path == path_length d p) _ e)

sound : (d : Digest) (r : Revision) (p : Proof) → fault_of d r p ≡ None → Verified d r p
sound d r p e =
    let place = neither (place_fault d r p) _ e in
    let long = neither (length_fault d p) _ place.1 in
    let hash = neither (hash_fault r) (root_fault d r p) long.1 in
    let a = neither (strand_fault d p) _ place.0 in
    let b = neither (address_fault r p) _ a.1 in
    let c = neither (tip_fault d p) (index_fault p) b.1 in
    record {
      strand = strand_is p.header.address.strand d.tip.strand
          (eqb-true p.header.address.strand.raw d.tip.strand.raw (passes (p.header.address.strand.raw == d.tip.strand.raw) _ a.0));
      address = address_is r.address p.header.address (passes (same_address r.address p.header.address) _ b.0);
      tip = at_most p.header.address.sequence d.tip.sequence (passes (nat_le p.header.address.sequence d.tip.sequence) _ c.0);
      index = placed d r p place.0;
      long = has_length d p long.0;
      stated = same_hash-is r.hash (revision_hash r.content r.metadata) (passes (same_hash r.hash (revision_hash r.content r.metadata)) _ hash.0);
      root = same_hash-is (root_by r p) d.digest (passes (same_hash (root_by r p) d.digest) _ hash.1);
    }

-- ---- each check of an accepted proof passes

same_hash-refl : (a b : Hash32) → a ≡ b → same_hash a b ≡ true
same_hash-refl a b e = (bytes_eq-Decides a.bytes b.bytes).1 (ap (λ (h : Hash32). h.bytes) e)

same_address-refl : (a b : BlockAddress) → a ≡ b → same_address a b ≡ true
same_address-refl a b e =
    both_true (eq-eqb a.strand.raw b.strand.raw (ap (λ (x : BlockAddress). x.strand.raw) e))
    (eq-eqb a.sequence b.sequence (ap (λ (x : BlockAddress). x.sequence) e))

below_true : (a b : ℕ) → a < b → nat_lt a b ≡ true
below_true a b e = grind (arith, nat_tests)

at_most_true : (a b : ℕ) → a ≤ b → nat_le a b ≡ true
at_most_true a b e = grind (arith, nat_tests)

complete : (d : Digest) (r : Revision) (p : Proof) → Verified d r p → fault_of d r p ≡ None
complete d r p v =
    let strand = eq-eqb p.header.address.strand.raw d.tip.strand.raw (ap (λ (s : StrandId). s.raw) v.strand) in
    let address = same_address-refl r.address p.header.address v.address in
    let tip = at_most_true p.header.address.sequence d.tip.sequence v.tip in
    let index = below_true p.index p.header.revisions v.index in
    let long = eq-eqb (length p.path) (path_length d p) v.long in
    let stated = same_hash-refl r.hash (revision_hash r.content r.metadata) v.stated in
    let root = same_hash-refl (root_by r p) d.digest v.root in
    rw (strand, address, tip, index, long, stated, root) refl

pub exact : FaultsAreExact
exact d r p = record { sound = sound d r p; complete = complete d r p }

-- ---- which faults there are

never_malformed : (b : Bool) (f : ProofFault) (field : List ℕ) → ((x : List ℕ) → f ≢ fault.Malformed x) → (if b then None else Some f) ≢ Some (fault.Malformed field)
never_malformed true f field h e = cc
never_malformed false f field h e = let same : f ≡ fault.Malformed field = cc in h field same

neither_malformed : (a b : Option ProofFault) (field : List ℕ) → a ≢ Some (fault.Malformed field) → b ≢ Some (fault.Malformed field) → or_else a b ≢ Some (fault.Malformed field)
neither_malformed None b field h k e = k e
neither_malformed (Some f) b field h k e = h e

-- the checks never find a bundle malformed
checks_malformed : (d : Digest) (r : Revision) (p : Proof) (field : List ℕ) → fault_of d r p ≢ Some (fault.Malformed field)
checks_malformed d r p field =
    neither_malformed (place_fault d r p) _ field
    (neither_malformed (strand_fault d p) _ field (never_malformed _ _ field (λ x e. cc))
    (neither_malformed (address_fault r p) _ field (never_malformed _ _ field (λ x e. cc))
    (neither_malformed (tip_fault d p) (index_fault p) field (never_malformed _ _ field (λ x e. cc)) (never_malformed _ _ field (λ x e. cc)))))
    (neither_malformed (length_fault d p) _ field (never_malformed _ _ field (λ x e. cc))
    (neither_malformed (hash_fault r) (root_fault d r p) field (never_malformed _ _ field (λ x e. cc)) (never_malformed _ _ field (λ x e. cc))))

-- a fault that the checks find is the refusal
pub is_refused : (d : Digest) (r : Revision) (p : Proof) (f : ProofFault) → fault_of d r p ≡ Some f → IsRefused (fault_of d r p) f
is_refused d r p (fault.Malformed field) e = checks_malformed d r p field e
is_refused d r p (fault.WrongStrand a b) e = e
is_refused d r p (fault.AddressDiffers a b) e = e
is_refused d r p (fault.PastTip a b) e = e
is_refused d r p (fault.IndexPastCount a b) e = e
is_refused d r p (fault.PathLength a b) e = e
is_refused d r p (fault.HashFieldDiffers a b) e = e
is_refused d r p (fault.RootDiffers a b) e = e
is_refused d r p fault.OutOfMemory e = tt
