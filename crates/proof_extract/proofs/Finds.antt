-- The revision of an accepted proof stands in the block at its address.
use Rattle.std.proofs.Common.{◌≡◌, ◌∙◌, ℕ, ◌<◌, List, length, get_or, Some, sym, ap, subst, arith}
use Rattle.std.specs.Prelude.{slice_get}
use Rattle.std.proofs.lemmas.Option.{slice_get-get_or}
use Rattle.ql_types.specs.declared.BlockAddress.{BlockAddress}
use Rattle.ledger_model.specs.declared.block.Block.{Block}
use Rattle.ledger_model.specs.declared.block.Revision.{Revision}
use Rattle.proof_model.specs.declared.Digest.{Digest}
use Rattle.proof_model.specs.declared.Proof.{Proof}
use Rattle.proof_model.specs.Chained.{Chained}
use Rattle.proof_model.specs.Issued.{IsDigest}
use Rattle.proof_model.specs.Verified.{Verified}
use Rattle.proof_model.proofs.Chains.{place_is, strand_is}
use Rattle.proof_extract.specs.Extracts.{IsFound, IsRevisionOf}

one_address : (a b : BlockAddress) → a.strand ≡ b.strand → a.sequence ≡ b.sequence → a ≡ b
one_address a b strand sequence = λ i. record { strand = strand i; sequence = sequence i }

-- its strand is the digest's
strand_of_digest :
    (blocks : List Block) (d : Digest) (number : ℕ) (b : Block) → Chained blocks → d.tip.sequence < length blocks
    → IsDigest blocks d.tip.sequence d → slice_get blocks number ≡ Some b → b.header.address.strand ≡ d.tip.strand
strand_of_digest blocks d number b chained within digest at =
    let there : slice_get blocks 0 ≡ Some (get_or blocks 0 b) = slice_get-get_or blocks 0 b (omega (arith, within)) in
    strand_is blocks chained number b (get_or blocks 0 b) at there ∙ sym (digest.strand (get_or blocks 0 b) there)

pub found_at :
    (blocks : List Block) (d : Digest) (r : Revision) (p : Proof) (number : ℕ) (b : Block) → Chained blocks
    → d.tip.sequence < length blocks → IsDigest blocks d.tip.sequence d → Verified d r p → slice_get blocks number ≡ Some b
    → p.header.address.sequence ≡ b.header.address.sequence → (index : ℕ) → IsRevisionOf b r index → IsFound blocks r index
found_at blocks d r p number b chained within digest verified at sequence index own =
    let strand : b.header.address.strand ≡ p.header.address.strand
    = strand_of_digest blocks d number b chained within digest at ∙ sym verified.strand in
    let place : number ≡ r.address.sequence
    = sym (place_is blocks chained number b at) ∙ sym sequence
    ∙ sym (ap (λ (a : BlockAddress). a.sequence) verified.address) in
    record {
      block = b;
      at = subst (λ (k : ℕ). slice_get blocks k ≡ Some b) place at;
      address = one_address b.header.address p.header.address strand (sym sequence) ∙ sym verified.address;
      revision = own;
    }
