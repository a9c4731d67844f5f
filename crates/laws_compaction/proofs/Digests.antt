-- A compacted journal has the digests of the journal.
use Rattle.std.proofs.Common.{◌≡◌, ◌∙◌, ◌+◌, ℕ, zero, suc, List, [], ◌∷◌, map, take, Some, refl, sym, ap}
use Rattle.std.specs.Prelude.{◌↔◌, slice_get}
use Rattle.hash_model.specs.Tree.{root_of}
use Rattle.ql_types.specs.declared.Hash32.{Hash32}
use Rattle.ledger_model.specs.declared.block.Block.{Block}
use Rattle.ledger_model.specs.Compaction.{compacted, compacted_block, compacted_from}
use Rattle.proof_model.specs.declared.Digest.{Digest}
use Rattle.proof_model.specs.Issued.{IsDigest}

front_stays : (blocks bs : List Block) (n : ℕ)
    → map (λ (b : Block). b.hash) (take n (compacted_from blocks bs)) ≡ map (λ (b : Block). b.hash) (take n bs)
front_stays blocks [] zero = refl
front_stays blocks [] (suc n) = refl
front_stays blocks (b ∷ bs) zero = refl
front_stays blocks (b ∷ bs) (suc n) = ap (λ (hs : List Hash32). b.hash ∷ hs) (front_stays blocks bs n)

pub digests : (blocks : List Block) (tip : ℕ) (d : Digest) → IsDigest blocks tip d ↔ IsDigest (compacted blocks) tip d
digests [] tip d = (λ h. h, λ h. h)
digests (b ∷ bs) tip d =
    let root = ap (λ (hs : List Hash32). root_of hs) (front_stays (b ∷ bs) (b ∷ bs) (tip + 1)) in
    let new = compacted_block (b ∷ bs) b bs in (
      (λ h. record {
        root = h.root ∙ sym root;
        sequence = h.sequence;
        strand = λ (c : Block) (e : slice_get (compacted (b ∷ bs)) 0 ≡ Some c).
            let same : new ≡ c = cc in h.strand b refl ∙ ap (λ (x : Block). x.header.address.strand) same;
      }),
      (λ h. record {
        root = h.root ∙ root;
        sequence = h.sequence;
        strand = λ (c : Block) (e : slice_get (b ∷ bs) 0 ≡ Some c).
            let same : b ≡ c = cc in h.strand new refl ∙ ap (λ (x : Block). x.header.address.strand) same;
      }),
    )
