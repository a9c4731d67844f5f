-- The hashes on the way from a revision up to a digest.
use Rattle.std.proofs.Common.{◌≡◌, ◌∙◌, ℕ, zero, suc, ◌+◌, ◌<◌, List, [], ◌∷◌, length, map, take, Option, Some, None, refl, subst, arith}
use Rattle.std.specs.Prelude.{slice_get}
use Rattle.std.proofs.lemmas.List.{length-drop, length-map, length-take-le}
use Rattle.ql_types.specs.declared.Hash32.{Hash32}
use Rattle.hash_model.specs.Tree.{pad_hash}
use Rattle.pad_tree.specs.Paths.{folded}
use Rattle.ledger_model.specs.declared.block.Block.{Block}
use Rattle.ledger_model.specs.declared.block.Revision.{Revision}
use Rattle.proof_model.specs.declared.Digest.{Digest}
use Rattle.proof_model.specs.declared.Proof.{Proof}
use Rattle.proof_model.specs.Issued.{hashes_to}
use Rattle.proof_model.specs.Verified.{block_height, digest_height, path_length}
use Rattle.proof_extract.specs.Climbs.{HasHash, HasRevision, above}
use Rattle.tree_descent.specs.Ways.{IsEnd}

-- no hashes change nothing
pub folded_none : (start : Hash32) (path : List Hash32) → length path ≡ 0 → folded start path ≡ start
folded_none start [] none = refl
folded_none start (x ∷ path) none = absurd (omega (arith, none))

-- what stands above the block is as long as the tree over the blocks is high
pub length-above : (d : Digest) (p : Proof) → length p.path ≡ path_length d p → length (above p) ≡ digest_height d
length-above d p long =
    let less = length-drop (block_height p + 2) p.path in omega (arith, long, less)

pub length-tips : (blocks : List Block) (tip : ℕ) → tip < length blocks → length (hashes_to blocks tip) ≡ tip + 1
length-tips blocks tip within =
    length-map (take (tip + 1) blocks) (λ (b : Block). b.hash) ∙ length-take-le (tip + 1) blocks (omega (arith, within))

-- a leaf of the tree over the blocks is a block's hash
leaf_of : (blocks : List Block) (n number : ℕ) (h : Hash32) → slice_get (map (λ (b : Block). b.hash) (take n blocks)) number ≡ Some h
    → HasHash blocks number h
leaf_of blocks zero number h e = cc
leaf_of [] (suc n) number h e = cc
leaf_of (b ∷ bs) (suc n) zero h e = let same : b.hash ≡ h = cc in record { block = b; at = refl; hash = same }
leaf_of (b ∷ bs) (suc n) (suc number) h e =
    let more = leaf_of bs n number h e in record { block = more.block; at = more.at; hash = more.hash }

pub tip_of : (blocks : List Block) (tip number : ℕ) (h : Hash32) → slice_get (hashes_to blocks tip) number ≡ Some h → HasHash blocks number h
tip_of blocks tip number h e = leaf_of blocks (tip + 1) number h e

-- ---- where a way down ends

pub ends_at : (leaves : List Hash32) (h : Hash32) (o : Option ℕ) (at : ℕ) → o ≡ Some at → IsEnd leaves h o → slice_get leaves at ≡ Some h
ends_at leaves h o at is end = subst (IsEnd leaves h) is end

pub ends_at_pad : (leaves : List Hash32) (h : Hash32) (o : Option ℕ) → o ≡ None → IsEnd leaves h o → h ≡ pad_hash
ends_at_pad leaves h o is end = subst (IsEnd leaves h) is end

-- a hash that is one of a block's revisions'
pub revision_of : (revisions : List Revision) (h : Hash32) (index : ℕ) → slice_get (map (λ (r : Revision). r.hash) revisions) index ≡ Some h
    → HasRevision revisions h
revision_of [] h index e = cc
revision_of (r ∷ rs) h zero e = let same : r.hash ≡ h = cc in record { index = zero; own = r; is = refl; hash = same }
revision_of (r ∷ rs) h (suc index) e =
    let more = revision_of rs h index e in record { index = suc more.index; own = more.own; is = more.is; hash = more.hash }
