-- The proof of a revision in a chained journal comes to the digest.
use Rattle.std.proofs.Common.{◌≡◌, ◌∙◌, ℕ, zero, suc, ◌+◌, ◌<◌, ◌≤◌, List, [], ◌∷◌, ◌++◌, length, map, take, drop, Some, refl, sym, ap, subst, append_assoc, length-append, arith}
use Rattle.std.specs.Prelude.{slice_get, option_map}
use Rattle.std.proofs.lemmas.List.{take_at, drop_at, length-map, length-take-le}
use Rattle.std.proofs.lemmas.List.Sums.{fold-append}
use Rattle.std.proofs.lemmas.Option.{slice_get-map, slice_get_within, get_or_from_slice_get}
use Rattle.hash_model.specs.Serialize.{hash_of}
use Rattle.hash_model.specs.PairHash.{dot32}
use Rattle.hash_model.specs.Tree.{height_of, root_of, pad_hash}
use Rattle.ql_types.specs.declared.Hash32.{Hash32}
use Rattle.ql_types.specs.declared.Hash.TheVariants.{Full}
use Rattle.ledger_model.specs.declared.block.Revision.{Revision}
use Rattle.ledger_model.specs.declared.block.Block.{Block}
use Rattle.ledger_model.specs.Journal.{header_value}
use Rattle.ledger_model.specs.Seals.{entries_hash, info_hash, revisions_root}
use Rattle.pad_tree.specs.Paths.{path_of, folded}
use Rattle.pad_tree.proofs.Pairs.{dot32-comm}
use Rattle.pad_tree.proofs.PathLevels.{length-path_of}
use Rattle.pad_tree.proofs.Folding.{path_leads}
use Rattle.proof_model.specs.declared.Digest.{Digest}
use Rattle.proof_model.specs.Chained.{Chained}
use Rattle.proof_model.specs.Verified.{Verified}
use Rattle.proof_model.specs.Issued.{hashes_to, IsDigest, proof_for, ProofsVerify}
use Rattle.proof_model.proofs.Chains.{linked, place_is, strand_is, hash_is, revision_is}

full_is : (a b : Hash32) → Full a ≡ Full b → a ≡ b
full_is a b e = cc

-- the path of a leaf comes from the leaf to the root
leads : (leaves : List Hash32) (k : ℕ) (leaf : Hash32) → slice_get leaves k ≡ Some leaf → Full (folded leaf (path_of leaves k)) ≡ root_of leaves
leads leaves k leaf e =
    ap (λ x. Full (folded x (path_of leaves k))) (sym (get_or_from_slice_get leaves k leaf pad_hash e))
    ∙ path_leads leaves k pad_hash (slice_get_within leaves k leaf e)

-- from a revision's hash by the root of its block's revisions and the block's hash
through : (below above : List Hash32) (leaf root info head previous : Hash32) → folded leaf below ≡ root
    → folded leaf (below ++ info ∷ head ∷ previous ∷ above) ≡ folded (dot32 (dot32 (dot32 info root) head) previous) above
through below above leaf root info head previous e =
    fold-append dot32 leaf below (info ∷ head ∷ previous ∷ above)
    ∙ ap (λ x. folded x (info ∷ head ∷ previous ∷ above)) e
    ∙ ap (λ x. folded (dot32 (dot32 x head) previous) above) (dot32-comm root info)

-- the whole path, where the path up to the root of the block's revisions has the block's height
whole_path-is : (below above : List Hash32) (info head previous : Hash32) (h : ℕ) → length below ≡ h
    → take (h + 1) (below ++ info ∷ previous ∷ above) ++ head ∷ drop (h + 1) (below ++ info ∷ previous ∷ above)
    ≡ below ++ info ∷ head ∷ previous ∷ above
whole_path-is below above info head previous h long =
    let front = below ++ info ∷ [] in
    let same : below ++ info ∷ previous ∷ above ≡ front ++ previous ∷ above = sym (append_assoc below (info ∷ []) (previous ∷ above)) in
    let size : length front ≡ h + 1 = length-append below (info ∷ []) ∙ omega (arith, long) in
    rw (same, take_at front (previous ∷ above) (h + 1) size, drop_at front (previous ∷ above) (h + 1) size)
    (append_assoc below (info ∷ []) (head ∷ previous ∷ above))

-- the hash of a block whose revisions have this root
block_hash : (b : Block) (root : Hash32) → Full root ≡ revisions_root b.revisions
    → b.hash ≡ dot32 (entries_hash (info_hash b.info b.revisions) (revisions_root b.revisions) (hash_of (header_value b.header))) b.previous
    → dot32 (dot32 (dot32 (info_hash b.info b.revisions) root) (hash_of (header_value b.header))) b.previous ≡ b.hash
block_hash b root e is =
    ap (λ r. dot32 (entries_hash (info_hash b.info b.revisions) r (hash_of (header_value b.header))) b.previous) e ∙ sym is

revision_leaf : (b : Block) (k : ℕ) (r : Revision) → slice_get b.revisions k ≡ Some r → slice_get (map (λ (x : Revision). x.hash) b.revisions) k ≡ Some r.hash
revision_leaf b k r e = slice_get-map (λ (x : Revision). x.hash) b.revisions k ∙ ap (option_map (λ (x : Revision). x.hash)) e

slice_get-take : (bs : List Block) (n k : ℕ) → k < n → slice_get (take n bs) k ≡ slice_get bs k
slice_get-take [] zero k h = refl
slice_get-take [] (suc n) k h = refl
slice_get-take (b ∷ bs) zero k h = absurd (omega arith)
slice_get-take (b ∷ bs) (suc n) zero h = refl
slice_get-take (b ∷ bs) (suc n) (suc k) h = slice_get-take bs n k (omega arith)

block_leaf : (blocks : List Block) (tip k : ℕ) (b : Block) → k ≤ tip → slice_get blocks k ≡ Some b → slice_get (hashes_to blocks tip) k ≡ Some b.hash
block_leaf blocks tip k b within e =
    slice_get-map (λ (x : Block). x.hash) (take (tip + 1) blocks) k
    ∙ ap (option_map (λ (x : Block). x.hash)) (slice_get-take blocks (tip + 1) k (omega arith) ∙ e)

same_strand : (blocks : List Block) → Chained blocks → (d : Digest)
    → ((first : Block) → slice_get blocks 0 ≡ Some first → d.tip.strand ≡ first.header.address.strand)
    → (k : ℕ) (b : Block) → slice_get blocks k ≡ Some b → b.header.address.strand ≡ d.tip.strand
same_strand [] chained d strand k b e = cc
same_strand (c ∷ cs) chained d strand k b e = strand_is (c ∷ cs) chained k b c e refl ∙ sym (strand c refl)

pub verified : (blocks : List Block) (b : Block) (r : Revision) (d : Digest) (sequence index tip : ℕ) → Chained blocks
    → tip < length blocks → sequence ≤ tip → slice_get blocks sequence ≡ Some b → slice_get b.revisions index ≡ Some r
    → r.address ≡ b.header.address → IsDigest blocks tip d → Verified d r (proof_for blocks b sequence index tip)
verified blocks b r d sequence index tip chained room within at here address digest =
    let l = linked blocks chained sequence b at in
    let leaves = map (λ (x : Revision). x.hash) b.revisions in
    let tips = hashes_to blocks tip in
    let below = path_of leaves index in
    let above = path_of tips sequence in
    let info = info_hash b.info b.revisions in
    let head = hash_of (header_value b.header) in
    let root = folded r.hash below in
    let count : length leaves ≡ b.header.revisions = length-map b.revisions (λ (x : Revision). x.hash) ∙ sym l.whole.count in
    let low : length below ≡ height_of b.header.revisions = length-path_of leaves index ∙ ap height_of count in
    let many : length tips ≡ d.tip.sequence + 1 =
    length-map (take (tip + 1) blocks) (λ (x : Block). x.hash) ∙ length-take-le (tip + 1) blocks (omega arith) ∙ ap (λ n. n + 1) (sym digest.sequence) in
    let high : length above ≡ height_of (d.tip.sequence + 1) = length-path_of tips sequence ∙ ap height_of many in
    let up : dot32 (dot32 (dot32 info root) head) b.previous ≡ b.hash =
    block_hash b root (leads leaves index r.hash (revision_leaf b index r here)) (hash_is b l.hashes) in
    let top : folded b.hash above ≡ d.digest =
    full_is (folded b.hash above) d.digest (leads tips sequence b.hash (block_leaf blocks tip sequence b within at) ∙ sym digest.root) in
    record {
      strand = same_strand blocks chained d digest.strand sequence b at;
      address = address;
      tip = (let p = place_is blocks chained sequence b at in let q = digest.sequence in omega (arith, p, q));
      index = (let p = slice_get_within b.revisions index r here in let c = l.whole.count in omega (arith, p, c));
      long = length-append below (info ∷ b.previous ∷ above) ∙ omega (arith, low, high);
      stated = revision_is b l.hashes index r here;
      root =
          ap (folded r.hash) (whole_path-is below above info head b.previous (height_of b.header.revisions) low)
          ∙ through below above r.hash root info head b.previous refl ∙ ap (λ x. folded x above) up ∙ top;
    }

pub accepted : ProofsVerify
accepted blocks b sequence index tip chained room within at c r d here-c here address digest =
    let same : c ≡ b = cc in
    verified blocks b r d sequence index tip chained room within at (subst (λ (x : Block). slice_get x.revisions index ≡ Some r) same here)
    (subst (λ (x : Block). r.address ≡ x.header.address) same address) digest
