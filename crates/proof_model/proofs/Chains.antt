-- What holds of a block at its place in a chain.
use Rattle.std.proofs.Common.{◌≡◌, ◌∙◌, ℕ, zero, suc, Bool, true, false, List, [], ◌∷◌, ◌++◌, length, take, Some, None, append-nil, append_assoc, refl, sym, ap, subst, if◌then◌else◌, arith}
use Rattle.std.specs.Prelude.{slice_get, not, ◌-◌}
use Rattle.std.specs.List.{list_all}
use Rattle.std.specs.Cmp.Lexicographic.{pointwise}
use Rattle.std.proofs.lemmas.Bool.{eqb-true}
use Rattle.std.proofs.lemmas.List.{length-take-le}
use Rattle.std.proofs.lemmas.Option.{slice_get_within}
use Rattle.std.proofs.lemmas.Slice.Eq.{bytes_eq-Decides}
use Rattle.hash_model.specs.Serialize.{hash_of}
use Rattle.hash_model.specs.PairHash.{dot32}
use Rattle.ql_types.specs.declared.Hash32.{Hash32}
use Rattle.ql_types.specs.declared.Hash.{Hash}
use Rattle.ql_types.specs.declared.Hash.TheVariants.{Empty, Full}
use Rattle.ql_types.specs.declared.StrandId.{StrandId}
use Rattle.ledger_model.specs.declared.block.Revision.{Revision}
use Rattle.ledger_model.specs.declared.block.Block.{Block}
use Rattle.ledger_model.specs.declared.damage.Damage.TheVariants.{WrongAddress, WrongId, TimeFell, WrongPrevious, WrongHash, WrongState}
use Rattle.ledger_model.specs.Journal.{header_value}
use Rattle.ledger_model.specs.Seals.{entries_hash, info_hash, revision_hash, revisions_root, sealed}
use Rattle.ledger_model.specs.Follows.{follows_blocks}
use Rattle.ledger_model.specs.Damages.{strand_of, has_address, has_id, has_time, has_previous, has_hashes, has_revision_hash, same_hash, same_entry, UndamagedBehind}
use Rattle.value_codec.proofs.Inverse.{left, right}
use Rattle.proof_model.specs.Chained.{IsLinked, ChainedBehind, Chained, UndamagedIsChained}

-- ---- an undamaged journal is chained

passed : (a b c d e f : Bool)
    → (if not a then Some WrongAddress else if not b then Some WrongId else if not c then Some TimeFell
    else if not d then Some WrongPrevious else if not e then Some WrongHash else if not f then Some WrongState else None) ≡ None
    → (a ≡ true) × (d ≡ true) × (e ≡ true)
passed true true true true true true h = (refl, refl, refl)
passed true true true true true false h = cc
passed true true true true false f h = cc
passed true true true false e f h = cc
passed true true false d e f h = cc
passed true false c d e f h = cc
passed false b c d e f h = cc

chained_behind : (before bs : List Block) → UndamagedBehind before bs → ChainedBehind before bs
chained_behind before [] u = tt
chained_behind before (b ∷ bs) u =
    let strand = strand_of before b in
    let p = passed (has_address strand before b) (has_id strand before b) (has_time before b) (has_previous strand before b)
    (has_hashes b) (follows_blocks strand before b) u.1 in
    (record { whole = u.0; address = p.0; previous = p.1; hashes = p.2 }, chained_behind (before ++ b ∷ []) bs u.2)

pub undamaged-chained : UndamagedIsChained
undamaged-chained blocks u = chained_behind [] blocks u

-- ---- a block at its place

linked_behind : (before bs : List Block) → ChainedBehind before bs → (k : ℕ) (b : Block) → slice_get bs k ≡ Some b → IsLinked (before ++ take k bs) b
linked_behind before [] h k b e = cc
linked_behind before (c ∷ cs) h zero b e =
    let same : c ≡ b = cc in
    subst (λ x. IsLinked (before ++ []) x) same (subst (λ l. IsLinked l c) (sym (append-nil before)) h.0)
linked_behind before (c ∷ cs) h (suc k) b e =
    subst (λ l. IsLinked l b) (append_assoc before (c ∷ []) (take k cs)) (linked_behind (before ++ c ∷ []) cs h.1 k b e)

-- a block is linked to the blocks before it
pub linked : (blocks : List Block) → Chained blocks → (k : ℕ) (b : Block) → slice_get blocks k ≡ Some b → IsLinked (take k blocks) b
linked blocks h k b e = linked_behind [] blocks h k b e

-- its number is its place
pub place_is : (blocks : List Block) → Chained blocks → (k : ℕ) (b : Block) → slice_get blocks k ≡ Some b → b.header.address.sequence ≡ k
place_is blocks h k b e =
    let l = linked blocks h k b e in
    let s = left _ _ (left _ _ l.address) in
    let small = slice_get_within blocks k b e in
    eqb-true b.header.address.sequence (length (take k blocks)) s ∙ length-take-le k blocks (omega (arith, small))

first_strand : (blocks : List Block) (k : ℕ) (b first : Block) → slice_get blocks k ≡ Some b → slice_get blocks 0 ≡ Some first
    → strand_of (take k blocks) b ≡ first.header.address.strand.raw
first_strand [] k b first e f = cc
first_strand (c ∷ cs) zero b first e f = let same : b ≡ first = cc in ap (λ (x : Block). x.header.address.strand.raw) same
first_strand (c ∷ cs) (suc k) b first e f = let same : c ≡ first = cc in ap (λ (x : Block). x.header.address.strand.raw) same

-- its strand is that of the first block
pub strand_is : (blocks : List Block) → Chained blocks → (k : ℕ) (b first : Block) → slice_get blocks k ≡ Some b → slice_get blocks 0 ≡ Some first
    → b.header.address.strand ≡ first.header.address.strand
strand_is blocks h k b first e f =
    let l = linked blocks h k b e in
    let s = right _ _ l.address in
    let same = eqb-true b.header.address.strand.raw (strand_of (take k blocks) b) s ∙ first_strand blocks k b first e f in
    ap (λ (n : ℕ). let strand : StrandId = record { raw = n } in strand) same

-- ---- its hashes

pub same_hash-is : (a b : Hash32) → same_hash a b ≡ true → a ≡ b
same_hash-is a b e =
    let same = (bytes_eq-Decides a.bytes b.bytes).0 e in
    ap (λ (bytes : List ℕ). let hash : Hash32 = record { bytes = bytes } in hash) same

-- the hash of a block is that of its entries and of the hash before it
pub hash_is : (b : Block) → has_hashes b ≡ true
    → b.hash ≡ dot32 (entries_hash (info_hash b.info b.revisions) (revisions_root b.revisions) (hash_of (header_value b.header))) b.previous
hash_is b h = same_hash-is b.hash (sealed b.previous b.header b.info b.revisions).hash (right _ _ h)

first_entry : (hs : List Hash) (x : Hash32) (rest : List Hash) → pointwise same_entry hs (Full x ∷ rest) ≡ true → slice_get hs 0 ≡ Some (Full x)
first_entry [] x rest h = cc
first_entry (Empty ∷ hs) x rest h = cc
first_entry (Full y ∷ hs) x rest h = ap (λ z. Some (Full z)) (same_hash-is y x (left _ _ h))

-- the first of its entries' hashes is the hash of its transaction's statements and changes
pub info_entry : (b : Block) → has_hashes b ≡ true → slice_get b.list 0 ≡ Some (Full (info_hash b.info b.revisions))
info_entry b h =
    let computed = sealed b.previous b.header b.info b.revisions in
    first_entry b.list _ _ (right (list_all has_revision_hash b.revisions) (pointwise same_entry b.list computed.list) (left _ _ (left _ _ h)))

each_revision : (rs : List Revision) → list_all has_revision_hash rs ≡ true → (k : ℕ) (r : Revision) → slice_get rs k ≡ Some r → has_revision_hash r ≡ true
each_revision [] h k r e = cc
each_revision (s ∷ rs) h zero r e = let same : s ≡ r = cc in subst (λ x. has_revision_hash x ≡ true) same (left (has_revision_hash s) _ h)
each_revision (s ∷ rs) h (suc k) r e = each_revision rs (right (has_revision_hash s) _ h) k r e

-- the hash of each of its revisions is that of the revision's parts
pub revision_is : (b : Block) → has_hashes b ≡ true → (k : ℕ) (r : Revision) → slice_get b.revisions k ≡ Some r → r.hash ≡ revision_hash r.content r.metadata
revision_is b h k r e =
    same_hash-is r.hash (revision_hash r.content r.metadata) (each_revision b.revisions (left _ _ (left _ _ (left _ _ h))) k r e)
