-- The hashes of blocks in a chain.
use Rattle.std.proofs.Common.{◌≡◌, ◌∙◌, ◌&&◌, ℕ, zero, suc, true, List, [], ◌∷◌, get_or, length, take, Some, refl, sym, ap}
use Rattle.std.specs.Prelude.{slice_get}
use Rattle.std.specs.List.{list_all}
use Rattle.std.specs.Cmp.Lexicographic.{pointwise}
use Rattle.ql_types.specs.declared.Hash.{Hash}
use Rattle.ql_types.specs.declared.Hash.TheVariants.{Empty, Full}
use Rattle.ql_types.specs.declared.Hash32.{Hash32}
use Rattle.hash_model.specs.PairHash.{dot32}
use Rattle.hash_model.specs.Serialize.{hash_of}
use Rattle.ledger_model.specs.declared.block.Block.{Block}
use Rattle.ledger_model.specs.Damages.{has_hashes, has_revision_hash, same_entry, strand_of}
use Rattle.ledger_model.specs.Journal.{header_value}
use Rattle.ledger_model.specs.Legal.{last_hash}
use Rattle.ledger_model.specs.Seals.{entries_hash, info_hash, revisions_root, sealed, strand_hash}
use Rattle.ledger_model.specs.Whole.{hashes_fit, header_fits, info_fits, place_fits, revision_fits, schema_fits, table_fits, told_fits}
use Rattle.proof_model.specs.Chained.{Chained}
use Rattle.proof_model.proofs.Chains.{hash_is, linked, same_hash-is}
use Rattle.value_codec.proofs.Inverse.{left, right}
use Rattle.proof_extract.specs.declared.forms.Entries.{Entries}
use Rattle.proof_extract.specs.Climbs.{changes_of, entries_of}

-- ---- the hashes of one block

entry_is : (x y : Hash) → same_entry x y ≡ true → x ≡ y
entry_is Empty Empty e = refl
entry_is (Full a) (Full b) e = ap Full (same_hash-is a b e)
entry_is Empty (Full b) e = cc
entry_is (Full a) Empty e = cc

entries_are : (xs ys : List Hash) → pointwise same_entry xs ys ≡ true → xs ≡ ys
entries_are [] [] e = refl
entries_are [] (y ∷ ys) e = cc
entries_are (x ∷ xs) [] e = cc
entries_are (x ∷ xs) (y ∷ ys) e =
    let first = entry_is x y (left (same_entry x y) (pointwise same_entry xs ys) e) in
    let rest = entries_are xs ys (right (same_entry x y) (pointwise same_entry xs ys) e) in
    λ i. first i ∷ rest i

pub list_is : (b : Block) → has_hashes b ≡ true
    → b.list ≡ Full (info_hash b.info b.revisions) ∷ revisions_root b.revisions ∷ Full (hash_of (header_value b.header)) ∷ []
list_is b h =
    let computed = sealed b.previous b.header b.info b.revisions in
    entries_are b.list computed.list
    (right (list_all has_revision_hash b.revisions) (pointwise same_entry b.list computed.list) (left _ _ (left _ _ h)))

full_is : (x y : Hash32) → Full x ≡ Full y → x ≡ y
full_is x y e = cc

-- as they are read of the list
pub entries_from : (b : Block) (said header : Hash32) → has_hashes b ≡ true → get_or b.list 0 Empty ≡ Full said → get_or b.list 2 Empty ≡ Full header
    → ◌≡◌ {A = Entries} (record { said = said; root = get_or b.list 1 Empty; header = header }) (entries_of b)
entries_from b said header h first last =
    let l = list_is b h in
    let s = full_is said (info_hash b.info b.revisions) (sym first ∙ ap (λ (xs : List Hash). get_or xs 0 Empty) l) in
    let t = full_is header (hash_of (header_value b.header)) (sym last ∙ ap (λ (xs : List Hash). get_or xs 2 Empty) l) in
    let r = ap (λ (xs : List Hash). get_or xs 1 Empty) l in
    λ i. record { said = s i; root = r i; header = t i }

by_root : (said : Hash32) (root : Hash) (header : Hash32) → entries_hash said root header ≡ dot32 (changes_of said root) header
by_root said Empty header = refl
by_root said (Full root) header = refl

-- the hash of its entries
pub entries_is : (b : Block) → has_hashes b ≡ true
    → b.entries ≡ dot32 (changes_of (info_hash b.info b.revisions) (revisions_root b.revisions)) (hash_of (header_value b.header))
entries_is b h =
    let computed = sealed b.previous b.header b.info b.revisions in
    same_hash-is b.entries computed.entries (right _ _ (left _ _ h))
    ∙ by_root (info_hash b.info b.revisions) (revisions_root b.revisions) (hash_of (header_value b.header))

-- also by what is computed of it
pub entries_by : (b : Block) (e : Entries) (changes : Hash32) → has_hashes b ≡ true → e ≡ entries_of b → changes ≡ changes_of e.said e.root
    → b.entries ≡ dot32 changes e.header
entries_by b e changes h is same =
    entries_is b h ∙ sym (ap (λ (x : Entries). dot32 (changes_of x.said x.root) x.header) is)
    ∙ sym (ap (λ (z : Hash32). dot32 z e.header) same)

pub changes_there : (b : Block) (e : Entries) (root : Hash32) → e ≡ entries_of b → e.root ≡ Full root
    → changes_of (info_hash b.info b.revisions) (revisions_root b.revisions) ≡ dot32 e.said root
changes_there b e root is full =
    sym (ap (λ (x : Entries). changes_of x.said x.root) is) ∙ ap (changes_of e.said) full

-- and its own, from that of its entries
pub pair_is : (b : Block) → has_hashes b ≡ true → b.hash ≡ dot32 b.entries b.previous
pair_is b h =
    let computed = sealed b.previous b.header b.info b.revisions in
    hash_is b h ∙ ap (λ (e : Hash32). dot32 e b.previous) (sym (same_hash-is b.entries computed.entries (right _ _ (left _ _ h))))

-- ---- the hash before a block

last_is : (strand : ℕ) (blocks : List Block) (k : ℕ) (b : Block) → slice_get blocks k ≡ Some b → last_hash strand (take (suc k) blocks) ≡ b.hash
last_is strand [] k b e = cc
last_is strand (c ∷ bs) zero b e = let same : c ≡ b = cc in ap (λ (x : Block). x.hash) same
last_is strand (c ∷ []) (suc k) b e = cc
last_is strand (c ∷ d ∷ bs) (suc k) b e = last_is strand (d ∷ bs) k b e

-- of the first block it is that of the strand
pub first_previous : (blocks : List Block) (b : Block) → Chained blocks → slice_get blocks 0 ≡ Some b → b.previous ≡ strand_hash b.header.address.strand.raw
first_previous [] b chained e = cc
first_previous (c ∷ bs) b chained e =
    let l = linked (c ∷ bs) chained 0 b e in
    same_hash-is b.previous (strand_hash b.header.address.strand.raw) l.previous

-- of any other that of the block before
pub next_previous : (blocks : List Block) (k : ℕ) (b c : Block) → Chained blocks → slice_get blocks k ≡ Some c → slice_get blocks (suc k) ≡ Some b
    → b.previous ≡ c.hash
next_previous blocks k b c chained at next =
    let l = linked blocks chained (suc k) b next in
    let before = take (suc k) blocks in
    same_hash-is b.previous (last_hash (strand_of before b) before) l.previous ∙ last_is (strand_of before b) blocks k c at

-- ---- what the hash before a block is the hash of

-- two hashes of the block before
pub next_pair : (blocks : List Block) (k : ℕ) (b c : Block) → Chained blocks → slice_get blocks k ≡ Some c → slice_get blocks (suc k) ≡ Some b
    → b.previous ≡ dot32 c.entries c.previous
next_pair blocks k b c chained at next =
    next_previous blocks k b c chained at next ∙ pair_is c (linked blocks chained k c at).hashes

-- ---- a block at its place

pub hashes_here : (blocks : List Block) → Chained blocks → (k : ℕ) (b : Block) → slice_get blocks k ≡ Some b → has_hashes b ≡ true
hashes_here blocks chained k b at = let l = linked blocks chained k b at in l.hashes

pub count_here : (blocks : List Block) → Chained blocks → (k : ℕ) (b : Block) → slice_get blocks k ≡ Some b
    → b.header.revisions ≡ length b.revisions
count_here blocks chained k b at = let l = linked blocks chained k b at in l.whole.count

-- the hash of its statements, where it stands in their place, is one
pub told_here : (blocks : List Block) → Chained blocks → (k : ℕ) (b : Block) → slice_get blocks k ≡ Some b → told_fits b.info.said ≡ true
told_here blocks chained k b at =
    let l = linked blocks chained k b at in
    let i = b.info in
    right (place_fits i.place && list_all schema_fits i.schema && list_all table_fits i.tables) (told_fits i.said)
    (right (header_fits b.header && hashes_fit b) (info_fits i)
    (left (header_fits b.header && hashes_fit b && info_fits i) (list_all revision_fits b.revisions) l.whole.fits))

-- its hash, from those of its entries and of the block before
pub hash_here : (blocks : List Block) → Chained blocks → (k : ℕ) (b : Block) → slice_get blocks k ≡ Some b → b.hash ≡ dot32 b.entries b.previous
hash_here blocks chained k b at = pair_is b (hashes_here blocks chained k b at)
