-- Each hash of a sealed block has 32 bytes, and is the hash of its contents.
use Rattle.std.proofs.Common.{◌≡◌, ◌∙◌, ◌%◌, ℕ, zero, suc, true, List, [], ◌∷◌, map, length, refl, arith}
use Rattle.std.specs.Prelude.{slice_index, nat_lt}
use Rattle.std.specs.Int.{to_be_bytes, w32}
use Rattle.std.specs.List.{AllByRecursion, list_all}
use Rattle.std.specs.Cmp.Lexicographic.{pointwise, bytes_decides}
use Rattle.std.proofs.lemmas.Bool.{and_from, lt-ltb}
use Rattle.std.proofs.lemmas.Bool.Decides.{nat_tests}
use Rattle.std.proofs.lemmas.List.Folds.{list_all-append}
use Rattle.sha2.specs.Sha256.{sha256, digest_bytes, final_hash, initial_hash_256}
use Rattle.sha2.proofs.Facts256.{length-sha256}
use Rattle.ion_values.specs.Within.{bytes_within}
use Rattle.hash_model.specs.Serialize.{hash_of, struct_hash}
use Rattle.hash_model.specs.PairHash.{dot32}
use Rattle.hash_model.specs.Tree.{node, pad_hash, root_of, height_of}
use Rattle.ion_values.specs.declared.value.Value.{Value}
use Rattle.ql_types.specs.declared.Hash32.{Hash32}
use Rattle.ql_types.specs.declared.Hash.{Hash}
use Rattle.ql_types.specs.declared.Hash.TheVariants.{Empty, Full}
use Rattle.ledger_model.specs.declared.block.Content.{Content}
use Rattle.ledger_model.specs.declared.block.Content.TheVariants.{Deleted, Kept, Redacted}
use Rattle.ledger_model.specs.declared.block.Metadata.{Metadata}
use Rattle.ledger_model.specs.declared.block.Revision.{Revision}
use Rattle.ledger_model.specs.declared.block.Info.{Info}
use Rattle.ledger_model.specs.declared.block.Header.{Header}
use Rattle.ledger_model.specs.declared.block.Block.{Block}
use Rattle.ledger_model.specs.declared.block.Draft.{Draft}
use Rattle.ledger_model.specs.Seals.{revision_hash, entries_hash, info_hash, sealed}
use Rattle.ledger_model.specs.Damages.{same_hash, same_entry, has_revision_hash, has_hashes}
use Rattle.ledger_model.specs.Making.{revision_of}
use Rattle.laws_validity.proofs.Lists.{all_read, all_mapped}

-- ---- 32 bytes

pub record IsDigest (h : Hash32) : Type 0 where
  pub long : length h.bytes ≡ 32
  pub ranges : bytes_within h.bytes ≡ true

abbrev pub IsEntry : Hash → Type 0
IsEntry Empty = Unit {0}
IsEntry (Full h) = IsDigest h

byte : (x : ℕ) → nat_lt (x % 256) 256 ≡ true
byte x = lt-ltb (x % 256) 256 (omega arith)

four : (x : ℕ) → bytes_within (to_be_bytes w32 x) ≡ true
four x = grind (arith, nat_tests)

digest_within : (h : List ℕ) (n : ℕ) → bytes_within (digest_bytes h n) ≡ true
unfolding digest_bytes
digest_within h zero = refl
digest_within h (suc n) =
    list_all-append (λ b. nat_lt b 256) (digest_bytes h n) (to_be_bytes w32 (slice_index h n))
    ∙ and_from _ _ (digest_within h n) (four (slice_index h n))

pub sha_within : (m : List ℕ) → bytes_within (sha256 m) ≡ true
unfolding sha256
sha_within m = digest_within (final_hash initial_hash_256 m) 8

pub hash_of_is : (v : Value) → IsDigest (hash_of v)
unfolding hash_of
hash_of_is v = record { long = length-sha256 _; ranges = sha_within _ }

info_hash_is : (i : Info) (rs : List Revision) → IsDigest (info_hash i rs)
unfolding info_hash struct_hash
info_hash_is i rs = record { long = length-sha256 _; ranges = sha_within _ }

pub dot_is : (a b : Hash32) → IsDigest (dot32 a b)
unfolding dot32
dot_is a b = record { long = length-sha256 _; ranges = sha_within _ }

pad_is : IsDigest pad_hash
unfolding pad_hash
pad_is = record { long = length-sha256 _; ranges = sha_within _ }

node_is : (leaves : List Hash32) → AllByRecursion IsDigest leaves → (level place : ℕ)
    → IsDigest (node pad_hash leaves level place)
unfolding node
node_is leaves h zero place = all_read IsDigest pad_hash pad_is leaves place h
node_is leaves h (suc level) place = dot_is _ _

root_is : (leaves : List Hash32) → AllByRecursion IsDigest leaves → IsEntry (root_of leaves)
root_is [] h = tt
root_is (x ∷ xs) h = node_is (x ∷ xs) h (height_of (length (x ∷ xs))) 0

pub revision_hash_is : (c : Content) (m : Metadata) → IsDigest (revision_hash c m)
revision_hash_is Deleted m = hash_of_is _
revision_hash_is (Kept v) m = dot_is _ _
revision_hash_is (Redacted hash) m = dot_is _ _

entries_is : (info : Hash32) (revisions : Hash) (header : Hash32) → IsDigest (entries_hash info revisions header)
entries_is info Empty header = dot_is _ _
entries_is info (Full r) header = dot_is _ _

-- the block's own hashes
pub record HasDigests (b : Block) : Type 0 where
  pub hash : IsDigest b.hash
  pub entries : IsDigest b.entries
  pub previous : IsDigest b.previous
  pub count : length b.list ≡ 3
  pub list : AllByRecursion IsEntry b.list

pub sealed_is : (previous : Hash32) (h : Header) (i : Info) (rs : List Revision) → IsDigest previous
    → AllByRecursion (λ r. IsDigest r.hash) rs → HasDigests (sealed previous h i rs)
sealed_is previous h i rs p all = record {
  hash = dot_is _ _;
  entries = entries_is _ _ _;
  previous = p;
  count = refl;
  list = (
    info_hash_is i rs,
    (root_is (map (λ r. r.hash) rs) (all_mapped IsDigest (λ r. r.hash) rs all), (hash_of_is _, tt)),
  );
}

-- ---- the same hash

pub same_own : (h : Hash32) → same_hash h h ≡ true
same_own h = (bytes_decides h.bytes h.bytes).1 refl

entry_own : (h : Hash) → same_entry h h ≡ true
entry_own Empty = refl
entry_own (Full h) = same_own h

entries_own : (hs : List Hash) → pointwise same_entry hs hs ≡ true
entries_own [] = refl
entries_own (h ∷ hs) = and_from (same_entry h h) (pointwise same_entry hs hs) (entry_own h) (entries_own hs)

revisions_own : (h : Header) (ds : List Draft) → list_all has_revision_hash (map (revision_of h) ds) ≡ true
revisions_own h [] = refl
revisions_own h (d ∷ ds) = and_from _ _ (same_own (revision_of h d).hash) (revisions_own h ds)

pub drafts_hashed : (h : Header) (ds : List Draft) → AllByRecursion (λ r. IsDigest r.hash) (map (revision_of h) ds)
drafts_hashed h [] = tt
drafts_hashed h (d ∷ ds) = (revision_hash_is _ _, drafts_hashed h ds)

pub sealed_hashes : (previous : Hash32) (h : Header) (i : Info) (ds : List Draft)
    → has_hashes (sealed previous h i (map (revision_of h) ds)) ≡ true
sealed_hashes previous h i ds =
    let b = sealed previous h i (map (revision_of h) ds) in
    and_from _ _ (and_from _ _ (and_from _ _ (revisions_own h ds) (entries_own b.list)) (same_own b.entries))
    (same_own b.hash)
