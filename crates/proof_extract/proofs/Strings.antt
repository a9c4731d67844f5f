-- What hashes are the hashes of, and how long that is.
use Rattle.std.proofs.Common.{◌≡◌, ◌∙◌, ℕ, zero, suc, ◌<◌, ◌≤◌, List, length, refl, sym, ap, arith}
use Rattle.sha2.specs.Sha256.{sha256}
use Rattle.ion_values.specs.declared.value.Value.{Value}
use Rattle.ql_types.specs.declared.Hash32.{Hash32}
use Rattle.hash_model.specs.PairHash.{dot32}
use Rattle.hash_model.specs.Serialize.{hash_of, serialize, struct_bytes, struct_hash}
use Rattle.ledger_model.specs.declared.block.Header.{Header}
use Rattle.ledger_model.specs.declared.block.Info.{Info}
use Rattle.ledger_model.specs.declared.block.Metadata.{Metadata}
use Rattle.ledger_model.specs.declared.block.Revision.{Revision}
use Rattle.ledger_model.specs.Journal.{header_value, metadata_value}
use Rattle.ledger_model.specs.Seals.{info_hash, info_hashes}
use Rattle.laws_descent.specs.Laws.{FourFieldsAreLong}
use Rattle.tree_descent.specs.Pairs.{pair_form}
use Rattle.tree_descent.proofs.OnePair.{pair_hash-is}

hash_of-is : (v : Value) → (hash_of v).bytes ≡ sha256 (serialize v)
unfolding hash_of
hash_of-is v = refl

pub pair_sum : (a b h : Hash32) (form : List ℕ) → form ≡ pair_form a b → h ≡ dot32 a b → sha256 form ≡ h.bytes
pair_sum a b h form is same = ap sha256 is ∙ sym (pair_hash-is a b) ∙ ap (λ (x : Hash32). x.bytes) (sym same)

pub value_sum : (v : Value) (h : Hash32) (form : List ℕ) → form ≡ serialize v → h ≡ hash_of v → sha256 form ≡ h.bytes
value_sum v h form is same = ap sha256 is ∙ sym (hash_of-is v) ∙ ap (λ (x : Hash32). x.bytes) (sym same)

pub header_long : FourFieldsAreLong → (h : Header) (form : List ℕ) → form ≡ serialize (header_value h) → 64 < length form
header_long long h form is =
    let longer : 64 < length (serialize (header_value h)) = long _ _ _ _ in omega (arith, longer, ap length is)

pub metadata_long : FourFieldsAreLong → (m : Metadata) (form : List ℕ) → form ≡ serialize (metadata_value m) → 64 < length form
metadata_long long m form is =
    let longer : 64 < length (serialize (metadata_value m)) = long _ _ _ _ in omega (arith, longer, ap length is)

-- what the hash of what a transaction said and did is the hash of
pub form_sum : (i : Info) (rs : List Revision) (form : List ℕ) → form ≡ struct_bytes (info_hashes i rs) → (info_hash i rs).bytes ≡ sha256 form
unfolding info_hash struct_hash
form_sum i rs form is = ap sha256 (sym is)

-- a pair of hashes is shorter than what has more than 64 bytes
pub no_pair : (pair form : List ℕ) → length pair ≡ 64 → 64 < length form → pair ≡ form → ⊥
no_pair pair form short long same = omega (arith, short, long, ap length same)

pub as_long : (form other : List ℕ) → form ≡ other → 64 < length other → 64 < length form
as_long form other is long = omega (arith, long, ap length is)

-- what is hashed to the strand's hash is shorter than a pair
pub not_first : (number : ℕ) (form pair : List ℕ) → form ≡ pair → length pair ≡ 64 → (number ≡ 0 → length form < 64) → 1 ≤ number
not_first zero form pair same long short =
    let less : length form < 64 = short refl in
    let even : length form ≡ length pair = ap length same in
    absurd (omega (arith, less, even, long))
not_first (suc k) form pair same long short = omega arith

pub too_long : (form short : List ℕ) → 64 < length form → length short ≤ 64 → form ≡ short → ⊥
too_long form short long few same = omega (arith, long, few, ap length same)
