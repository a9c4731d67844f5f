-- The hash of two hashes, as the Amazon QLDB Developer Guide has it in "Data verification in Amazon
-- QLDB" and in the code beside it: SHA-256 (FIPS 180-4) of the two, the lesser one first.
use Rattle.std.specs.Prelude.{ℕ, nat_le, Bool, List, ◌++◌, reverse, fold, if◌then◌else◌}
use Rattle.std.specs.Ordering.{nat_cmp, is_lt}
use Rattle.std.specs.Cmp.Lexicographic.{slice_cmp}
use Rattle.std.specs.declared.cmp.Ordering.{Ordering}
use Rattle.std.specs.declared.cmp.Ordering.TheVariants.{Less, Greater}
use Rattle.sha2.specs.Sha256.{sha256}
use Rattle.ql_types.specs.declared.Hash.{Hash}
use Rattle.ql_types.specs.declared.Hash.TheVariants.{Empty, Full}
use Rattle.ql_types.specs.declared.Hash32.{Hash32}

-- whether a byte is below zero when it is read as a signed one: 128 is -128, and 255 is -1
abbrev pub is_negative : ℕ → Bool
is_negative byte = nat_le 128 byte

-- the order of two bytes as signed ones
abbrev pub signed_cmp : ℕ → ℕ → Ordering
signed_cmp x y =
    if is_negative x
    then (if is_negative y then nat_cmp x y else Less)
    else (if is_negative y then Greater else nat_cmp x y)

-- the order of two hashes: their bytes as signed ones, the last bytes first
abbrev pub hash_cmp : List ℕ → List ℕ → Ordering
hash_cmp a b = slice_cmp signed_cmp (reverse a) (reverse b)

-- whether the hash a is less than the hash b
abbrev pub comes_before : List ℕ → List ℕ → Bool
comes_before a b = is_lt (hash_cmp a b)

-- the hash of two hashes
unfoldable pub dot32 : Hash32 → Hash32 → Hash32
dot32 a b = record {
  bytes = sha256 (if comes_before a.bytes b.bytes then a.bytes ++ b.bytes else b.bytes ++ a.bytes);
}

-- the same where a hash may be empty: an empty one leaves the other as it is
abbrev pub dot_of : Hash → Hash → Hash
dot_of Empty b = b
dot_of (Full a) Empty = Full a
dot_of (Full a) (Full b) = Full (dot32 a b)

-- a hash with each hash of a list in turn, from the left
abbrev pub dot_each : Hash → List Hash32 → Hash
dot_each start list = fold (λ so_far next. dot_of so_far (Full next)) start list
