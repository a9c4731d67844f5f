-- What is hashed for a pair of hashes (QLDB Developer Guide, "Data verification in Amazon QLDB"), and what it
-- determines.
use Rattle.std.specs.Prelude.{ℕ, ◌≡◌, ◌⊎◌, List, ◌++◌, length, if◌then◌else◌}
use Rattle.ql_types.specs.declared.Hash32.{Hash32}
use Rattle.hash_model.specs.PairHash.{comes_before}

-- the two hashes, the lesser one first
abbrev pub pair_form : Hash32 → Hash32 → List ℕ
pair_form a b = if comes_before a.bytes b.bytes then a.bytes ++ b.bytes else b.bytes ++ a.bytes

-- the pairs are one, whichever comes first
abbrev pub IsOnePair : Hash32 → Hash32 → Hash32 → Hash32 → Type 0
IsOnePair a b c d = ((a ≡ c) × (b ≡ d)) ⊎ ((a ≡ d) × (b ≡ c))

abbrev pub IsLong : Hash32 → Type 0
IsLong h = length h.bytes ≡ 32

-- what is hashed for a pair of hashes of 32 bytes determines the pair
abbrev pub PairFormsDeterminePairs : Type 0
PairFormsDeterminePairs =
    (a b c d : Hash32) → IsLong a → IsLong b → IsLong c → IsLong d → pair_form a b ≡ pair_form c d → IsOnePair a b c d
