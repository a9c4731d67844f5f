-- What a comparison of two values by their hashes returns.
use Rattle.std.specs.Prelude.{ℕ, ◌≡◌, ◌≢◌, ◌↔◌, true, List, Option, MatchOption, ⊤}
use Rattle.sha2.specs.Sha256.{sha256}
use Rattle.ion_values.specs.declared.value.Value.{Value}
use Rattle.ion_values.specs.Equivalent.{is_equivalent}
use Rattle.hash_model.specs.Serialize.{hash_of}
use Rattle.ion_extract.specs.declared.find.Pair.{Pair}
use Rattle.ion_extract.specs.declared.compare.Compared.{Compared}
use Rattle.ion_extract.specs.declared.compare.Compared.TheVariants.{Same, Collision, Differ}

-- two different byte strings with one SHA-256 (FIPS 180-4). That there are such strings says nothing, since strings
-- outnumber hashes: a contract speaks of those that a call returns
pub record IsCollision (a b : List ℕ) : Type 0 where
  pub differ : a ≢ b
  pub same : sha256 a ≡ sha256 b

-- what a search returns: two strings that collide, or else that the fact holds
abbrev pub Finds : Type 0 → Option Pair → Type 0
Finds Fact found = MatchOption found Fact (λ pair. IsCollision pair.first pair.second)

-- the strings that are returned collide
abbrev pub Collides : Compared → Type 0
Collides (Collision first second) = IsCollision first second
Collides _ = ⊤

-- the hashes differ exactly at Differ, and the values are equivalent exactly at Same
pub record IsCompared (v w : Value) (c : Compared) : Type 0 where
  pub differ : (c ≡ Differ) ↔ (hash_of v ≢ hash_of w)
  pub same : (c ≡ Same) ↔ (is_equivalent v w ≡ true)
  pub collision : Collides c
