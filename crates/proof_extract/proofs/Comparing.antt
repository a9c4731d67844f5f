-- Values that are compared by their hashes.
use Rattle.std.proofs.Common.{◌≡◌, ℕ, List, subst}
use Rattle.ion_values.specs.declared.value.Value.{Value}
use Rattle.ion_extract.specs.declared.compare.Compared.{Compared}
use Rattle.ion_extract.specs.declared.compare.Compared.TheVariants.{Same, Collision, Differ}
use Rattle.ion_extract.specs.Compared.{Collides, IsCompared}
use Rattle.tree_descent.specs.Collisions.{IsCollision}
use Rattle.proof_extract.specs.Extracts.{AreAlike}

pub collided : (v w : Value) (c : Compared) (a b : List ℕ) → c ≡ Collision a b → IsCompared v w c → IsCollision a b
collided v w c a b is told =
    let both = subst Collides is told.collision in record { differ = both.differ; same = both.same }

pub alike_same : (v w : Value) (c : Compared) → c ≡ Same → IsCompared v w c → AreAlike v w
alike_same v w c is told e = told.same.0 is

pub alike_apart : (v w : Value) (c : Compared) → c ≡ Differ → IsCompared v w c → AreAlike v w
alike_apart v w c is told e = absurd (told.differ.0 is e)
