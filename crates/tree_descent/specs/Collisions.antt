-- Two byte strings of equal SHA-256 (FIPS 180-4), and why a walk stops.
use Rattle.std.specs.Prelude.{ℕ, ◌≡◌, ◌≢◌, List}
use Rattle.sha2.specs.Sha256.{sha256}
use Rattle.tree_descent.specs.declared.collision.Stop.{Stop}
use Rattle.tree_descent.specs.declared.collision.Stop.TheVariants as stop

-- two different byte strings with one SHA-256. That there are such strings says nothing, since strings outnumber
-- hashes: a contract speaks of those that a call returns
pub record IsCollision (a b : List ℕ) : Type 0 where
  pub differ : a ≢ b
  pub same : sha256 a ≡ sha256 b

-- the strings of a stop collide
abbrev pub IsStop : Stop → Type 0
IsStop (stop.Collision first second) = IsCollision first second
IsStop stop.OutOfMemory = Unit {0}
