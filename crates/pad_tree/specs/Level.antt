-- One level of a padded hash tree and the next one up.
use Rattle.std.specs.Prelude.{ℕ, ◌≡◌, ◌+◌, ◌/◌, List, length}
use Rattle.ql_types.specs.declared.Hash32.{Hash32}
use Rattle.hash_model.specs.PairHash.{dot32}
use Rattle.hash_model.specs.Tree.{node}

-- the nodes `above` are those over the nodes `below`: half as many, rounded up, and like the pads
-- below two pads make the pad of the level above
pub record IsNextLevel (pad : Hash32) (below above : List Hash32) : Type 0 where
  pub half : length above ≡ (length below + 1) / 2
  pub nodes : (place : ℕ) → node (dot32 pad pad) above 0 place ≡ node pad below 1 place
