-- When blocks make a chain: each stands at its place in the strand of the first, names the hash of the block before
-- it, and has the hashes of its contents (QLDB Developer Guide, "Data verification in Amazon QLDB").
use Rattle.std.specs.Prelude.{List, [], ◌∷◌, ◌++◌, IsTrue}
use Rattle.ledger_model.specs.declared.block.Block.{Block}
use Rattle.ledger_model.specs.Whole.{IsWhole}
use Rattle.ledger_model.specs.Damages.{strand_of, has_address, has_previous, has_hashes, Undamaged}

-- a block behind those before it
pub record IsLinked (before : List Block) (b : Block) : Type 0 where
  pub whole : IsWhole b
  pub address : IsTrue (has_address (strand_of before b) before b)
  pub previous : IsTrue (has_previous (strand_of before b) before b)
  pub hashes : IsTrue (has_hashes b)

-- these blocks behind those
abbrev pub ChainedBehind : List Block → List Block → Type 0
ChainedBehind before [] = Unit {0}
ChainedBehind before (b ∷ bs) = IsLinked before b × ChainedBehind (before ++ b ∷ []) bs

abbrev pub Chained : List Block → Type 0
Chained blocks = ChainedBehind [] blocks

-- an undamaged journal is chained
abbrev pub UndamagedIsChained : Type 0
UndamagedIsChained = (blocks : List Block) → Undamaged blocks → Chained blocks
