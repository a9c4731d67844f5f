-- An undamaged journal is one whose blocks follow one another.
use Rattle.std.specs.Prelude.{◌≡◌, ℕ, List, [], ◌∷◌, map}
use Rattle.ledger_model.specs.declared.block.Block.{Block}
use Rattle.ledger_model.specs.Damages.{Undamaged}
use Rattle.ledger_model.specs.State.{draft_of, empty, state}
use Rattle.laws_footprint.specs.Own.{AllFollow, IdsFit}

-- its strand, where it has a block
abbrev pub HasStrand : ℕ → List Block → Type 0
HasStrand mask [] = Unit {0}
HasStrand mask (b ∷ bs) = b.header.address.strand.raw ≡ mask

abbrev pub UndamagedFollow : Type 0
UndamagedFollow =
    (mask : ℕ) (blocks : List Block) → Undamaged blocks → HasStrand mask blocks
    → AllFollow mask empty blocks × IdsFit (map draft_of (state blocks).revisions)
