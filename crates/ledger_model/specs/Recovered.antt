-- What the bytes of a journal hold: the blocks of all whole lines and the rest behind the last line feed, or the first
-- block that is damaged. A whole line ends in a line feed (Ion 1.0 text: a value can be written on one line).
use Rattle.std.specs.Prelude.{◌≡◌, ◌==◌, ℕ, Bool, true, not, List, [], ◌∷◌, ◌++◌, length, Some, ◌⊎◌}
use Rattle.std.specs.List.{list_all}
use Rattle.ledger_model.specs.declared.block.Block.{Block}
use Rattle.ledger_model.specs.declared.damage.Damage.{Damage}
use Rattle.ledger_model.specs.declared.damage.Damage.TheVariants as damage
use Rattle.ledger_model.specs.Journal.{line, journal_bytes}
use Rattle.ledger_model.specs.Whole.{IsWhole}
use Rattle.ledger_model.specs.Damages.{damage_behind, Undamaged}
use Rattle.ledger_model.specs.HashesAsked.{AreAsked, unasked}

-- no line feed stands in the text
abbrev pub has_no_line_feed : List ℕ → Bool
has_no_line_feed text = list_all (λ byte. not (byte == 10)) text

-- the bytes are the lines of these blocks of an undamaged journal, and a rest that is no whole line
pub record IsJournal (bytes : List ℕ) (blocks : List Block) (rest : List ℕ) : Type 0 where
  pub lines : bytes ≡ journal_bytes blocks ++ rest
  pub torn : has_no_line_feed rest ≡ true
  pub undamaged : Undamaged blocks
  pub asked : AreAsked blocks

-- the whole block whose line this is
pub record IsLineOf (text : List ℕ) (b : Block) : Type 0 where
  pub whole : IsWhole b
  pub written : text ≡ line b

-- a line fails this check first behind these blocks
abbrev pub Fails : List Block → List ℕ → Damage → Type 0
Fails before text damage.NotALine = (b : Block) → IsLineOf text b → ⊥
Fails before text kind = (b : Block) × IsLineOf text b × (damage_behind before b ≡ Some kind)

-- behind the lines of undamaged blocks stands a line that fails this check first
pub record IsDamagedBehind (bytes : List ℕ) (before : List Block) (kind : Damage) : Type 0 where
  pub text : List ℕ
  pub rest : List ℕ
  pub lines : bytes ≡ journal_bytes before ++ (text ++ 10 ∷ rest)
  pub one_line : has_no_line_feed text ≡ true
  pub undamaged : Undamaged before
  pub fails : Fails before (text ++ 10 ∷ []) kind

-- the first damaged line has this place, counted from 0, and fails this check first
abbrev pub IsDamagedLine : List ℕ → ℕ → Damage → Type 0
IsDamagedLine bytes sequence kind =
    (before : List Block) × (sequence ≡ length before) × IsDamagedBehind bytes before kind

-- no line is damaged, and the first block with a hash that isn't asked for has this place
pub record IsUnasked (bytes : List ℕ) (sequence : ℕ) : Type 0 where
  pub blocks : List Block
  pub rest : List ℕ
  pub lines : bytes ≡ journal_bytes blocks ++ rest
  pub torn : has_no_line_feed rest ≡ true
  pub undamaged : Undamaged blocks
  pub first : unasked blocks ≡ Some sequence

-- the first damaged line fails this check first, or none is damaged and this block has such a hash first
abbrev pub IsDamaged : List ℕ → ℕ → Damage → Type 0
IsDamaged bytes sequence kind =
    IsDamagedLine bytes sequence kind ⊎ ((kind ≡ damage.Unasked) × IsUnasked bytes sequence)
