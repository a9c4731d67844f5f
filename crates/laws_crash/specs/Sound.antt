-- The one invariant over the whole content of a journal's store, and what it says of each image.
use Rattle.std.specs.Prelude.{◌≡◌, ◌⊎◌, ℕ, Bool, true, false, List, [], ◌∷◌, ◌++◌, length, take, Contains}
use Rattle.ledger_model.specs.declared.block.Block.{Block}
use Rattle.ledger_model.specs.Journal.{line, journal_bytes}
use Rattle.ledger_model.specs.Damages.{Undamaged}
use Rattle.ledger_model.specs.HashesAsked.{AreAsked}
use Rattle.ledger_model.specs.Recovered.{has_no_line_feed, IsJournal}
use Rattle.outside.specs.Store.{Content, Moment, moment_of}
use Rattle.laws_crash.specs.Pending.{AllHeld, ImagesAre, NothingPending}

-- ---- what was held

-- a front part of the line of one of the tried blocks, perhaps none or all of it, if that block is undamaged after
-- the others
pub record IsPartOfLine (blocks tried : List Block) (part : List ℕ) : Type 0 where
  pub block : Block
  pub kept : ℕ
  pub among : Contains tried block
  pub part_is : part ≡ take kept (line block)
  pub undamaged : Undamaged (blocks ++ block ∷ [])
  pub asked : AreAsked (blocks ++ block ∷ [])

-- a rest that is no whole line, or such a part
abbrev pub IsPart : List Block → List Block → List ℕ → Type 0
IsPart blocks tried part = (has_no_line_feed part ≡ true) ⊎ IsPartOfLine blocks tried part

-- the lines of the blocks, and such a part after them
pub record StandsAfter (blocks tried : List Block) (whole : List ℕ) : Type 0 where
  pub part : List ℕ
  pub whole_is : whole ≡ journal_bytes blocks ++ part
  pub is_part : IsPart blocks tried part

-- the lines of the blocks are synced, and nothing but such lists was held since
abbrev pub IsSafe : List Block → List Block → Moment → Type 0
IsSafe blocks tried m = AllHeld (StandsAfter blocks tried) (length (journal_bytes blocks)) m

-- The invariant: of the blocks, of those whose lines may have come to the store after them, of whether a cut is
-- marked, and of the store's whole content. If no cut is marked, the lines stand alone and nothing is pending.
pub record IsSound (blocks tried : List Block) (marked : Bool) (content : Content) : Type 0 where
  pub safe : IsSafe blocks tried (moment_of content)
  pub now : StandsAfter blocks tried content.bytes
  pub alone : marked ≡ false → content.bytes ≡ journal_bytes blocks
  pub rests : marked ≡ false → NothingPending content

-- ---- what an image recovers to

-- to the blocks, with a rest that is no whole line, or to them and one of those that were tried
abbrev pub Recovers : List Block → List Block → List ℕ → Type 0
Recovers blocks tried image =
    ((rest : List ℕ) × IsJournal image blocks rest)
    ⊎ ((b : Block) × Contains tried b × IsJournal image (blocks ++ b ∷ []) [])

-- to the blocks alone, with no rest
abbrev pub RecoversAlone : List Block → List ℕ → Type 0
RecoversAlone blocks image = IsJournal image blocks []

-- ---- laws

-- every image at a safe moment recovers
abbrev pub SafeRecovers : Type 0
SafeRecovers =
    (blocks tried : List Block) (m : Moment) → Undamaged blocks → AreAsked blocks → IsSafe blocks tried m
    → ImagesAre (Recovers blocks tried) m

-- and if no cut is marked, to the blocks alone
abbrev pub UnmarkedRecovers : Type 0
UnmarkedRecovers =
    (blocks tried : List Block) (content : Content) → Undamaged blocks → AreAsked blocks
    → IsSound blocks tried false content → ImagesAre (RecoversAlone blocks) (moment_of content)
