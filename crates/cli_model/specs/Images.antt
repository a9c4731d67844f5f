-- What a stop of the machine leaves of the journal after a run, if nothing was pending in the store at entry.
use Rattle.std.specs.Prelude.{ℕ, List, IfSome}
use mathlib.Core.List.{IsPrefix}
use Rattle.ledger_model.specs.declared.block.Block.{Block}
use Rattle.ledger_model.specs.Recovered.{IsJournal}
use Rattle.outside.specs.Told.{StoreTold, held}
use Rattle.outside.specs.Store.{moment_of}
use Rattle.laws_crash.specs.Pending.{ImagesAre, IsAtRest}
use Rattle.laws_crash.specs.Sound.{RecoversAlone}
use Rattle.laws_history.specs.Calls.{Span}
use Rattle.laws_history.specs.Stores.{HasJournal}
use Rattle.cli_model.specs.Stores.{IsUnchanged}

-- every image of the store recovers to the blocks alone
abbrev pub RecoverAlone : List Block → StoreTold → Type 0
RecoverAlone blocks told = IfSome told.content (λ c. ImagesAre (RecoversAlone blocks) (moment_of c))

-- the image recovers to a list that begins with the blocks
pub record RecoversFrom (before : List Block) (image : List ℕ) : Type 0 where
  pub blocks : List Block
  pub rest : List ℕ
  pub is_journal : IsJournal image blocks rest
  pub begins : IsPrefix before blocks

-- so does every image of the store
abbrev pub RecoverFrom : List Block → StoreTold → Type 0
RecoverFrom before told = IfSome told.content (λ c. ImagesAre (RecoversFrom before) (moment_of c))

-- ---- what a run leaves

-- a run that was done leaves its blocks alone
abbrev pub DoneLeaves : Span StoreTold → (after : List Block) → Type 0
DoneLeaves store after = IsAtRest store.before → RecoverAlone after store.after

-- one that was stopped leaves the blocks with which it began, and perhaps more
abbrev pub StoppedLeaves : Span StoreTold → (before : List Block) → Type 0
StoppedLeaves store before = IsAtRest store.before → RecoverFrom before store.after

-- The content is as at entry. So each image recovers to the blocks of its journal, if that is undamaged.
pub record IsStill (store : Span StoreTold) : Type 0 where
  pub content : IsUnchanged store
  pub leaves : (before : List Block) → HasJournal before (held store.before) → StoppedLeaves store before
