-- What a run has touched is the transaction's own, or stood there before it. And where no later block touches what
-- it read, all that pends of it is settled, so the law of whole transactions asks of it only that it made fewer
-- things than ids have room for.
use Rattle.std.specs.Prelude.{◌≡◌, ◌⊎◌, ◌<◌, ◌^◌, ℕ, true, false, List, map, take, None}
use Rattle.std.specs.List.{AllByRecursion}
use Rattle.ledger_model.specs.declared.block.Block.{Block}
use Rattle.ledger_model.specs.declared.block.Draft.{Draft}
use Rattle.ledger_model.specs.declared.script.Request.{Request}
use Rattle.ledger_model.specs.Follows.{is_new}
use Rattle.ledger_model.specs.Run.{Begun, Progress, ran, run}
use Rattle.ledger_model.specs.State.{State, draft_of, empty, state}
use Rattle.laws_footprint.specs.Framed.{Beside}
use Rattle.laws_footprint.specs.Own.{AllCreated, AllFollow, IdsFit, StandsInNone, is_by}
use Rattle.laws_footprint.specs.Touches.{conflict}

-- the mask and the number are within their types, and the things made are as few as 24 bits count
pub record IsWithin (b : Begun) (p : Progress) : Type 0 where
  pub mask : b.mask < 2 ^ 128
  pub number : b.number < 2 ^ 64
  pub made : p.made < 2 ^ 24

-- the transaction's own document, or one that has a revision in the state
abbrev pub IsOwnOrOld : ℕ → ℕ → State → Draft → Type 0
IsOwnOrOld mask n s d = (is_by mask n d.id.raw ≡ true) ⊎ (is_new s.revisions d.id.raw ≡ false)

pub record OwnsAll (b : Begun) (s : State) (p : Progress) : Type 0 where
  pub documents : AllByRecursion (IsOwnOrOld b.mask b.number s) p.log
  pub tables : AllCreated b.mask b.number p.schema
  pub fit : IdsFit (map draft_of s.revisions) → IdsFit p.log

abbrev pub RunOwnsAll : Type 0
RunOwnsAll =
    (b : Begun) (s : State) (asked : List Request) (p : Progress) → run b s asked ≡ ran p → IsWithin b p → OwnsAll b s p

-- the blocks follow one another, and none of them is the transaction's
pub record IsJournalOf (b : Begun) (blocks : List Block) : Type 0 where
  pub follow : AllFollow b.mask empty blocks
  pub number : StandsInNone b.mask b.number blocks
  pub fit : IdsFit (map draft_of (state blocks).revisions)

-- where no later block touches what it read, a document that pends is its own, or no later block has a revision of it
abbrev pub RunIsSettled : Type 0
RunIsSettled =
    (b : Begun) (blocks : List Block) (since : ℕ) (asked : List Request) (p : Progress)
    → run b (state (take since blocks)) asked ≡ ran p → IsWithin b p → IsJournalOf b blocks
    → conflict blocks since p.footprint ≡ None → Beside b.mask b.number blocks since p

-- and the transaction comes to the same behind these blocks
abbrev pub RunIsKept : Type 0
RunIsKept =
    (b : Begun) (blocks : List Block) (since : ℕ) (asked : List Request) (p : Progress)
    → run b (state (take since blocks)) asked ≡ ran p → IsWithin b p → IsJournalOf b blocks
    → conflict blocks since p.footprint ≡ None → run b (state blocks) asked ≡ ran p
