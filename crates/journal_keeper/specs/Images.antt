-- What a stop of the machine leaves of a journal's store, within each call and after it. The claims are about stores
-- that tell their content, and hold for any blocks, and for any others that may have come to the store before.
use Rattle.std.specs.Prelude.{◌≡◌, ◌⊎◌, ℕ, Bool, true, false, List, [], ◌∷◌, ◌++◌, Option, Result, Ok, Err, IfSome}
use Rattle.ledger_model.specs.declared.block.Block.{Block}
use Rattle.ledger_model.specs.Damages.{Undamaged}
use Rattle.ledger_model.specs.HashesAsked.{AreAsked}
use Rattle.ledger_model.specs.Journal as journal
use Rattle.outside.specs.Store.{Content, Moment}
use Rattle.laws_crash.specs.Sound.{IsSafe, IsSound}
use Rattle.laws_crash.specs.Steps.{size_of}
use Rattle.laws_crash.specs.Passed.{PassesTold}

-- the invariant, if the store tells its content
abbrev pub IsSoundTold : List Block → List Block → Bool → Option Content → Type 0
IsSoundTold blocks tried marked content = IfSome content (IsSound blocks tried marked)

-- the invariant holds after a call, and each moment within the call, its last one too, has the property
pub record Keeps (P : Moment → Type 0) (blocks tried : List Block) (marked : Bool)
    (before now : Option Content) : Type 0 where
  pub sound : IsSoundTold blocks tried marked now
  pub passes : PassesTold P before now

-- ---- a cut to the lines of the blocks and a sync after it

-- If it is Ok, nothing is pending. Else a cut is marked, and the blocks that were tried may still come back.
abbrev pub SettleKeeps : {T F : Type 0} → Result T F → (size : ℕ) (marked : Bool) (before now : Option Content) → Type 0
SettleKeeps (Ok done) size marked before now =
    (blocks tried : List Block) → size ≡ size_of blocks → IsSoundTold blocks tried marked before
    → Keeps (IsSafe blocks tried) blocks [] false before now
SettleKeeps (Err fault) size marked before now =
    (blocks tried : List Block) → size ≡ size_of blocks → IsSoundTold blocks tried marked before
    → Keeps (IsSafe blocks tried) blocks tried true before now

-- ---- an append of the next block's line and a sync after it

-- the images at this moment are those of the blocks, the next one tried, or those of the blocks with it
abbrev pub IsAmidLine : List Block → List Block → Block → Moment → Type 0
IsAmidLine blocks tried b m = IsSafe blocks (tried ++ b ∷ []) m ⊎ IsSafe (blocks ++ b ∷ []) [] m

-- If it is Ok, nothing is pending of the lines with the next one. Else that block may have come to the store.
abbrev pub AppendKeeps : {T F : Type 0} → Result T F → List ℕ → (before now : Option Content) → Type 0
AppendKeeps (Ok done) line before now =
    (blocks tried : List Block) (b : Block) → line ≡ journal.line b → Undamaged (blocks ++ b ∷ [])
    → AreAsked (blocks ++ b ∷ []) → IsSoundTold blocks tried false before
    → Keeps (IsAmidLine blocks tried b) (blocks ++ b ∷ []) [] false before now
AppendKeeps (Err fault) line before now =
    (blocks tried : List Block) (b : Block) → line ≡ journal.line b → Undamaged (blocks ++ b ∷ [])
    → AreAsked (blocks ++ b ∷ []) → IsSoundTold blocks tried false before
    → Keeps (IsSafe blocks (tried ++ b ∷ [])) blocks (tried ++ b ∷ []) true before now

-- ---- both, the cut if one is marked

-- the same of the cut and the append, from the mark before them to the mark after them
abbrev pub LineKeeps : {T F : Type 0} → Result T F → List ℕ → (size : ℕ) (marked now_marked : Bool)
    (before now : Option Content) → Type 0
LineKeeps (Ok done) line size marked now_marked before now =
    (blocks tried : List Block) (b : Block) → size ≡ size_of blocks → line ≡ journal.line b
    → Undamaged (blocks ++ b ∷ []) → AreAsked (blocks ++ b ∷ []) → IsSoundTold blocks tried marked before
    → Keeps (IsAmidLine blocks tried b) (blocks ++ b ∷ []) [] now_marked before now
LineKeeps (Err fault) line size marked now_marked before now =
    (blocks tried : List Block) (b : Block) → size ≡ size_of blocks → line ≡ journal.line b
    → Undamaged (blocks ++ b ∷ []) → AreAsked (blocks ++ b ∷ []) → IsSoundTold blocks tried marked before
    → Keeps (IsSafe blocks (tried ++ b ∷ [])) blocks (tried ++ b ∷ []) now_marked before now
