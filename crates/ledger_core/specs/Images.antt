-- What a stop of the machine leaves of a tail's store: the invariant at a tail, and what each call keeps of it. The
-- claims are about stores that tell their content, and hold on from any blocks that may have come to the store before.
use Rattle.std.specs.Prelude.{◌≡◌, ◌⊎◌, false, List, [], ◌∷◌, ◌++◌, Option, Some, None, Result, Ok, Err, IfSome, option_map}
use Rattle.ledger_model.specs.declared.block.Block.{Block}
use Rattle.outside.specs.Told.{StoreTold}
use Rattle.outside.specs.Store.{Moment, moment_of}
use Rattle.laws_crash.specs.Pending.{ImagesAre, IsAtRest}
use Rattle.laws_crash.specs.Sound.{IsSafe, IsSound, RecoversAlone}
use Rattle.laws_crash.specs.Passed.{PassesTold}
use Rattle.ledger_core.specs.declared.commit.Uncommitted.{Uncommitted}
use Rattle.ledger_core.specs.Tails.{TailHeld, joined}

-- the block with which a call came to its store, if it did, after those of earlier calls
abbrev pub tried_with : List Block → Option Block → List Block
tried_with tried None = tried
tried_with tried (Some b) = tried ++ b ∷ []

-- the block that the fault of a commit carries
abbrev pub came_with : {R : Type 0} → Result R Uncommitted → Option Block
came_with (Ok receipt) = None
came_with (Err e) = option_map (λ b. b.value) e.tried

module _ {S C : Type 0} (told : S → StoreTold) where
  -- the invariant, with these blocks as those whose lines may have come to the store after the lines of the tail's
  abbrev pub IsSoundTail : List Block → TailHeld S C → Type 0
  IsSoundTail tried t = IfSome (told t.store).content (IsSound t.standing.blocks tried t.marked)

  -- every image of the tail's store recovers to its blocks alone
  abbrev pub IsAcknowledged : TailHeld S C → Type 0
  IsAcknowledged t = IfSome (told t.store).content (λ c. ImagesAre (RecoversAlone t.standing.blocks) (moment_of c))

  -- ---- reload

  -- if nothing is pending in the store that is handed in, the tail meets the invariant, and no block was tried
  abbrev pub ReloadGives : StoreTold → TailHeld S C → Type 0
  ReloadGives handed t = IsAtRest handed → IsSoundTail [] t

  -- ---- commit and settle

  -- the images at this moment are those of the tail before, with these blocks tried, or those of the tail after
  abbrev pub IsAmid : TailHeld S C → TailHeld S C → List Block → Moment → Type 0
  IsAmid before now tried m = IsSafe before.standing.blocks tried m ⊎ IsSafe now.standing.blocks [] m

  -- the invariant holds after the call, with the blocks `left` as the tried ones, and each moment within the call, its
  -- last one too, is amid
  pub record KeepsSound (before now : TailHeld S C) (left amid : List Block) : Type 0 where
    pub sound : IsSoundTail left now
    pub passes : PassesTold (IsAmid before now amid) (told before.store).content (told now.store).content

  -- the same of a call that leaves nothing pending
  pub record Settles (before now : TailHeld S C) (amid : List Block) : Type 0 where
    pub keeps : KeepsSound before now [] amid
    pub acknowledged : IsAcknowledged now

  -- A commit that is Ok leaves nothing pending. After another one the block may have come to the store with which the
  -- commit came to it.
  abbrev pub CommitKeeps : {R F : Type 0} → Result R F → (came : Option Block) → TailHeld S C → TailHeld S C → Type 0
  CommitKeeps (Ok receipt) came before now =
      (now.marked ≡ false)
      × ((b : Block) → now.standing ≡ joined before.standing b → (tried : List Block) → IsSoundTail tried before
      → Settles before now (tried ++ b ∷ []))
  CommitKeeps (Err fault) came before now =
      (tried : List Block) → IsSoundTail tried before
      → KeepsSound before now (tried_with tried came) (tried_with tried came)

  -- a settle that is Ok leaves nothing pending
  abbrev pub SettleKeeps : {R F : Type 0} → Result R F → TailHeld S C → TailHeld S C → Type 0
  SettleKeeps (Ok done) before now =
      (now.marked ≡ false) × ((tried : List Block) → IsSoundTail tried before → Settles before now tried)
  SettleKeeps (Err fault) before now =
      (tried : List Block) → IsSoundTail tried before → KeepsSound before now tried tried
