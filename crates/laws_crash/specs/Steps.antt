-- The invariant over each step that a commit makes at its store, by the step's result.
use Rattle.std.specs.Prelude.{◌≡◌, ℕ, Bool, true, false, List, [], ◌∷◌, ◌++◌, length, take}
use Rattle.ledger_model.specs.declared.block.Block.{Block}
use Rattle.ledger_model.specs.Journal.{line, journal_bytes}
use Rattle.ledger_model.specs.Damages.{Undamaged}
use Rattle.ledger_model.specs.HashesAsked.{AreAsked}
use Rattle.ledger_model.specs.Recovered.{IsJournal}
use Rattle.outside.specs.Store.{Content, appended, cut_to, lowered, synced_whole}
use Rattle.laws_crash.specs.Pending.{NothingPending}
use Rattle.laws_crash.specs.Sound.{IsSound}

-- the length of the lines, to which the store is cut
abbrev pub size_of : List Block → ℕ
size_of blocks = length (journal_bytes blocks)

-- ---- at first

-- what a reload finds in a store of which nothing is pending
abbrev pub ReloadIsSound : Type 0
ReloadIsSound =
    (blocks : List Block) (rest : List ℕ) (marked : Bool) (c : Content) → NothingPending c →
    IsJournal c.bytes blocks rest
    → (marked ≡ false → rest ≡ []) → IsSound blocks [] marked c

-- ---- steps that change no more than the mark

-- a step that failed and left the content, and the mark that is set before a step
abbrev pub MarkKeeps : Type 0
MarkKeeps =
    (blocks tried : List Block) (marked : Bool) (c : Content) → IsSound blocks tried marked c →
    IsSound blocks tried true c

-- a further block that may have come to the store
abbrev pub TryKeeps : Type 0
TryKeeps =
    (blocks tried : List Block) (b : Block) (marked : Bool) (c : Content) → IsSound blocks tried marked c
    → IsSound blocks (tried ++ b ∷ []) marked c

-- ---- the cut and its sync

-- a cut that was made, whether or not it returned Ok
abbrev pub CutKeeps : Type 0
CutKeeps =
    (blocks tried : List Block) (marked : Bool) (c : Content) → IsSound blocks tried marked c
    → IsSound blocks tried true (cut_to c (size_of blocks))

-- a cut that failed and left the bytes
abbrev pub LoweredKeeps : Type 0
LoweredKeeps =
    (blocks tried : List Block) (marked : Bool) (c : Content) → IsSound blocks tried marked c
    → IsSound blocks tried true (lowered c (size_of blocks))

-- a sync alone
abbrev pub SyncKeeps : Type 0
SyncKeeps =
    (blocks tried : List Block) (marked : Bool) (c : Content) → IsSound blocks tried marked c
    → IsSound blocks tried true (synced_whole c)

-- a cut and then a sync, both Ok: the mark goes, and so does each block that may have come to the store
abbrev pub CutAndSyncSettles : Type 0
CutAndSyncSettles =
    (blocks tried : List Block) (marked : Bool) (c : Content) → IsSound blocks tried marked c
    → IsSound blocks [] false (synced_whole (cut_to c (size_of blocks)))

-- ---- the append and its sync

-- an append of the next block's line, of which a front part came to the store, perhaps none or all of it
abbrev pub AppendKeeps : Type 0
AppendKeeps =
    (blocks tried : List Block) (b : Block) (kept : ℕ) (c : Content) → IsSound blocks tried false c
    → Undamaged (blocks ++ b ∷ []) → AreAsked (blocks ++ b ∷ [])
    → IsSound blocks (tried ++ b ∷ []) true (appended c (take kept (line b)))

-- an append and then a sync, both Ok: the block stands after the others
abbrev pub AppendAndSyncSeals : Type 0
AppendAndSyncSeals =
    (blocks tried : List Block) (b : Block) (c : Content) → IsSound blocks tried false c
    → IsSound (blocks ++ b ∷ []) [] false (synced_whole (appended c (line b)))
