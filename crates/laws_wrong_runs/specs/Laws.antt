-- What the claim of a run says of each block that it made and of each conflict that it tells (the ledger's own).
use Rattle.std.specs.Prelude.{◌≡◌, ℕ, ◌≤◌, length, take, slice_get, Some}
use Rattle.ql_types.specs.declared.TxId.{TxId}
use Rattle.ledger_model.specs.declared.block.Block.{Block}
use Rattle.ledger_model.specs.declared.outcome.Named.{Named}
use Rattle.ledger_model.specs.Legal.{Means}
use Rattle.ledger_model.specs.Script.{Placed}
use Rattle.ledger_model.specs.State.{state}
use Rattle.laws_footprint.specs.Conflicts.{IsFirst}
use Rattle.laws_history.specs.Claims.{IsInConflict}
use Rattle.laws_history.specs.Records.{RunRecord, FitsBlocks}

-- each block that the run made is what its own statements mean on the blocks before it: their answers and their changes
abbrev pub BlocksAreAnswered : Type 0
BlocksAreAnswered =
    (t : RunRecord) (k : ℕ) (b : Block) → FitsBlocks t → length t.before ≤ k → slice_get t.after k ≡ Some b
    → Means t.mask (state (take k t.after)) b

-- a conflict names a block that stands, the first one behind those on which the transaction ran that touches something
-- that it read, and the first thing of these that it touches
abbrev pub ConflictsAreFirst : Type 0
ConflictsAreFirst =
    (t : RunRecord) (p : Placed) (tx : TxId) (since : ℕ) (named : Named) (c : IsInConflict t p tx since named)
    → IsFirst t.after since c.progress.footprint named
