-- What a run leaves whose store took the block of a commit and refused it: that block stands behind those of the run,
-- and all of them are still blocks of its jobs (the ledger's own).
use Rattle.std.specs.Prelude.{◌≡◌, ℕ, List, [], ◌∷◌, ◌++◌, length, drop, fold, Option, Some, None, Contains}
use Rattle.std.specs.List.{AllByRecursion}
use Rattle.ledger_model.specs.declared.block.Block.{Block}
use Rattle.ledger_model.specs.Damages.{Undamaged}
use Rattle.laws_history.specs.Records.{RunRecord, FitsBlocks, HasTime}
use Rattle.turn_lock.specs.declared.view.Known.{Known}
use Rattle.laws_machine.specs.Entries.{Entry, begun_at, failed, sealed, wanted}
use Rattle.laws_history.specs.Claims.{IsOfOwnDigest}
use Rattle.laws_history.specs.Runs.{IsRunBy, Served}

-- the blocks with which commits came to the store behind the last one that was sealed
abbrev pub tried_behind : List Block → Entry → List Block
tried_behind bs (begun_at place number since) = bs
tried_behind bs (sealed number block) = []
tried_behind bs (failed number count block) = bs ++ block ∷ []
tried_behind bs (wanted number None) = bs
tried_behind bs (wanted number (Some block)) = bs ++ block ∷ []

abbrev pub tried_in : List Entry → List Block
tried_in es = fold tried_behind [] es

-- the blocks of the run, with this one behind them
abbrev pub left_with : RunRecord → Block → RunRecord
left_with t b = record t { after = t.after ++ b ∷ [] }

-- With such a block behind them, where it is undamaged there and has a time of the run, the blocks are a history of the
-- script's jobs, and the digests that these give are those of the blocks' transactions.
abbrev pub TriedFit : Type 0
TriedFit =
    (t : RunRecord) (ss : List Served) (entries : List Entry) (pass_of : ℕ → Known Entry) (b : Block)
    → IsRunBy t ss entries pass_of → Contains (tried_in entries) b → Undamaged (t.after ++ b ∷ [])
    → HasTime t.times t.after b
    → FitsBlocks (left_with t b)
    × AllByRecursion (IsOfOwnDigest t.jobs) (drop (length t.before) (t.after ++ b ∷ []))
