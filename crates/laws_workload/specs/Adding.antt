-- What the history of a made workload's run adds up to (the ledger's own).
use Rattle.std.specs.Prelude.{◌≡◌, ℕ, ◌+◌, ◌*◌, [], length}
use Rattle.laws_history.specs.Records.{RunRecord, FitsBlocks}
use Rattle.workload.specs.Laws.{made_total}
use Rattle.workload.specs.Made.{made_placed}
use Rattle.workload.specs.Sums.{summary}

-- Where the blocks are a history of the workload's transactions, one for each of them, behind none, the workload's
-- documents are counted and added up.
abbrev pub MadeRunsAddUp : Type 0
MadeRunsAddUp =
    (t : RunRecord) (seed sessions transactions : ℕ) → FitsBlocks t → t.before ≡ []
    → t.jobs ≡ made_placed seed sessions transactions → length t.after ≡ sessions * transactions + 1
    → summary t.after ≡ record {
      blocks = sessions * transactions + 1;
      documents = sessions * transactions;
      amounts = made_total seed sessions transactions;
    }
