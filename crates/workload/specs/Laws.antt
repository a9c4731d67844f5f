-- What a history of the documents of a made workload adds up to.
use Rattle.std.specs.Prelude.{◌≡◌, ℕ, ◌*◌, List, map, flat_map, length, sum_by, IsPermutation}
use Rattle.std.specs.List.{range_with_len}
use Rattle.ion_values.specs.declared.value.Value.{Value}
use Rattle.pql_model.specs.declared.tables.Row.{Row}
use Rattle.ledger_model.specs.declared.block.Block.{Block}
use Rattle.ledger_model.specs.State.{state}
use Rattle.workload.specs.Made.{made_amount, made_document}
use Rattle.workload.specs.Sums.{made_rows, summary}

-- the documents that the transactions of a session insert
abbrev pub session_documents : ℕ → ℕ → ℕ → List Value
session_documents seed transactions session =
    map (λ t. made_document session t (made_amount seed session t)) (range_with_len 1 transactions)

-- those of all sessions
abbrev pub made_documents : ℕ → ℕ → ℕ → List Value
made_documents seed sessions transactions = flat_map (session_documents seed transactions) (range_with_len 1 sessions)

-- the sum of the amounts of a session
abbrev pub session_total : ℕ → ℕ → ℕ → ℕ
session_total seed transactions session = sum_by (made_amount seed session) (range_with_len 1 transactions)

-- the sum of all amounts
abbrev pub made_total : ℕ → ℕ → ℕ → ℕ
made_total seed sessions transactions = sum_by (session_total seed transactions) (range_with_len 1 sessions)

abbrev pub values_of : List Row → List Value
values_of rows = map (λ row. row.value) rows

-- where the documents of the table are those of the workload, in any order, they are counted and added up
abbrev pub MadeHistoriesAddUp : Type 0
MadeHistoriesAddUp = (seed sessions transactions : ℕ) (blocks : List Block)
    → IsPermutation (made_documents seed sessions transactions) (values_of (made_rows (state blocks)))
    → summary blocks ≡ record {
      blocks = length blocks;
      documents = sessions * transactions;
      amounts = made_total seed sessions transactions;
    }
