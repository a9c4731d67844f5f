-- The outcome of a job's transaction, by how its commit ended.
use Rattle.std.specs.Prelude.{ℕ, Result, Ok, Err}
use Rattle.ql_types.specs.declared.TxId.{TxId}
use Rattle.ledger_model.specs.declared.outcome.Outcome.{Outcome}
use Rattle.ledger_model.specs.declared.outcome.Outcome.TheVariants as outcome
use Rattle.ledger_core.specs.declared.appending.Receipt.{Receipt}
use Rattle.ledger_core.specs.declared.commit.CommitFault.{CommitFault}
use Rattle.ledger_core.specs.declared.commit.CommitFault.TheVariants.{EndedTxn, DigestDiffers, Conflict, JournalFull, StoreFault, OutOfMemory}

-- a transaction of which a statement was refused isn't committed
abbrev pub outcome_of : TxId → ℕ → Result Receipt CommitFault → Outcome
outcome_of tx since (Ok receipt) = outcome.Committed tx receipt.block
outcome_of tx since (Err (DigestDiffers mine given)) = outcome.DigestDiffers tx since mine given
outcome_of tx since (Err (Conflict from named)) = outcome.Conflict tx from named
outcome_of tx since (Err (JournalFull blocks)) = outcome.JournalFull tx blocks
outcome_of tx since (Err (StoreFault count)) = outcome.StoreFault tx count
outcome_of tx since (Err EndedTxn) = outcome.OutOfMemory
outcome_of tx since (Err OutOfMemory) = outcome.OutOfMemory
