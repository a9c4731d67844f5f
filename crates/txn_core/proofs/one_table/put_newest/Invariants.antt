use Rattle.std.proofs.Common.{take, map}
use Rattle.ledger_model.specs.Views.{latest_from}
use Rattle.txn_core.specs.Layered.{IsPass, standing}
use Rattle.txn_core.proofs.one_table.put_newest.Given as goal

-- the documents under those put so far
abbrev pub invariant-newest : goal.invariant-newest
invariant-newest l =
    IsPass l.table l.base l.pass (latest_from (standing l.base) (map (λ d. d.now) (take l.draft-index l.newest)))
