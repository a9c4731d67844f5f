use Rattle.std.proofs.Common.{◌≡◌}
use Rattle.std.specs.List.{filter}
use Rattle.ledger_model.specs.Meets.{shows_one}
use Rattle.txn_core.proofs.candidates.met.Given as goal

-- of the rows so far those that meet one
abbrev pub invariant-rows : goal.invariant-rows
invariant-rows l = l.met ≡ filter (shows_one l.of.kind.now l.of.table l.items) l.yielded
