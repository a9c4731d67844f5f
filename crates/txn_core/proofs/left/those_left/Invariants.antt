use Rattle.std.proofs.Common.{◌≡◌, map, take}
use Rattle.std.specs.List.{filter}
use Rattle.ledger_model.specs.Run.{is_left}
use Rattle.txn_core.proofs.left.those_left.Given as goal

abbrev pub invariant-newest : goal.invariant-newest
invariant-newest l = map (λ d. d.now) l.left ≡ filter is_left (map (λ d. d.now) (take l.draft-index l.newest))
