use Rattle.std.proofs.Common.{◌≡◌, ◌++◌, drop}
use Rattle.txn_core.proofs.narrow.copied.Given as goal

-- the ids so far and the rest are all
abbrev pub invariant-ids : goal.invariant-ids
invariant-ids l = l.new ++ drop l.id-index l.ids ≡ l.ids
