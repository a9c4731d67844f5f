use Rattle.std.proofs.Common.{◌≡◌, ◌++◌, drop}
use Rattle.txn_core.proofs.log.copied.Given as goal

-- the documents so far and the rest are all
abbrev pub invariant-touched : goal.invariant-touched
invariant-touched l = l.new ++ drop l.document-index l.touched ≡ l.touched
