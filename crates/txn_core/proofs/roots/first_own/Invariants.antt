use Rattle.std.proofs.Common.{◌≡◌, drop}
use Rattle.ledger_model.specs.Writing.{first_own}
use Rattle.txn_core.specs.Writes.{writes}
use Rattle.txn_core.proofs.roots.first_own.Given as goal

-- those in front aren't the ledger's own, or aren't written
abbrev pub invariant-sources : goal.invariant-sources
invariant-sources l = first_own (writes l.written) l.place (drop l.place l.sources) ≡ first_own (writes l.written) 0 l.sources
