use Rattle.std.proofs.Common.{[]}
use Rattle.journal_text.specs.Stands.{RedactionsStand}
use Rattle.journal_text.proofs.Asked.{SameFirst}
use Rattle.journal_text.proofs.registry.unasked.first.Given as goal

-- no block so far has such a hash
abbrev pub invariant-each : goal.invariant-each
invariant-each l = RedactionsStand l.blocks [] l.redactions → SameFirst l.blocks l.at
