use Rattle.std.proofs.Common.{◌≡◌, None}
use Rattle.test_journal.proofs.journals.fed.Given as goal

abbrev pub invariant-pieces : goal.invariant-pieces
invariant-pieces l = l.reader.damaged ≡ None
