use Rattle.interleavings.proofs.Running.{SoFar}
use Rattle.interleavings.proofs.answer_on.Given as goal

abbrev pub invariant-events : goal.invariant-events
invariant-events l = SoFar l.initial.desk.tail l.values l.at l.initial.out l.out l.desk.tail l.desk.transactions.items
