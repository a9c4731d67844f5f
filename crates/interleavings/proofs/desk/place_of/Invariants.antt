use Rattle.interleavings.proofs.Places.{LooksOn}
use Rattle.interleavings.proofs.desk.place_of.Given as goal

abbrev pub invariant-txns : goal.invariant-txns
invariant-txns l = LooksOn l.name l.at l.list
