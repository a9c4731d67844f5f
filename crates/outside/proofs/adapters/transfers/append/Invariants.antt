-- What was taken is the front of the piece, and what is left of it gets shorter.
use Rattle.std.proofs.Common.{◌-◌, ◌≤◌, length, take}
use Rattle.std.specs.Io.KnownBytes.{Appends}
use Rattle.outside.proofs.adapters.transfers.append.Given as goal

abbrev pub invariant-pieces : goal.invariant-pieces
invariant-pieces g l = record {
  within : l.at ≤ length l.piece;
  taken : Appends (g.W.Write.contents l.initial.writer) (g.W.Write.contents l.writer) (take l.at l.piece);
}

abbrev pub decreases-pieces : goal.decreases-pieces
decreases-pieces g l = length l.piece - l.at
