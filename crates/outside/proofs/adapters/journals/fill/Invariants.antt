-- What was taken stands at the front of the piece, and what is left of it gets shorter.
use Rattle.std.proofs.Common.{◌≡◌, ◌-◌, ◌≤◌, length, take}
use Rattle.std.specs.Io.KnownBytes.{Consumes}
use Rattle.outside.proofs.adapters.journals.fill.Given as goal

abbrev pub invariant-pieces : goal.invariant-pieces
invariant-pieces g l = record {
  same_length : length l.out ≡ length l.initial.out;
  within : l.at ≤ length l.out;
  taken : Consumes (g.R.Read.remaining l.initial.reader) (g.R.Read.remaining l.reader) (take l.at l.out);
}

abbrev pub decreases-pieces : goal.decreases-pieces
decreases-pieces g l = length l.out - l.at
