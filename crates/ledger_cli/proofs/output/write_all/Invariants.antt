use Rattle.std.proofs.Common.{◌≡◌, length, take, ◌-◌, ◌≤◌}
use Rattle.std.specs.Io.KnownBytes.{Appends}
use Rattle.ledger_cli.proofs.output.write_all.Given as goal

-- the text in front of `at` was written
abbrev pub invariant-pieces : goal.invariant-pieces
invariant-pieces g l = record {
  within : l.at ≤ length l.text;
  fine : (g.Si.Sink.told l.sink).faults ≡ (g.Si.Sink.told l.initial.sink).faults;
  so_far : Appends (g.Si.Sink.told l.initial.sink).written (g.Si.Sink.told l.sink).written (take l.at l.text);
}

abbrev pub decreases-pieces : goal.decreases-pieces
decreases-pieces g l = length l.text - l.at
