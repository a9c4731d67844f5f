use Rattle.std.proofs.Common.{◌≡◌, ◌≤◌, ◌-◌, length}
use Rattle.std.specs.Io.KnownBytes.{Consumes}
use Rattle.ledger_cli.proofs.input.read_all.Given as goal

-- what was read so far was taken
abbrev pub invariant-pieces : goal.invariant-pieces
invariant-pieces g l = record {
  few : length l.all.items ≤ 16777217;
  fine : (g.So.Source.told l.source).faults ≡ (g.So.Source.told l.initial.source).faults;
  so_far : Consumes (g.So.Source.told l.initial.source).left (g.So.Source.told l.source).left l.all.items;
}

abbrev pub decreases-pieces : goal.decreases-pieces
decreases-pieces g l = 16777217 - length l.all.items
