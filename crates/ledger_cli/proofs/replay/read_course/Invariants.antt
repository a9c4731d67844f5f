use Rattle.std.proofs.Common.{◌≡◌, ◌≤◌, ◌-◌, ℕ, List, length}
use Rattle.std.specs.Io.KnownBytes.{Consumes}
use Rattle.ledger_cli.specs.Replaying.{Reads}
use Rattle.ledger_cli.proofs.replay.read_course.Given as goal

-- what was taken so far was read
abbrev pub invariant-pieces : goal.invariant-pieces
invariant-pieces g l = record {
  few : l.read ≤ 16777217;
  fine : (g.So.Source.told l.source).faults ≡ (g.So.Source.told l.initial.source).faults;
  so_far : (input : List ℕ) × Consumes (g.So.Source.told l.initial.source).left (g.So.Source.told l.source).left input
      × (length input ≡ l.read) × Reads input l.reading;
}

abbrev pub decreases-pieces : goal.decreases-pieces
decreases-pieces g l = 16777217 - l.read
