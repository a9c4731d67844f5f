use Rattle.std.proofs.Common.{◌-◌, ◌≤◌, length}
use Rattle.journal_text.specs.Shares.{AreReadIn}
use Rattle.journal_text.proofs.shares.read_lines.Given as goal

abbrev pub invariant-lines : goal.invariant-lines
invariant-lines l = record {
  within : l.at ≤ length l.piece;
  read : AreReadIn l.piece l.lines.items;
}

abbrev pub decreases-lines : goal.decreases-lines
decreases-lines l = length l.piece - l.at
