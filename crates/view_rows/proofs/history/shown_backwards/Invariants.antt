use Rattle.std.proofs.Common.{◌≡◌, ◌≤◌, length, drop}
use Rattle.std.specs.Prelude.{reverse}
use Rattle.versions.specs.Held.{recorded_lent}
use Rattle.view_rows.specs.Shown.{AreNext, historic}
use Rattle.view_rows.proofs.history.shown_backwards.Given as goal

-- of the revisions behind those that are left, the moments at which the first one of each document began, and those that are shown
abbrev pub invariant-revisions : goal.invariant-revisions
invariant-revisions l = record {
  within : l.left ≤ length l.version.revisions;
  next : AreNext l.nexts (drop l.left l.version.revisions);
  shown : reverse (recorded_lent l.shown) ≡ historic l.table l.bounds.start.now l.bounds.end.now (drop l.left l.version.revisions);
}

abbrev pub decreases-revisions : goal.decreases-revisions
decreases-revisions l = l.left
