use Rattle.std.proofs.Common.{◌≡◌, take}
use Rattle.versions.specs.Held.{drafts_lent}
use Rattle.view_rows.specs.Seen.{drafts_seen}
use Rattle.view_rows.proofs.seen.all_committed.Given as goal

abbrev pub invariant-recorded : goal.invariant-recorded
invariant-recorded l = drafts_seen l.new ≡ drafts_lent (take l.one-index l.recorded)
