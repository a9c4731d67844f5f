use Rattle.std.proofs.Common.{◌≡◌, ◌+◌, take}
use Rattle.txn_core.proofs.Logged.{AreAfter}
use Rattle.txn_core.proofs.log.touched_after.Given as goal

-- the documents after the revisions so far, and the place of the next one
abbrev pub invariant-more : goal.invariant-more
invariant-more l = (l.place ≡ l.count + l.draft-index) × AreAfter l.count l.touched (take l.draft-index l.more) l.new
