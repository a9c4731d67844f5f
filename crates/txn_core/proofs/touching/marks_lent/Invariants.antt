use Rattle.std.proofs.Common.{◌≡◌, take, map}
use Rattle.txn_core.specs.Writes.{marks_of}
use Rattle.txn_core.proofs.touching.marks_lent.Given as goal

abbrev pub invariant-drafts : goal.invariant-drafts
invariant-drafts l = l.marks.entries ≡ marks_of (take l.draft-index (map (λ d. d.now) l.newest))
