use Rattle.std.proofs.Common.{◌≡◌, ◌++◌, drop, map}
use Rattle.txn_core.proofs.Logged.{drafts_of}
use Rattle.txn_core.proofs.log.drafts_at.Given as goal

-- those so far and those at the places that are left are all
abbrev pub invariant-touched : goal.invariant-touched
invariant-touched l = map (λ d. d.now) l.all ++ drafts_of l.drafts (drop l.document-index l.touched) ≡ drafts_of l.drafts l.touched
