use Rattle.std.proofs.Common.{◌≡◌, drop}
use Rattle.std.specs.List.{list_all}
use Rattle.laws_validity.specs.Makes.{draft_within}
use Rattle.txn_core.proofs.ranges.drafts_are_within.Given as goal

-- those in front are within
abbrev pub invariant-drafts : goal.invariant-drafts
invariant-drafts l = list_all draft_within (drop l.draft-index l.drafts) ≡ list_all draft_within l.drafts
