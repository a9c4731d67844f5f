use Rattle.std.proofs.Common.{◌≡◌, drop}
use Rattle.versions.specs.Redactions.{named_in}
use Rattle.versions.proofs.redactions.named_along.Given as goal

-- none of those so far is named
abbrev pub invariant-places : goal.invariant-places
invariant-places l = named_in l.change l.revisions (drop l.number l.places) ≡ named_in l.change l.revisions l.places
