use Rattle.std.proofs.Common.{◌≡◌, take}
use Rattle.versions.specs.Redactions.{changed_along}
use Rattle.versions.proofs.redactions.changed_along.Given as goal

-- the places so far are changed
abbrev pub invariant-places : goal.invariant-places
invariant-places l = l.new ≡ changed_along l.change (take l.number l.places) l.revisions
