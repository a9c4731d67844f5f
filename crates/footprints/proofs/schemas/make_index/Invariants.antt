use Rattle.std.proofs.Common.{◌≡◌, drop}
use Rattle.std.specs.List.{list_any}
use Rattle.footprints.specs.Lent.{makes_index}
use Rattle.footprints.proofs.schemas.make_index.Given as goal

-- none of the changes passed makes it
abbrev pub invariant-changes : goal.invariant-changes
invariant-changes l = list_any (makes_index l.table l.field) (drop l.change-index l.changes) ≡ list_any (makes_index l.table l.field) l.changes
