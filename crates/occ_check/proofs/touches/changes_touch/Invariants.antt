use Rattle.std.proofs.Common.{◌≡◌, drop}
use Rattle.std.specs.List.{list_any}
use Rattle.occ_check.specs.Behind.{change_touches}
use Rattle.occ_check.proofs.touches.changes_touch.Given as goal

-- none of the changes passed touches the item
abbrev pub invariant-changes : goal.invariant-changes
invariant-changes l =
    list_any (change_touches l.now.tables l.item) (drop l.change-index l.changes) ≡ list_any (change_touches l.now.tables l.item) l.changes
