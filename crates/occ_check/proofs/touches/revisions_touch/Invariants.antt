use Rattle.std.proofs.Common.{◌≡◌, drop}
use Rattle.std.specs.List.{list_any}
use Rattle.ledger_model.specs.State.{recorded_in}
use Rattle.occ_check.specs.Behind.{revision_touches}
use Rattle.occ_check.proofs.touches.revisions_touch.Given as goal

-- none of the revisions passed touches the item
abbrev pub invariant-revisions : goal.invariant-revisions
invariant-revisions l =
    list_any (revision_touches l.journal.blocks.now l.journal.now.now l.item) (recorded_in (drop l.at l.tables) (drop l.at l.revisions))
    ≡ list_any (revision_touches l.journal.blocks.now l.journal.now.now l.item) (recorded_in l.tables l.revisions)
