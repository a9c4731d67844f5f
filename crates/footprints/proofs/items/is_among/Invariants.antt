use Rattle.std.proofs.Common.{◌≡◌, drop}
use Rattle.std.specs.List.{list_any}
use Rattle.ledger_model.specs.Footprints.{same_document}
use Rattle.footprints.proofs.items.is_among.Given as goal

-- it is none of those passed
abbrev pub invariant-ids : goal.invariant-ids
invariant-ids l = list_any (same_document l.id) (drop l.other-index l.ids) ≡ list_any (same_document l.id) l.ids
