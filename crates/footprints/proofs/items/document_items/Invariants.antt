use Rattle.std.proofs.Common.{◌≡◌, map}
use Rattle.ledger_model.specs.declared.outcome.Item.TheVariants as item
use Rattle.footprints.proofs.items.document_items.Given as goal

-- the items of the ids so far
abbrev pub invariant-ids : goal.invariant-ids
invariant-ids l = l.items ≡ map (item.Doc l.table) l.yielded
