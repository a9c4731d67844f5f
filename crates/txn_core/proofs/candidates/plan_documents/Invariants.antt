use Rattle.std.proofs.Common.{◌≡◌, map, take}
use Rattle.ledger_model.specs.declared.outcome.Item.TheVariants as item
use Rattle.txn_core.proofs.candidates.plan_documents.Given as goal

-- the items so far name these documents
abbrev pub invariant-items : goal.invariant-items
invariant-items l = take l.item-index l.items ≡ map (item.Doc l.of.table) l.ids
