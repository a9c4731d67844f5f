use Rattle.std.proofs.Common.{◌≡◌, map}
use Rattle.ledger_model.specs.declared.outcome.Item.TheVariants as item
use Rattle.footprints.proofs.items.key_items.Given as goal

-- the items of the keys so far
abbrev pub invariant-keys : goal.invariant-keys
invariant-keys l = l.items ≡ map (item.IndexValue l.table l.field) l.yielded
