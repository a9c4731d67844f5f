use Rattle.std.proofs.Common.{sym, ◌∙◌}
use Rattle.std.specs.List.{filter_map}
use Rattle.ion_order.specs.Key.{key_of}
use Rattle.ion_values.specs.Keys.{is_same_key}
use Rattle.ledger_model.specs.declared.outcome.Item.TheVariants as item
use Rattle.ledger_model.specs.Footprints.{each_once}
use Rattle.footprints.specs.Lent.{values_lent}
use Rattle.footprints.proofs.Once.{mapped_none, mapped_some}
use Rattle.footprints.proofs.items.few_of_keys.Goals as goal

pub returns-in_default : goal.returns-in_default
returns-in_default c =
    mapped_none (item.IndexValue c.args.table c.args.field.now) (each_once is_same_key (filter_map key_of (values_lent c.args.values.now)))
    (sym c.in_default.is ∙ c.in_ok-keys.ensures)

pub returns : goal.returns
returns c =
    mapped_some (item.IndexValue c.args.table c.args.field.now) (each_once is_same_key (filter_map key_of (values_lent c.args.values.now))) c.in-Some.keys
    c.in_ok-items.items (sym c.in-Some.is ∙ c.in_ok-keys.ensures) c.in_ok-items.ensures
