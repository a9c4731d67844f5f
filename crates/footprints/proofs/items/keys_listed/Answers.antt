use Rattle.std.proofs.Common.{sym, ◌∙◌}
use Rattle.footprints.proofs.Once.{keys_listed, no_keys_listed}
use Rattle.footprints.proofs.items.keys_listed.Goals as goal

pub returns-then-are_many : goal.returns-then-are_many
returns-then-are_many c = no_keys_listed c.args.table c.args.field.now c.args.values.now (sym c.are_many.ensures ∙ c.if-are_many.true)

pub returns : goal.returns
returns c =
    keys_listed c.args.table c.args.field.now c.args.values.now c.in_ok-items.items (sym c.are_many.ensures ∙ c.if-are_many.false) c.in_ok-items.ensures
