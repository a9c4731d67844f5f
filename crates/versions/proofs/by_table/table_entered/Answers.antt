use Rattle.std.proofs.Common.{◌∙◌}
use Rattle.std.specs.Arc.{arc_value}
use Rattle.versions.proofs.TablesHeld.{entered}
use Rattle.versions.proofs.by_table.table_entered.Goals as goal

pub returns : goal.returns
returns c =
    entered c.args.tables.now c.in_ok-new.new c.in_ok-key.key.value c.args.table c.in_ok-had.had.value (arc_value c.args.place) c.in_ok-new.ensures
    c.in_ok-key.ensures.ok (c.in_ok-had.ensures.ok ∙ c.in_ok-places.ensures)
