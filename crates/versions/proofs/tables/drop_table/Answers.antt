use Rattle.versions.proofs.Mapped.{mapped-more, left-more}
use Rattle.ledger_model.specs.State.{dropped}
use Rattle.versions.specs.Held.{table_of}
use Rattle.std.proofs.Common.{◌<◌, length, arith, ap, sym, ◌∙◌}
use Rattle.versions.proofs.tables.drop_table.Goals as goal

pub loop-table-preserved : goal.loop-table-preserved
loop-table-preserved c =
    let at = c.loop-table.table-index in
    let within : at < length c.loop-table.tables = omega arith in
    record {
      done = mapped-more table_of (dropped c.args.id) c.loop-table.tables c.args.tables.now at c.table-item.result c.drop_if.new.table within c.table-item.is
          (c.drop_if.ensures ∙ ap (λ t. dropped c.args.id (table_of t)) (sym c.table-item.is)) c.loop-table.invariant.done c.loop-table.invariant.left;
      left = left-more c.loop-table.tables c.args.tables.now at c.drop_if.new.table within c.loop-table.invariant.left;
    }
