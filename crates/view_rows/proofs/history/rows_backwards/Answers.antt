use Rattle.view_rows.proofs.Shown.{row_more, rows_end}
use Rattle.view_rows.proofs.history.rows_backwards.Goals as goal

pub shown-preserved : goal.shown-preserved
shown-preserved c =
    row_more c.args.probe.now c.shown.rows c.push_row.new.rows _ c.in-Some.recorded c.shown.shown c.pop.new.self c.in-Some.ensures c.in_ok-push_row.ensures c.shown.invariant

pub returns : goal.returns
returns c = rows_end c.args.probe.now c.shown.rows _ c.shown.shown c.in_default.ensures.0 c.shown.invariant
