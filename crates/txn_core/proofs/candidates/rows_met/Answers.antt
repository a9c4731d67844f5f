use Rattle.txn_core.proofs.Planned.{rows_enough, rows_exact}
use Rattle.txn_core.proofs.candidates.rows_met.Goals as goal

pub returns-in_ok-rows-in-Exact : goal.returns-in_ok-rows-in-Exact
returns-in_ok-rows-in-Exact c =
    rows_exact c.args.views c.base.result.now c.args.params.now c.args.of.kind.now c.args.of.table c.args.items.now c.in_ok-plan.plan c.in-Exact.probe
    c.in_ok-rows-in-Exact.rows c.base.ensures c.in_ok-plan.ensures c.in_ok-rows-in-Exact.ensures c.in-Exact.is

pub returns-in_ok-kept-in-Enough : goal.returns-in_ok-kept-in-Enough
returns-in_ok-kept-in-Enough c =
    rows_enough c.args.views c.base.result.now c.args.params.now c.args.of.kind.now c.args.of.table c.args.items.now c.in_ok-plan.plan c.in-Enough.probe
    c.in_ok-rows-in-Enough.rows c.base.ensures c.in_ok-plan.ensures c.in_ok-rows-in-Enough.ensures c.in_ok-kept-in-Enough.kept c.in-Enough.is
    c.requires c.in_ok-kept-in-Enough.ensures
