use Rattle.std.proofs.Common.{◌-◌, arith}
use Rattle.pql_expr.proofs.Ends.{no_pattern_first, no_pattern_next}
use Rattle.pql_expr.proofs.patterns.of_no_pattern.Goals as goal

pub ends-init : goal.ends-init
ends-init c = record {
  told = rw (c.in_ok-push.ensures.items, c.new-ends.ensures.items) (no_pattern_first c.args.text.now);
  within = omega arith;
  room = omega (arith, c.in_ok-push.ensures.len);
}

pub ends-preserved : goal.ends-preserved
ends-preserved c = record {
  told = rw (c.in_ok-push-2.ensures.items, c.ends.invariant.told) (no_pattern_next c.args.text.now (c.ends.at - 1) c.ends.at (omega arith) (omega arith));
  within = omega arith;
  room = omega (arith, c.in_ok-push-2.ensures.len);
}
