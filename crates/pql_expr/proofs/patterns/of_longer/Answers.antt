use Rattle.std.proofs.Common.{◌≡◌, ◌-◌, ◌∙◌, arith, length, drop}
use Rattle.pql_model.specs.Texts.{fits}
use Rattle.pql_expr.proofs.Ends.{end_is, first_end, next_end, told_first, told_next}
use Rattle.pql_expr.proofs.patterns.of_longer.Goals as goal

pub ends-init : goal.ends-init
ends-init c =
    let last : c.is_empty_run-fits.result ≡ fits c.args.pattern.now (drop (length c.args.text.now) c.args.text.now) = c.is_empty_run-fits.ensures ∙ first_end c.args.pattern.now c.args.text.now c.index-pattern-0.result c.args.shorter.now _ c.requires.some c.index-pattern-0.is c.requires.known in
    record {
      told = rw (c.in_ok-push.ensures.items, c.clear.ensures.items) (told_first (fits c.args.pattern.now) c.args.text.now c.is_empty_run-fits.result last);
      last = last;
      within = omega arith;
      room = omega (arith, c.in_ok-push.ensures.len);
    }

pub ends-preserved : goal.ends-preserved
ends-preserved c =
    let end = end_is c.args.text.now c.index-text-at.result (c.ends.at - 1) c.ends.at (omega arith) (omega arith) c.index-text-at.is in
    let last : c.is_longer-fits.result ≡ fits c.args.pattern.now (drop (c.ends.at - 1) c.args.text.now) = c.is_longer-fits.ensures ∙ next_end c.args.pattern.now c.args.text.now c.index-pattern-0.result c.index-text-at.result (c.ends.at - 1) c.ends.at _ _ c.args.shorter.now c.ends.fits _ _ c.requires.some c.index-pattern-0.is (omega arith) (omega arith) c.index-text-at.is (omega arith) (omega arith) c.requires.known c.ends.invariant.last in
    record {
      told = rw (c.in_ok-push-2.ensures.items, c.ends.invariant.told) (told_next (fits c.args.pattern.now) _ (drop c.ends.at c.args.text.now) c.index-text-at.result c.is_longer-fits.result end last);
      last = last;
      within = omega arith;
      room = omega (arith, c.in_ok-push-2.ensures.len);
    }
