use Rattle.std.proofs.Common.{◌-◌, ℕ, ◌∙◌, true, false, take, sym, ap, arith}
use Rattle.pql_expr.proofs.Literals.{back_step, back_stop}
use Rattle.pql_expr.proofs.patterns.back.Goals as goal

pub returns-then-text_left-eq0-clause-fits : goal.returns-then-text_left-eq0-clause-fits
returns-then-text_left-eq0-clause-fits c =
    c.characters.invariant.told
    ∙ back_stop c.args.pattern.now (take c.characters.text_left c.args.text.now) c.index-pattern-pattern_left.result c.characters.pattern_left
    (c.characters.pattern_left - 1) (omega arith) (omega arith) c.index-pattern-pattern_left.is (sym c.is_any_run.ensures ∙ c.if-is_any_run.false)
    (ap (λ (n : ℕ). take n c.args.text.now) c.if-text_left-eq0.true)

pub returns-then-not-takes-clause-fits : goal.returns-then-not-takes-clause-fits
returns-then-not-takes-clause-fits c =
    c.characters.invariant.told
    ∙ back_step c.args.pattern.now c.args.text.now c.index-pattern-pattern_left.result c.index-text-text_left.result c.characters.pattern_left
    (c.characters.pattern_left - 1) c.characters.text_left (c.characters.text_left - 1) false (omega arith) (omega arith) c.index-pattern-pattern_left.is
    (omega arith) (omega arith) c.index-text-text_left.is (sym c.is_any_run.ensures ∙ c.if-is_any_run.false) (sym c.takes.ensures ∙ c.if-not-takes.true)

pub characters-preserved : goal.characters-preserved
characters-preserved c = record {
  told =
      c.characters.invariant.told
      ∙ back_step c.args.pattern.now c.args.text.now c.index-pattern-pattern_left.result c.index-text-text_left.result c.characters.pattern_left
      (c.characters.pattern_left - 1) c.characters.text_left (c.characters.text_left - 1) true (omega arith) (omega arith) c.index-pattern-pattern_left.is
      (omega arith) (omega arith) c.index-text-text_left.is (sym c.is_any_run.ensures ∙ c.if-is_any_run.false) (sym c.takes.ensures ∙ c.if-not-takes.false);
  within = omega arith;
  short = omega arith;
}
