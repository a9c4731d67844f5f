use Rattle.std.proofs.Common.{◌+◌, ◌∙◌, true, false, drop, refl, sym, arith}
use Rattle.std.proofs.lemmas.List.{drop_all}
use Rattle.pql_expr.proofs.Literals.{front_step, front_stop}
use Rattle.pql_expr.proofs.patterns.front.Goals as goal

pub returns-then-at-text-clause-fits : goal.returns-then-at-text-clause-fits
returns-then-at-text-clause-fits c =
    c.characters.invariant.told
    ∙ front_stop c.args.pattern.now (drop c.characters.at c.args.text.now) c.index-pattern-at.result c.characters.at (omega arith) c.index-pattern-at.is
    (sym c.is_any_run.ensures ∙ c.if-is_any_run.false) (drop_all c.characters.at c.args.text.now (omega arith))

pub returns-then-not-takes-clause-fits : goal.returns-then-not-takes-clause-fits
returns-then-not-takes-clause-fits c =
    c.characters.invariant.told
    ∙ front_step c.args.pattern.now c.args.text.now c.index-pattern-at.result c.index-text-at.result c.characters.at (c.characters.at + 1) false refl
    (omega arith) c.index-pattern-at.is (omega arith) c.index-text-at.is (sym c.is_any_run.ensures ∙ c.if-is_any_run.false)
    (sym c.takes.ensures ∙ c.if-not-takes.true)

pub characters-preserved : goal.characters-preserved
characters-preserved c = record {
  told =
      c.characters.invariant.told
      ∙ front_step c.args.pattern.now c.args.text.now c.index-pattern-at.result c.index-text-at.result c.characters.at (c.characters.at + 1) true refl
      (omega arith) c.index-pattern-at.is (omega arith) c.index-text-at.is (sym c.is_any_run.ensures ∙ c.if-is_any_run.false)
      (sym c.takes.ensures ∙ c.if-not-takes.false);
  within = omega arith;
  short = omega arith;
}
