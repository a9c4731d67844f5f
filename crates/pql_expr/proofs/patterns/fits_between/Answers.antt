use Rattle.std.proofs.Common.{◌∙◌, sym, arith}
use Rattle.pql_expr.proofs.Literals.{fits_any, fits_no_pattern}
use Rattle.pql_expr.proofs.patterns.fits_between.Goals as goal

pub returns-in-empty : goal.returns-in-empty
returns-in-empty c = c.is_empty.ensures ∙ sym (fits_no_pattern c.args.pattern.now c.args.text.now (omega arith))

pub returns-in-len1 : goal.returns-in-len1
returns-in-len1 c =
    sym (fits_any c.args.pattern.now c.args.text.now c.only-item.result (omega arith) c.only-item.is (sym c.is_any_run.ensures ∙ c.if-is_any_run.true))
