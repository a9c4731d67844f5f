use Rattle.std.proofs.Common.{◌∙◌, arith}
use Rattle.pql_expr.proofs.Ends.{end_whole}
use Rattle.pql_expr.proofs.patterns.fits_by_ends.Goals as goal

pub returns : goal.returns
returns c =
    c.index.ensures ∙ end_whole c.args.pattern.now c.args.text.now c.pattern.at _ c.pattern.ends.items (omega arith) c.pattern.invariant.told
