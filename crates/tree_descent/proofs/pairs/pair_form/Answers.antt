use Rattle.std.proofs.Common.{◌∙◌, length, ap}
use Rattle.tree_descent.proofs.OnePair.{length-pair_form}
use Rattle.tree_descent.proofs.pairs.pair_form.Goals as goal

pub returns-clause-long : goal.returns-clause-long
returns-clause-long c =
    ap length c.in_ok-form.ensures
    ∙ length-pair_form c.args.a.now c.args.b.now c.hash_is_long.ensures c.hash_is_long-2.ensures
