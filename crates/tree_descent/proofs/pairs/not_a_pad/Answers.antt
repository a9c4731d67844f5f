use Rattle.tree_descent.proofs.Stops.{not_pad}
use Rattle.tree_descent.proofs.pairs.not_a_pad.Goals as goal

pub returns-in-Ok : goal.returns-in-Ok
returns-in-Ok c = not_pad c.args.form c.in-Ok.pad c.in-Ok.ensures c.requires.hash c.requires.long
