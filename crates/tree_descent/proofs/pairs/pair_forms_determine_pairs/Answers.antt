use Rattle.tree_descent.proofs.OnePair.{pair_forms_determine_pairs}
use Rattle.tree_descent.proofs.pairs.pair_forms_determine_pairs.Goals as goal

pub returns : goal.returns
returns c = pair_forms_determine_pairs
