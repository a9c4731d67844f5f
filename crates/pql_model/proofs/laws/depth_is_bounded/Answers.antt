use Rattle.pql_model.proofs.MeaningBound as bound
use Rattle.pql_model.proofs.laws.depth_is_bounded.Goals as goal

pub returns : goal.returns
returns c = bound.depth_is_bounded
