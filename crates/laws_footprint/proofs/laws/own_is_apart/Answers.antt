use Rattle.laws_footprint.proofs.Owning.{own_is_apart}
use Rattle.laws_footprint.proofs.laws.own_is_apart.Goals as goal

pub returns : goal.returns
returns c = own_is_apart
