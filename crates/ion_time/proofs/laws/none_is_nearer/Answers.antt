use Rattle.ion_time.proofs.Bounds.{nearest_within, nearest_near}
use Rattle.ion_time.proofs.laws.none_is_nearer.Goals as goal

pub returns : goal.returns
returns c = λ ms. (nearest_within ms, nearest_near ms)
