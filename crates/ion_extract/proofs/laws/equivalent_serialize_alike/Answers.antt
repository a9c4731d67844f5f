use Rattle.ion_extract.proofs.Structs.{equivalent_serialize_alike}
use Rattle.ion_extract.proofs.laws.equivalent_serialize_alike.Goals as goal

pub returns : goal.returns
returns c = equivalent_serialize_alike
