use Rattle.ion_extract.proofs.Frames.{serialize_is_prefix_free}
use Rattle.ion_extract.proofs.laws.serialize_is_prefix_free.Goals as goal

pub returns : goal.returns
returns c = serialize_is_prefix_free
