use Rattle.ion_extract.proofs.Frames.{frame_is_injective}
use Rattle.ion_extract.proofs.laws.frame_is_injective.Goals as goal

pub returns : goal.returns
returns c = frame_is_injective
