use Rattle.ion_extract.proofs.Frames.{escape_is_injective}
use Rattle.ion_extract.proofs.laws.escape_is_injective.Goals as goal

pub returns : goal.returns
returns c = escape_is_injective
