use Rattle.ion_extract.proofs.Levels.{bytes_determine_bodies}
use Rattle.ion_extract.proofs.laws.bytes_determine_bodies.Goals as goal

pub returns : goal.returns
returns c = bytes_determine_bodies
