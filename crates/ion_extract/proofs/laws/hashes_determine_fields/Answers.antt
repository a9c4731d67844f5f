use Rattle.ion_extract.proofs.Structs.{hashes_determine_fields}
use Rattle.ion_extract.proofs.laws.hashes_determine_fields.Goals as goal

pub returns : goal.returns
returns c = hashes_determine_fields
