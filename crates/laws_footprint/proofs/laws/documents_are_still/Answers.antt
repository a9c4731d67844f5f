use Rattle.laws_footprint.proofs.StillDocuments.{documents_are_still}
use Rattle.laws_footprint.proofs.laws.documents_are_still.Goals as goal

pub returns : goal.returns
returns c = documents_are_still
