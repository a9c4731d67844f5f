use Rattle.pql_change.proofs.OneRoot as one_root
use Rattle.pql_change.proofs.laws.one_document_is_applied.Goals as goal

pub returns : goal.returns
returns c = one_root.one_document_is_applied
