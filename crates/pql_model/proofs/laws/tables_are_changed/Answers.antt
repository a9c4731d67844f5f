use Rattle.pql_model.proofs.ParsedTargets as parsed
use Rattle.pql_model.proofs.laws.tables_are_changed.Goals as goal

pub returns : goal.returns
returns c = parsed.tables_are_changed
