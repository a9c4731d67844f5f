use Rattle.pql_model.proofs.ParsedDepths as parsed
use Rattle.pql_model.proofs.laws.parsed_is_shallow.Goals as goal

pub returns : goal.returns
returns c = parsed.parsed_is_shallow
