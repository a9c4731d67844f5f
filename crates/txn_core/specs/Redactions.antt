-- The revision that a redaction names, as it is kept in memory.
use Rattle.ledger_model.specs.RedactionArguments.{RevisionName}
use Rattle.txn_core.specs.declared.redaction_arguments.RevisionName as held

abbrev pub name_of : held.RevisionName → RevisionName
name_of n = record { address = n.address; table = n.table; document = n.document }
