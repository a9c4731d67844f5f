use Rattle.std.proofs.Common.{◌≡◌, drop}
use Rattle.ledger_model.specs.Script.{each}
use Rattle.ledger_model.specs.Values.{string_in}
use Rattle.access_rules.proofs.Each.{with_made}
use Rattle.access_rules.proofs.reading.tables_of.Given as goal

-- what was read so far and what the rest is read as is what all are read as
abbrev pub invariant-tables : goal.invariant-tables
invariant-tables l = with_made l.tables (each string_in (drop l.member-index l.members)) ≡ each string_in l.members
