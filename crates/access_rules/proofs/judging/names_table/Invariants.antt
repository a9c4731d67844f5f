use Rattle.std.proofs.Common.{◌≡◌, drop}
use Rattle.access_rules.specs.Permission.{names_table}
use Rattle.access_rules.proofs.judging.names_table.Given as goal

-- those in front are others
abbrev pub invariant-tables : goal.invariant-tables
invariant-tables l = names_table (drop l.other-index l.named) l.table ≡ names_table l.named l.table
