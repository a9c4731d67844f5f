use Rattle.std.proofs.Common.{◌≡◌, drop}
use Rattle.access_rules.specs.ReadRules.{rule_in}
use Rattle.ledger_model.specs.Script.{each}
use Rattle.access_rules.proofs.Each.{with_made}
use Rattle.access_rules.proofs.reading.rules_of.Given as goal

-- what was read so far and what the rest is read as is what all are read as
abbrev pub invariant-rules : goal.invariant-rules
invariant-rules l = with_made l.rules (each rule_in (drop l.member-index l.members)) ≡ each rule_in l.members
