use Rattle.std.proofs.Common.{◌≡◌, drop}
use Rattle.access_rules.specs.ReadRules.{action_in}
use Rattle.ledger_model.specs.Script.{each}
use Rattle.access_rules.proofs.Each.{with_made}
use Rattle.access_rules.proofs.reading.actions_of.Given as goal

-- what was read so far and what the rest is read as is what all are read as
abbrev pub invariant-actions : goal.invariant-actions
invariant-actions l = with_made l.actions (each action_in (drop l.member-index l.members)) ≡ each action_in l.members
