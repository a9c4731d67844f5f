use Rattle.std.proofs.Common.{◌≡◌, drop}
use Rattle.access_rules.specs.ReadRules.{session_in}
use Rattle.ledger_model.specs.Script.{each}
use Rattle.access_rules.proofs.Each.{with_made}
use Rattle.access_rules.proofs.reading.sessions_of.Given as goal

-- what was read so far and what the rest is read as is what all are read as
abbrev pub invariant-sessions : goal.invariant-sessions
invariant-sessions l = with_made l.sessions (each session_in (drop l.member-index l.members)) ≡ each session_in l.members
