use Rattle.std.proofs.Common.{take}
use Rattle.redact_tool.specs.Redacting.{Takes}
use Rattle.redact_tool.proofs.redactions.Redactions.take.Given as goal

-- the redactions of the changes so far
abbrev pub invariant-changes : goal.invariant-changes
invariant-changes l = Takes l.initial.self (take l.change-index l.schema) l.self
