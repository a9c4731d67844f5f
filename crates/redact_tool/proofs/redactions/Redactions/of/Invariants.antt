use Rattle.std.proofs.Common.{take}
use Rattle.redact_tool.specs.Redacting.{AreRedactions}
use Rattle.redact_tool.proofs.redactions.Redactions.of.Given as goal

-- the redactions of the blocks so far
abbrev pub invariant-each : goal.invariant-each
invariant-each l = AreRedactions (take l.block-index l.blocks) l.redactions
