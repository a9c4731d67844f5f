use Rattle.std.proofs.Common.{◌≡◌, take}
use Rattle.redact_tool.specs.Fronts.{redacting_front}
use Rattle.redact_tool.proofs.redactions.front.Given as goal

-- the front of the blocks so far
abbrev pub invariant-each : goal.invariant-each
invariant-each l = l.front ≡ redacting_front (take l.at l.blocks)
