use Rattle.std.proofs.Common.{◌≡◌, ◌++◌, drop}
use Rattle.ledger_model.specs.Compaction.{compacted, compacted_from}
use Rattle.redact_tool.proofs.blocks.compact.Given as goal

-- the blocks so far and those of the rest are all
abbrev pub invariant-each : goal.invariant-each
invariant-each l = l.made.list ++ compacted_from l.all (drop l.at l.all) ≡ compacted l.all
