use Rattle.std.proofs.Common.{◌≡◌, ◌++◌, List, drop}
use Rattle.ledger_model.specs.declared.block.Block.{Block}
use Rattle.ledger_model.specs.Compaction as spec
use Rattle.redact_tool.specs.Redacting.{AreRedactions}
use Rattle.redact_tool.proofs.compacting.shown_revisions.Given as goal

-- the revisions so far and those of the rest are all
abbrev pub invariant-each : goal.invariant-each
invariant-each l = (blocks : List Block) → AreRedactions blocks l.redactions
    → l.shown ++ spec.shown_revisions blocks (drop l.at l.tables) (drop l.at l.revisions)
    ≡ spec.shown_revisions blocks l.tables l.revisions
