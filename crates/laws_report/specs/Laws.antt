-- What a report tells.
use Rattle.std.specs.Prelude.{◌≡◌, List}
use Rattle.std.specs.List.{All}
use Rattle.ledger_model.specs.declared.block.Block.{Block}
use Rattle.ledger_model.specs.declared.outcome.PlacedOutcome.{PlacedOutcome}
use Rattle.ledger_model.specs.Report.{report}
use Rattle.laws_report.specs.Writable.{IsWritable}

-- Reports of the same blocks that are one text are reports of the same outcomes, place by place.
abbrev pub ReportTellsOutcomes : Type 0
ReportTellsOutcomes =
    (blocks : List Block) (a b : List PlacedOutcome) → All IsWritable a → All IsWritable b →
    report blocks a ≡ report blocks b → a ≡ b
