-- A run whose first transaction ran alone: it was over when each of the others began.
use Rattle.std.specs.Prelude.{List, [], ◌∷◌}
use Rattle.ledger_model.specs.declared.outcome.Outcome.{Outcome}
use Rattle.ledger_model.specs.declared.outcome.PlacedOutcome.{PlacedOutcome}
use Rattle.ledger_model.specs.Script.{Placed}
use Rattle.laws_history.specs.Claims.{RunsBefore}
use Rattle.laws_history.specs.Records.{RunRecord}

-- the transaction with this outcome was over when that of each of these jobs began
abbrev pub AllBehind : RunRecord → Outcome → List Placed → List PlacedOutcome → Type 0
AllBehind t first [] [] = Unit {0}
AllBehind t first (p ∷ ps) (o ∷ os) = RunsBefore t first p o.outcome × AllBehind t first ps os
AllBehind t first [] (o ∷ os) = ⊥
AllBehind t first (p ∷ ps) [] = ⊥

-- the first of these jobs ran so
abbrev pub RunsAlone : RunRecord → List Placed → List PlacedOutcome → Type 0
RunsAlone t (p ∷ ps) (o ∷ os) = AllBehind t o.outcome ps os
RunsAlone t [] os = ⊥
RunsAlone t (p ∷ ps) [] = ⊥

-- the first of the run's jobs ran so
abbrev pub FirstRanAlone : RunRecord → Type 0
FirstRanAlone t = RunsAlone t t.jobs t.outcomes
