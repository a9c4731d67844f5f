use Rattle.std.proofs.Common.{◌≡◌, take}
use Rattle.std.specs.List.{flat_map}
use Rattle.ledger_model.specs.Report.{outcome_line}
use Rattle.script_form.proofs.reports.report.Given as goal

abbrev pub invariant-outcomes : goal.invariant-outcomes
invariant-outcomes l = l.out ≡ flat_map (outcome_line l.blocks.list) (take l.outcome-index l.outcome-items)
