use Rattle.std.proofs.Common.{◌≡◌, drop}
use Rattle.pql_model.specs.declared.mark.Mark.{Mark}
use Rattle.pql_model.specs.Rules.{first_fault, mixed}
use Rattle.pql_parse.proofs.rules.aggregates.first_mixed.Given as goal

-- no mark before has a fault
abbrev pub invariant-marks : goal.invariant-marks
invariant-marks l = first_fault (λ (m : Mark). mixed l.grouped m.place m.role) (drop l.mark-index l.marks) ≡ first_fault (λ (m : Mark). mixed l.grouped m.place m.role) l.marks
