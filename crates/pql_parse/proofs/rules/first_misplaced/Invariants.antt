use Rattle.std.proofs.Common.{◌≡◌, drop}
use Rattle.pql_model.specs.declared.mark.Mark.{Mark}
use Rattle.pql_model.specs.Rules.{first_fault, judged}
use Rattle.pql_parse.proofs.rules.first_misplaced.Given as goal

-- no mark before has a fault
abbrev pub invariant-marks : goal.invariant-marks
invariant-marks l = first_fault (λ (m : Mark). judged m.place m.role l.scope.sources.now) (drop l.mark-index l.marks) ≡ first_fault (λ (m : Mark). judged m.place m.role l.scope.sources.now) l.marks
