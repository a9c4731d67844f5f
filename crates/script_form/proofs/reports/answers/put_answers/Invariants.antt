use Rattle.std.proofs.Common.{◌≡◌, ◌++◌, ◌∷◌, map, take}
use Rattle.std.specs.List.{flat_map}
use Rattle.ledger_model.specs.Report.{answer_text}
use Rattle.script_form.proofs.reports.answers.put_answers.Given as goal

abbrev pub invariant-answers : goal.invariant-answers
invariant-answers l = l.out ≡ l.initial.out ++ flat_map (λ text. 44 ∷ text) (map answer_text (take l.next-index l.more))
