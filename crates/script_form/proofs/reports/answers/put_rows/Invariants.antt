use Rattle.std.proofs.Common.{◌≡◌, ◌++◌, ◌∷◌, map, take}
use Rattle.std.specs.List.{flat_map}
use Rattle.ion_model.specs.Write.{value_text}
use Rattle.script_form.proofs.reports.answers.put_rows.Given as goal

abbrev pub invariant-rows : goal.invariant-rows
invariant-rows l = l.out ≡ l.initial.out ++ flat_map (λ text. 44 ∷ text) (map value_text (take l.next-index l.more))
