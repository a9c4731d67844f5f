use Rattle.std.proofs.Common.{◌≡◌, take}
use Rattle.std.specs.List.{flat_map}
use Rattle.pql_model.specs.Answers.{in_row}
use Rattle.pql_model.specs.Lists.{value_in}
use Rattle.pql_select.proofs.answers.values.Given as goal

abbrev pub invariant-rows : goal.invariant-rows
invariant-rows l = l.all ≡ flat_map (λ scope. value_in (in_row l.params scope l.e)) (take l.scope-index l.rows)
