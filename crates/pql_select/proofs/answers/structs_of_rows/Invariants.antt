use Rattle.std.proofs.Common.{◌≡◌, map, take}
use Rattle.pql_model.specs.Answers.{in_row, struct_from}
use Rattle.pql_select.proofs.answers.structs_of_rows.Given as goal

abbrev pub invariant-rows : goal.invariant-rows
invariant-rows l = l.all ≡ map (λ scope. struct_from (in_row l.params scope) l.items) (take l.scope-index l.rows)
