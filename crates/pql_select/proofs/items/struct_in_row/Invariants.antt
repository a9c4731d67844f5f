use Rattle.std.proofs.Common.{◌≡◌, ◌+◌, ◌++◌, drop}
use Rattle.pql_model.specs.Answers.{fields_from, in_row}
use Rattle.pql_select.proofs.items.struct_in_row.Given as goal

abbrev pub invariant-items : goal.invariant-items
invariant-items l =
    l.fields ++ fields_from (in_row l.params l.scope) (l.index + 1) (drop l.index l.items) ≡ fields_from (in_row l.params l.scope) 1 l.items
