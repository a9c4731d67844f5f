use Rattle.std.proofs.Common.{◌≡◌, map}
use Rattle.pql_model.specs.Answers.{starred}
use Rattle.pql_select.proofs.answers.structs_of_sources.Given as goal

abbrev pub invariant-rows : goal.invariant-rows
invariant-rows l = l.all ≡ map starred l.yielded
