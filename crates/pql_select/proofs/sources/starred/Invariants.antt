use Rattle.std.proofs.Common.{◌≡◌}
use Rattle.std.specs.List.{flat_map}
use Rattle.pql_model.specs.Answers.{fields_of}
use Rattle.pql_select.proofs.sources.starred.Given as goal

abbrev pub invariant-sources : goal.invariant-sources
invariant-sources l = l.fields ≡ flat_map fields_of l.yielded
