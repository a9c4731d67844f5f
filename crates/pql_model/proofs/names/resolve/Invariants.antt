use Rattle.std.proofs.Common.{◌≡◌, map, take}
use Rattle.pql_model.specs.Names.{called_in_row, resolve}
use Rattle.pql_model.proofs.names.resolve.Given as goal

abbrev pub invariant-sources : goal.invariant-sources
invariant-sources l = l.last ≡ resolve l.name (map called_in_row (take l.place l.scope))
