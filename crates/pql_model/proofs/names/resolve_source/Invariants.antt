use Rattle.std.proofs.Common.{◌≡◌, map, take}
use Rattle.pql_model.specs.Names.{called, resolve}
use Rattle.pql_model.proofs.names.resolve_source.Given as goal

-- what the name means of the sources passed
abbrev pub invariant-sources : goal.invariant-sources
invariant-sources l = l.last ≡ resolve l.name (map called (take l.place l.sources))
