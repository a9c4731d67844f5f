use Rattle.std.proofs.Common.{◌≡◌, ◌≤◌, ◌+◌, map, min, drop}
use Rattle.std.specs.List.{sum}
use Rattle.pql_model.specs.Parameters.{in_source}
use Rattle.pql_model.proofs.counts.in_sources.Given as goal

abbrev pub invariant-loop-source : goal.invariant-loop-source
invariant-loop-source l =
    record { told : min (l.count + sum (map in_source (drop l.source-index l.sources))) 4294967295 ≡ min (sum (map in_source l.sources)) 4294967295; fits : l.count ≤ 4294967295 }
