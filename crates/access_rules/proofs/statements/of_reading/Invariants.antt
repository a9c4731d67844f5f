use Rattle.std.proofs.Common.{◌≡◌, ◌++◌, drop}
use Rattle.std.specs.List.{flat_map}
use Rattle.pql_model.specs.declared.statement.Source.{Source}
use Rattle.access_rules.specs.Demands.{reading}
use Rattle.access_rules.proofs.statements.of_reading.Given as goal

-- the demands so far and those of the rest are all
abbrev pub invariant-sources : goal.invariant-sources
invariant-sources l =
    l.all ++ flat_map (λ (s : Source). reading s.from) (drop l.source-index l.sources) ≡ flat_map (λ (s : Source). reading s.from) l.sources
