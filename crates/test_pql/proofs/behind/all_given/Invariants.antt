use Rattle.std.proofs.Common.{◌≡◌, map, take, None}
use Rattle.pql_model.specs.declared.statement.Source.{Source}
use Rattle.pql_from.specs.Held.{joins_of, sources_of}
use Rattle.test_pql.proofs.behind.all_given.Given as goal

abbrev pub invariant-sources : goal.invariant-sources
invariant-sources l = record {
  joins : joins_of l.given.items ≡ map (λ (s : Source). None) (take l.source-index l.sources);
  sources : sources_of l.given.items ≡ take l.source-index l.sources;
}
