use Rattle.std.proofs.Common.{◌≡◌}
use Rattle.pql_parse.specs.ClosedStatements.{sources, sources_behind}
use Rattle.pql_expr_parser.specs.Gives.{seen}
use Rattle.pql_parse.specs.Parts.{Knows}
use Rattle.pql_parse.proofs.sources.sources.Given as goal

abbrev pub invariant-sources : goal.invariant-sources
invariant-sources l = record {
  knows : Knows l.earlier;
  same : sources_behind l.more l.earlier.sources (seen l.parser) ≡ sources (seen l.fn.parser);
}

abbrev pub decreases-sources : goal.decreases-sources
decreases-sources l = l.more
