use Rattle.std.proofs.Common.{◌≡◌, ◌++◌, drop}
use Rattle.access_rules.specs.Demands.{on_sources}
use Rattle.access_rules.proofs.statements.on_sources.Given as goal

-- the demands so far and those of the rest are all
abbrev pub invariant-sources : goal.invariant-sources
invariant-sources l = l.all ++ on_sources l.action (drop l.source-index l.sources) ≡ on_sources l.action l.sources
