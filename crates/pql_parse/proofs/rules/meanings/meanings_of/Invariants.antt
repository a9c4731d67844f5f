use Rattle.std.proofs.Common.{take}
use Rattle.pql_parse.specs.Ruled.{HasMeanings}
use Rattle.pql_parse.proofs.rules.meanings.meanings_of.Given as goal

-- the table has what the names of the sources so far mean
abbrev pub invariant-sources : goal.invariant-sources
invariant-sources l = HasMeanings l.meanings (take l.source-index l.sources)
