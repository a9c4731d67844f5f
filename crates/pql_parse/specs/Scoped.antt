-- Sources with the tables of what their names mean.
use Rattle.pql_parse.specs.declared.rules.Scope.{Scope}
use Rattle.pql_parse.specs.Ruled.{HasFirsts, HasMeanings, has_name, has_variable}

abbrev pub IsScope : Scope → Type 0
IsScope s =
    HasFirsts has_name s.known s.sources.now × HasFirsts has_variable s.variables s.sources.now
    × HasMeanings s.meanings s.sources.now
