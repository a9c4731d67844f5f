-- What an expression sees, and what a name means, in memory.
use Rattle.pql_model.specs.declared.scope.Evaluated.{Evaluated}
use Rattle.pql_model.specs.declared.scope.Evaluated.TheVariants.{Missing, Found}
use Rattle.pql_model.specs.Meaning as meaning
use Rattle.pql_model.specs.Steps.{id_answer}
use Rattle.std.specs.declared.option.Option.TheVariants.{Some}
use Rattle.pql_expr.specs.declared.context.Context.{Context}
use Rattle.pql_expr.specs.declared.paths.Root.{Root}
use Rattle.pql_expr.specs.declared.paths.Root.TheVariants as root

abbrev pub context_of : Context → meaning.Context
context_of c = record { scope = c.scope.now; is_whole = c.is_whole; params = c.params.now }

abbrev pub meant_at : Root → Evaluated
meant_at root.Nothing = Missing
meant_at (root.Value v) = Found v.now
meant_at (root.Id id) = id_answer (Some id)
