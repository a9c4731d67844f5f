-- What the expressions of a change are read from, in memory.
use Rattle.pql_model.specs.Meaning as meaning
use Rattle.pql_model.specs.Meaning.{under}
use Rattle.pql_change.specs.declared.context.Context.{Context}

abbrev pub context_of : Context → meaning.Context
context_of c = under c.scope.now c.params.now
