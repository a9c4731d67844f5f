use Rattle.std.proofs.Common.{◌≡◌}
use Rattle.pql_parse.specs.ClosedStatements.{items, items_behind}
use Rattle.pql_expr_parser.specs.Gives.{seen}
use Rattle.pql_parse.proofs.selection.items.Given as goal

abbrev pub invariant-items : goal.invariant-items
invariant-items l = items_behind l.more l.items (seen l.parser) ≡ items (seen l.fn.parser)

abbrev pub decreases-items : goal.decreases-items
decreases-items l = l.more
