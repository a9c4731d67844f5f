use Rattle.std.proofs.Common.{◌≡◌}
use Rattle.pql_parse.specs.ClosedStatements.{settings, settings_behind}
use Rattle.pql_expr_parser.specs.Gives.{seen}
use Rattle.pql_parse.proofs.changes.settings.Given as goal

abbrev pub invariant-settings : goal.invariant-settings
invariant-settings l = settings_behind l.more l.settings (seen l.parser) ≡ settings (seen l.fn.parser)

abbrev pub decreases-settings : goal.decreases-settings
decreases-settings l = l.more
