-- Productions of expressions with the layers of a number of levels, by names that stay closed in proofs.
use Rattle.std.specs.Prelude.{ℕ, List, [], length, Option}
use Rattle.pql_model.specs.declared.expr.Expr.{Expr}
use Rattle.pql_model.specs.declared.expr.Member.{Member}
use Rattle.pql_model.specs.declared.expr.Path.{Path}
use Rattle.pql_model.specs.declared.expr.PathStep.{PathStep}
use Rattle.pql_model.specs.Productions as productions
use Rattle.pql_model.specs.Productions.{Production}
use Rattle.pql_model.specs.Expressions.{Tall, layers, tall}
use Rattle.pql_model.specs.Expressions as spec
use Rattle.pql_expr_parser.specs.Parts as parts
use Rattle.pql_expr_parser.specs.declared.primaries.Function.{Function}

-- ---- names

unfoldable pub name : Production (List ℕ)
name = productions.name

-- ---- comparisons, IN, LIKE, BETWEEN and IS

unfoldable pub null_or_missing : Tall Expr → Production (Tall Expr)
null_or_missing x = spec.null_or_missing x

unfoldable pub is_tested : Tall Expr → Production (Tall Expr)
is_tested x = spec.is_tested x

unfoldable pub contained : ℕ → Tall Expr → Production (Tall Expr)
contained below x = parts.contained (layers below) x

unfoldable pub patterned : ℕ → Tall Expr → Production (Tall Expr)
patterned below x = parts.patterned (layers below) x

unfoldable pub upper_bound : ℕ → Tall Expr → Tall Expr → Production (Tall Expr)
upper_bound below x low = parts.upper_bound (layers below) x low

unfoldable pub bounded : ℕ → Tall Expr → Production (Tall Expr)
bounded below x = parts.bounded (layers below) x

unfoldable pub matched : ℕ → Tall Expr → Production (Tall Expr)
matched below x = spec.matched (layers below) x

unfoldable pub predicate : ℕ → Tall Expr → Production (Tall Expr)
predicate below x = spec.predicate (layers below) x

unfoldable pub predicated : ℕ → Tall Expr → Production (Tall Expr)
predicated below x = spec.predicated below (layers below) x

unfoldable pub related : ℕ → Tall Expr → Production (Tall Expr)
related below x = spec.related below (layers below) x

unfoldable pub comparison : ℕ → Production (Tall Expr)
comparison below = spec.comparison below (layers below)

unfoldable pub negation : ℕ → Production (Tall Expr)
negation below = spec.negation below (layers below)

-- ---- paths

unfoldable pub step : ℕ → Production (Option (Tall PathStep))
step below = parts.step below (layers below).whole

-- the steps behind these
unfoldable pub steps_behind : ℕ → ℕ → Tall (List PathStep) → Production (Tall (List PathStep))
steps_behind more below so_far = spec.steps more below (layers below).whole so_far

unfoldable pub steps : ℕ → Production (Tall (List PathStep))
steps below r = spec.steps (length r.rest) below (layers below).whole (tall [] 0) r

unfoldable pub path_from : ℕ → List ℕ → Production (Tall Path)
path_from below first = spec.path_from below (layers below).whole first

unfoldable pub named : ℕ → Production (Tall Expr)
named below = spec.named below (layers below)

-- ---- calls

unfoldable pub bracketed : ℕ → Production (Tall Expr)
bracketed below = spec.bracketed (layers below)

unfoldable pub call : ℕ → Function → Production (Tall Expr)
call below function = spec.call (layers below) (parts.applied function)

unfoldable pub list_of : ℕ → Production (Tall (List Expr))
list_of below = spec.list_of (layers below).whole

unfoldable pub coalesce : ℕ → Production (Tall Expr)
coalesce below = spec.coalesce (layers below)

unfoldable pub count : ℕ → Production (Tall Expr)
count below = spec.count (layers below)

unfoldable pub folded : ℕ → Function → Production (Tall Expr)
folded below function = parts.folded below (layers below) (parts.applied function)

unfoldable pub aggregate : ℕ → Production (Tall Expr)
aggregate below = spec.aggregate below (layers below)

unfoldable pub called : ℕ → Production (Tall Expr)
called below = spec.function below (layers below)

-- ---- brackets

unfoldable pub enclosed : ℕ → List ℕ → Production (Tall (List Expr))
enclosed below close = parts.enclosed_by close (layers below).whole

unfoldable pub member : ℕ → Production (Tall Member)
member below = spec.member below (layers below)

unfoldable pub members : ℕ → Production (Tall (List Member))
members below = spec.list_of (spec.member below (layers below))

unfoldable pub struct_of : ℕ → Production (Tall Expr)
struct_of below = parts.struct_of below (layers below)

unfoldable pub constructed : ℕ → Production (Tall Expr)
constructed below = parts.constructed below (layers below)

unfoldable pub bracket : ℕ → Production (Tall Expr)
bracket below = spec.bracket below (layers below)

unfoldable pub primary : ℕ → Production (Tall Expr)
primary below = spec.primary below (layers below)

unfoldable pub unary : ℕ → Production (Tall Expr)
unary below = spec.unary below (layers below)
