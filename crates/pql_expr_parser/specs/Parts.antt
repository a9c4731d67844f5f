-- Parts of productions, at which the parser of expressions in code is cut.
use Rattle.std.specs.Prelude.{ℕ, ◌+◌, max, List, [], codes, Option, Some, None}
use Rattle.pql_model.specs.declared.expr.Expr.{Expr}
use Rattle.pql_model.specs.declared.expr.Expr.TheVariants as expr
use Rattle.pql_model.specs.declared.expr.PathStep.{PathStep}
use Rattle.pql_model.specs.declared.expr.PathStep.TheVariants as step'
use Rattle.pql_model.specs.declared.mark.Role.TheVariants as role
use Rattle.pql_model.specs.Words.{is_symbol}
use Rattle.pql_model.specs.Productions.{Production, give, past, choose, expect, symbol, word, marked, ◌>>=◌}
use Rattle.pql_model.specs.Expressions.{Layers, Tall, above, between, call, deeper, enclosed, function, list_of, member, tall}
use Rattle.pql_expr_parser.specs.Fronts.{any_name}
use Rattle.pql_expr_parser.specs.declared.primaries.Function.{Function}
use Rattle.pql_expr_parser.specs.declared.primaries.Function.TheVariants as function'

-- the step in front of a path, whose indexes are such expressions, of that number of levels
abbrev pub step : ℕ → Production (Tall Expr) → Production (Option (Tall PathStep))
step below index =
    choose (is_symbol (codes ".")) (past (any_name >>= (λ text. give (Some (tall (step'.Field text) 0)))))
    (choose (is_symbol (codes "["))
    (deeper below (past (index >>= (λ x. symbol "]" (give (Some (tall (step'.Index x.tree) x.height)))))))
    (give None))

-- parts up to the closing bracket that is spelled so, or none
abbrev pub enclosed_by : {A : Type 0} → List ℕ → Production (Tall A) → Production (Tall (List A))
enclosed_by close part =
    choose (is_symbol close) (past (give (tall [] 0))) (list_of part >>= (λ xs. expect (is_symbol close) (give xs)))

-- a struct behind its opening brace
abbrev pub struct_of : ℕ → Layers → Production (Tall Expr)
struct_of below inner = enclosed "}" (member below inner) >>= (λ ms. give (above expr.Struct ms))

-- a list or a struct, or a call or a name
abbrev pub constructed : ℕ → Layers → Production (Tall Expr)
constructed below inner =
    choose (is_symbol (codes "[")) (past (enclosed "]" inner.whole >>= (λ xs. give (above expr.List xs))))
    (choose (is_symbol (codes "<<")) (past (enclosed ">>" inner.whole >>= (λ xs. give (above expr.List xs))))
    (choose (is_symbol (codes "{")) (past (struct_of below inner))
    (function below inner)))

-- a call of SUM, MIN or MAX, from its word on
abbrev pub folded : ℕ → Layers → (Expr → Expr) → Production (Tall Expr)
folded below inner make = deeper below (marked role.Aggregate (past (call inner make)))

-- what compares the operand x, behind IN, LIKE or BETWEEN
abbrev pub contained : Layers → Tall Expr → Production (Tall Expr)
contained inner x = inner.concatenation >>= (λ y. give (tall (expr.IsIn x.tree y.tree) (max x.height y.height + 1)))

abbrev pub patterned : Layers → Tall Expr → Production (Tall Expr)
patterned inner x = inner.concatenation >>= (λ y. give (tall (expr.Like x.tree y.tree) (max x.height y.height + 1)))

abbrev pub upper_bound : Layers → Tall Expr → Tall Expr → Production (Tall Expr)
upper_bound inner x low = inner.concatenation >>= (λ high. give (between x low high))

abbrev pub bounded : Layers → Tall Expr → Production (Tall Expr)
bounded inner x = inner.concatenation >>= (λ low. word "AND" (upper_bound inner x low))

abbrev pub applied : Function → Expr → Expr
applied function'.Size = expr.Size
applied function'.CharLength = expr.CharLength
applied function'.Count = expr.Count
applied function'.Sum = expr.Sum
applied function'.Min = expr.Min
applied function'.Max = expr.Max
