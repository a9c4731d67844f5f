-- Round brackets and calls, opened by one step.
use Rattle.std.proofs.Common.{◌≡◌, ℕ, Bool, true, false, cond, [], length, Result, Ok, Err, codes, refl}
use Rattle.pql_model.specs.declared.ParseKind.TheVariants as kind
use Rattle.pql_model.specs.declared.expr.Expr.{Expr}
use Rattle.pql_model.specs.declared.expr.Expr.TheVariants as expr
use Rattle.pql_model.specs.declared.mark.Role.TheVariants as role
use Rattle.pql_model.specs.Words.{is_word, is_symbol}
use Rattle.pql_model.specs.Productions.{Fault, Found, Production, Reader, advanced, choose, give, marked, onward, past, refuse, symbol, token_of, ◌>>=◌}
use Rattle.pql_model.specs.Expressions.{Tall, above, deeper, layers, parted, tall}
use Rattle.pql_expr_parser.specs.Closed.{aggregate, bracketed, call, called, coalesce, count, folded, list_of, named}
use Rattle.pql_expr_parser.specs.Layers.{layer_of}
use Rattle.pql_expr_parser.specs.Parts.{applied}
use Rattle.pql_expr_parser.specs.declared.expressions.Layer.TheVariants as layer
use Rattle.pql_expr_parser.specs.declared.primaries.Function.{Function}
use Rattle.pql_expr_parser.specs.declared.primaries.Function.TheVariants as function'
use Rattle.pql_expr_parser.proofs.Onward.{same_cond}

pub bracketed_opens : (below : ℕ) (r : Reader) →
    bracketed below r ≡ (layer_of layer.Disjunction below >>= (λ x. symbol ")" (give (above (λ e. e) x)))) r
unfolding bracketed layer_of
bracketed_opens below r = refl

-- an expression behind an opening bracket that something is made of
made_closed : (make : Expr → Expr) (closes : Bool) (x : Tall Expr) (r : Reader) →
    cond closes (past (give (above make x))) (refuse kind.Unexpected) r
    ≡ onward (λ y. give (tall (make y.tree) y.height)) (cond closes (past (give (above (λ e. e) x))) (refuse kind.Unexpected) r)
made_closed make true x r = refl
made_closed make false x r = refl

made_of : (make : Expr → Expr) (o : Result (Found (Tall Expr)) Fault) →
    onward (λ x. symbol ")" (give (above make x))) o
    ≡ onward (λ y. give (tall (make y.tree) y.height)) (onward (λ x. symbol ")" (give (above (λ e. e) x))) o)
made_of make (Ok found) = made_closed make (is_symbol (codes ")") (token_of found.reader)) found.tree found.reader
made_of make (Err fault) = refl

pub call_opens : (below : ℕ) (function : Function) (r : Reader) →
    call below function r ≡ symbol "(" (bracketed below >>= (λ x. give (tall (applied function x.tree) x.height))) r
unfolding call bracketed
call_opens below function r =
    same_cond (is_symbol (codes "(") (token_of r)) _ _ _ _ r (made_of (applied function) ((layers below).whole (advanced r))) refl

pub list_of_opens : (below : ℕ) (r : Reader) → list_of below r ≡ parted (length r.rest) (layer_of layer.Disjunction below) (tall [] 0) r
unfolding list_of layer_of
list_of_opens below r = refl

pub coalesce_opens : (below : ℕ) (r : Reader) →
    coalesce below r ≡ symbol "(" (list_of below >>= (λ xs. symbol ")" (give (above expr.Coalesce xs)))) r
unfolding coalesce list_of
coalesce_opens below r = refl

abbrev pub counted : ℕ → Production (Tall Expr)
counted below =
    choose (is_symbol (codes "*")) (past (symbol ")" (give (tall expr.CountAll 1)))) (bracketed below >>= (λ x. give (tall (applied function'.Count x.tree) x.height)))

pub count_opens : (below : ℕ) (r : Reader) → count below r ≡ symbol "(" (counted below) r
unfolding count bracketed
count_opens below r =
    same_cond (is_symbol (codes "(") (token_of r)) _ _ _ _ r
    (same_cond (is_symbol (codes "*") (token_of (advanced r))) _ _ _ _ (advanced r) refl (made_of expr.Count ((layers below).whole (advanced r)))) refl

pub folded_opens : (below : ℕ) (function : Function) (r : Reader) →
    folded below function r ≡ deeper below (marked role.Aggregate (past (call below function))) r
unfolding folded call
folded_opens below function r = refl

pub aggregate_opens : (below : ℕ) (r : Reader) →
    aggregate below r
    ≡ choose (is_word (codes "COUNT")) (marked role.Aggregate (past (count below)))
    (choose (is_word (codes "SUM")) (folded below function'.Sum)
    (choose (is_word (codes "MIN")) (folded below function'.Min)
    (choose (is_word (codes "MAX")) (folded below function'.Max)
    (named below)))) r
unfolding aggregate count folded named
aggregate_opens below r = refl

pub called_opens : (below : ℕ) (r : Reader) →
    called below r
    ≡ choose (is_word (codes "COALESCE")) (deeper below (past (coalesce below)))
    (choose (is_word (codes "SIZE")) (deeper below (past (call below function'.Size)))
    (choose (is_word (codes "CHAR_LENGTH")) (deeper below (past (call below function'.CharLength)))
    (aggregate below))) r
unfolding called coalesce call aggregate
called_opens below r = refl
