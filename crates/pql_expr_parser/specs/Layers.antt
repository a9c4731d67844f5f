-- The layers of expressions by their names in code.
use Rattle.std.specs.Prelude.{ℕ, ◌||◌, Bool, codes, Option, None}
use Rattle.pql_model.specs.declared.expr.Expr.{Expr}
use Rattle.pql_model.specs.declared.expr.Operator.{Operator}
use Rattle.pql_model.specs.declared.expr.Operator.TheVariants as op
use Rattle.pql_model.specs.declared.token.Token.{Token}
use Rattle.pql_model.specs.Words.{is_word, is_symbol}
use Rattle.pql_model.specs.Productions.{Production}
use Rattle.pql_model.specs.Expressions.{Tall, Layers, layers, additive, by_word, joining, multiplicative}
use Rattle.pql_expr_parser.specs.declared.expressions.Layer.{Layer}
use Rattle.pql_expr_parser.specs.declared.expressions.Layer.TheVariants as layer

abbrev pub layer_in : Layer → Layers → Production (Tall Expr)
layer_in layer.Disjunction inner = inner.whole
layer_in layer.Conjunction inner = inner.conjunction
layer_in layer.Negation inner = inner.negation
layer_in layer.Concatenation inner = inner.concatenation
layer_in layer.Sum inner = inner.sum
layer_in layer.Product inner = inner.product
layer_in layer.Unary inner = inner.unary

-- an expression of this layer, of at most that number of levels
unfoldable pub layer_of : Layer → ℕ → Production (Tall Expr)
layer_of which levels = layer_in which (layers levels)

-- the operators of a layer that has some
unfoldable pub operator_in : Layer → Token → Option Operator
operator_in layer.Disjunction = by_word (codes "OR") op.Or
operator_in layer.Conjunction = by_word (codes "AND") op.And
operator_in layer.Concatenation = joining
operator_in layer.Sum = additive
operator_in layer.Product = multiplicative
operator_in _ = λ _. None

-- whether an expression in brackets begins with the token
abbrev pub begins_bracket : Token → Bool
begins_bracket t =
    is_symbol (codes "(") t || is_symbol (codes "[") t || is_symbol (codes "<<") t || is_symbol (codes "{") t

-- whether a call begins with it
abbrev pub begins_call : Token → Bool
begins_call t =
    is_word (codes "COALESCE") t || is_word (codes "SIZE") t || is_word (codes "CHAR_LENGTH") t
    || is_word (codes "COUNT") t || is_word (codes "SUM") t
    || is_word (codes "MIN") t || is_word (codes "MAX") t
