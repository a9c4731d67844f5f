-- How far a layer is from the tightest one. A layer reads the tighter ones of its own level.
use Rattle.std.proofs.Common.{ℕ}
use Rattle.pql_expr_parser.specs.declared.expressions.Layer.{Layer}
use Rattle.pql_expr_parser.specs.declared.expressions.Layer.TheVariants as layer

abbrev pub rank : Layer → ℕ
rank layer.Disjunction = 38
rank layer.Conjunction = 36
rank layer.Negation = 34
rank layer.Concatenation = 27
rank layer.Sum = 25
rank layer.Product = 23
rank layer.Unary = 21
