-- The layers of NOT and of comparisons, opened by one step.
use Rattle.std.proofs.Common.{◌≡◌, ℕ, ◌+◌, Option, Some, None, codes, refl, ap, if◌then◌else◌}
use Rattle.std.specs.Prelude.{nat_le}
use Rattle.pql_model.specs.declared.ParseKind.TheVariants as kind
use Rattle.pql_model.specs.declared.expr.Expr.{Expr}
use Rattle.pql_model.specs.declared.expr.Expr.TheVariants as expr
use Rattle.pql_model.specs.declared.expr.Operator.{Operator}
use Rattle.pql_model.specs.Words.{is_word}
use Rattle.pql_model.specs.Productions.{Production, Reader, choose, give, onward, past, refuse, token_of, ◌>>=◌}
use Rattle.pql_model.specs.Expressions.{Tall, above, binary, compared, comparing, deeper, layers}
use Rattle.pql_expr_parser.specs.Closed.{comparison, negation, predicated, related}
use Rattle.pql_expr_parser.specs.Layers.{layer_of}
use Rattle.pql_expr_parser.specs.declared.expressions.Layer.TheVariants as layer
use Rattle.pql_expr_parser.proofs.LayerTurns.{layer_above}

-- behind the operand x, where an operator follows or none
abbrev pub related_by : ℕ → Tall Expr → Option Operator → Production (Tall Expr)
related_by below x None = predicated below x
related_by below x (Some o) =
    if nat_le x.height below then past (layer_of layer.Concatenation below >>= (λ y. give (binary o x y))) else refuse kind.TooDeep

pub related_at : (below : ℕ) (x : Tall Expr) (o : Option Operator) (r : Reader) → compared below (layers below) x o r ≡ related_by below x o r
unfolding predicated layer_of
related_at below x None r = refl
related_at below x (Some o) r = refl

pub related_opens : (below : ℕ) (x : Tall Expr) (r : Reader) → related below x r ≡ related_by below x (comparing (token_of r)) r
unfolding related
related_opens below x r = related_at below x (comparing (token_of r)) r

pub comparison_opens : (below : ℕ) (r : Reader) → comparison below r ≡ (layer_of layer.Concatenation (below + 1) >>= related below) r
unfolding comparison related layer_of
comparison_opens below r = ap (λ p. onward (related below) (p r)) (layer_above (λ l. l.concatenation) below)

pub negation_opens : (below : ℕ) (r : Reader) →
    negation below r ≡ choose (is_word (codes "NOT")) (deeper below (past (layer_of layer.Negation below >>= (λ x. give (above expr.Not x))))) (comparison below) r
unfolding negation layer_of comparison
negation_opens below r = refl
