-- A layer, where a level is left or none.
use Rattle.std.proofs.Common.{◌≡◌, ℕ, zero, suc, ◌+◌, ◌-◌, ◌<◌, None, refl, ap, sym, ◌∙◌, arith}
use Rattle.pql_model.specs.declared.expr.Expr.{Expr}
use Rattle.pql_model.specs.declared.token.Token.TheVariants as token
use Rattle.pql_model.specs.Productions.{Production, Reader}
use Rattle.pql_model.specs.Expressions.{Layers, Tall, chain, layers, layers_above, no_level}
use Rattle.pql_expr_parser.specs.Closed.{negation, unary}
use Rattle.pql_expr_parser.specs.Layers.{layer_of, operator_in}
use Rattle.pql_expr_parser.specs.declared.expressions.Layer.{Layer}
use Rattle.pql_expr_parser.specs.declared.expressions.Layer.TheVariants as layer

layers_are : (below : ℕ) → layers (suc below) ≡ layers_above below (layers below)
unfolding layers
layers_are below = refl

-- a layer above a number of levels
pub layer_above : {A : Type 0} (part : Layers → A) (below : ℕ) → part (layers_above below (layers below)) ≡ part (layers (below + 1))
layer_above part below =
    let more : suc below ≡ below + 1 = omega arith in
    ap part (sym (layers_are below)) ∙ ap (λ n. part (layers n)) more

-- what a layer is made of
abbrev pub chain_of : Layer → Layer → ℕ → Production (Tall Expr)
chain_of operators operands below = chain below (operator_in operators) (layer_of operands below) (layer_of operands (below + 1))

abbrev pub made_of : Layer → ℕ → Production (Tall Expr)
made_of layer.Disjunction below = chain_of layer.Disjunction layer.Conjunction below
made_of layer.Conjunction below = chain_of layer.Conjunction layer.Negation below
made_of layer.Negation below = negation below
made_of layer.Concatenation below = chain_of layer.Concatenation layer.Sum below
made_of layer.Sum below = chain_of layer.Sum layer.Product below
made_of layer.Product below = chain_of layer.Product layer.Unary below
made_of layer.Unary below = unary below

made_above : (which : Layer) (below : ℕ) (r : Reader) → layer_of which (suc below) r ≡ made_of which below r
unfolding layer_of operator_in negation unary
made_above layer.Disjunction below r =
    ap (λ l. l.whole r) (layers_are below) ∙ ap (λ left. chain below (operator_in layer.Disjunction) (layer_of layer.Conjunction below) left r) (layer_above (λ l. l.conjunction) below)
made_above layer.Conjunction below r =
    ap (λ l. l.conjunction r) (layers_are below) ∙ ap (λ left. chain below (operator_in layer.Conjunction) (layer_of layer.Negation below) left r) (layer_above (λ l. l.negation) below)
made_above layer.Negation below r = ap (λ l. l.negation r) (layers_are below)
made_above layer.Concatenation below r =
    ap (λ l. l.concatenation r) (layers_are below) ∙ ap (λ left. chain below (operator_in layer.Concatenation) (layer_of layer.Sum below) left r) (layer_above (λ l. l.sum) below)
made_above layer.Sum below r =
    ap (λ l. l.sum r) (layers_are below) ∙ ap (λ left. chain below (operator_in layer.Sum) (layer_of layer.Product below) left r) (layer_above (λ l. l.product) below)
made_above layer.Product below r =
    ap (λ l. l.product r) (layers_are below) ∙ ap (λ left. chain below (operator_in layer.Product) (layer_of layer.Unary below) left r) (layer_above (λ l. l.unary) below)
made_above layer.Unary below r = ap (λ l. l.unary r) (layers_are below)

pub layer_at : (which : Layer) (levels : ℕ) (r : Reader) → 0 < levels → layer_of which levels r ≡ made_of which (levels - 1) r
layer_at which zero r h = absurd (omega arith)
layer_at which (suc below) r h =
    let less : below ≡ suc below - 1 = omega arith in made_above which below r ∙ ap (λ n. made_of which n r) less

pub layer_at_none : (which : Layer) (r : Reader) → layer_of which 0 r ≡ no_level r
unfolding layers layer_of
layer_at_none layer.Disjunction r = refl
layer_at_none layer.Conjunction r = refl
layer_at_none layer.Negation r = refl
layer_at_none layer.Concatenation r = refl
layer_at_none layer.Sum r = refl
layer_at_none layer.Product r = refl
layer_at_none layer.Unary r = refl

-- no operator stands at the text's end
pub operator_at_end : (which : Layer) → operator_in which token.End ≡ None
unfolding operator_in
operator_at_end layer.Disjunction = refl
operator_at_end layer.Conjunction = refl
operator_at_end layer.Negation = refl
operator_at_end layer.Concatenation = refl
operator_at_end layer.Sum = refl
operator_at_end layer.Product = refl
operator_at_end layer.Unary = refl

pub ruleset layer_turns = (layer_at, layer_at_none)
