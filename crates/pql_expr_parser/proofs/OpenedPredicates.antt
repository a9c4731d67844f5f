-- Comparisons and what stands behind an operand, opened by one step.
use Rattle.std.proofs.Common.{◌≡◌, ℕ, ◌+◌, max, codes, refl, if◌then◌else◌}
use Rattle.std.specs.Prelude.{nat_le}
use Rattle.pql_model.specs.declared.ParseKind.TheVariants as kind
use Rattle.pql_model.specs.declared.expr.Expr.{Expr}
use Rattle.pql_model.specs.declared.expr.Expr.TheVariants as expr
use Rattle.pql_model.specs.Words.{is_word}
use Rattle.pql_model.specs.Productions.{Reader, choose, give, past, refuse, word, ◌>>=◌}
use Rattle.pql_model.specs.Expressions.{Tall, begins_predicate, between, negated, tall}
use Rattle.pql_expr_parser.specs.Closed.{bounded, contained, is_tested, matched, null_or_missing, patterned, predicate, predicated, upper_bound}
use Rattle.pql_expr_parser.specs.Layers.{layer_of}
use Rattle.pql_expr_parser.specs.declared.expressions.Layer.TheVariants as layer

pub is_tested_opens : (x : Tall Expr) (r : Reader) →
    is_tested x r ≡ choose (is_word (codes "NOT")) (past (null_or_missing x >>= negated)) (null_or_missing x) r
unfolding is_tested null_or_missing
is_tested_opens x r = refl

pub contained_opens : (below : ℕ) (x : Tall Expr) (r : Reader) →
    contained below x r ≡ (layer_of layer.Concatenation below >>= (λ y. give (tall (expr.IsIn x.tree y.tree) (max x.height y.height + 1)))) r
unfolding contained layer_of
contained_opens below x r = refl

pub patterned_opens : (below : ℕ) (x : Tall Expr) (r : Reader) →
    patterned below x r ≡ (layer_of layer.Concatenation below >>= (λ y. give (tall (expr.Like x.tree y.tree) (max x.height y.height + 1)))) r
unfolding patterned layer_of
patterned_opens below x r = refl

pub upper_bound_opens : (below : ℕ) (x low : Tall Expr) (r : Reader) →
    upper_bound below x low r ≡ (layer_of layer.Concatenation below >>= (λ high. give (between x low high))) r
unfolding upper_bound layer_of
upper_bound_opens below x low r = refl

pub bounded_opens : (below : ℕ) (x : Tall Expr) (r : Reader) →
    bounded below x r ≡ (layer_of layer.Concatenation below >>= (λ low. word "AND" (upper_bound below x low))) r
unfolding bounded layer_of upper_bound
bounded_opens below x r = refl

pub matched_opens : (below : ℕ) (x : Tall Expr) (r : Reader) →
    matched below x r
    ≡ choose (is_word (codes "IN")) (past (contained below x)) (choose (is_word (codes "LIKE")) (past (patterned below x)) (word "BETWEEN" (bounded below x))) r
unfolding matched contained patterned bounded
matched_opens below x r = refl

pub predicate_opens : (below : ℕ) (x : Tall Expr) (r : Reader) →
    predicate below x r
    ≡ choose (is_word (codes "IS")) (past (is_tested x)) (choose (is_word (codes "NOT")) (past (matched below x >>= negated)) (matched below x)) r
unfolding predicate is_tested matched
predicate_opens below x r = refl

pub predicated_opens : (below : ℕ) (x : Tall Expr) (r : Reader) →
    predicated below x r ≡ choose begins_predicate (if nat_le x.height below then predicate below x else refuse kind.TooDeep) (give x) r
unfolding predicated predicate
predicated_opens below x r = refl
