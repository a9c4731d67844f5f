-- Each layer of the grammar of expressions fits into the levels that it is given.
use Rattle.std.proofs.Common.{◌≡◌, ℕ, zero, suc, ◌+◌, ◌≤◌, Bool, true, false, nat_le, if◌then◌else◌, List, Option, Some, None, codes, refl, arith}
use Rattle.std.proofs.lemmas.Bool.{leb-true}
use Rattle.pql_model.specs.declared.ParseKind.TheVariants as kind
use Rattle.pql_model.specs.declared.expr.Expr.{Expr}
use Rattle.pql_model.specs.declared.expr.Expr.TheVariants as expr
use Rattle.pql_model.specs.declared.expr.Member.{Member}
use Rattle.pql_model.specs.declared.expr.Operator.{Operator}
use Rattle.pql_model.specs.declared.expr.Operator.TheVariants as op
use Rattle.pql_model.specs.declared.expr.Path.{Path}
use Rattle.pql_model.specs.declared.mark.Role.TheVariants as role
use Rattle.pql_model.specs.declared.token.Token.{Token}
use Rattle.pql_model.specs.declared.token.Token.TheVariants as token
use Rattle.pql_model.specs.Expressions.{Layers, Tall, additive, aggregate, begins_expression, begins_predicate, binary, bracket, bracketed, by_word, call, chain, coalesce, compared, comparing, comparison, concatenation, conjunction, constant_of, constant_or, count, disjunction, expression, free_path, function, is_tested, joining, layers, matched, member, member_named, multiplicative, named, negated, negation, no_level, null_or_missing, operated, operators, predicate, predicated, primary, product, related, sum, tall, unary}
use Rattle.pql_model.specs.MeaningDepth.{deepest_literal, nesting}
use Rattle.pql_model.specs.Productions.{Production, ◌>>=◌, give, past, refuse, token_of}
use Rattle.pql_model.specs.Shallow.{IsShallow, IsShallowPath}
use Rattle.pql_model.proofs.ExpressionDepths.{ConstantFits, constant_fits, gives_deeper, gives_enclosed, gives_list, gives_path}
use Rattle.pql_model.proofs.Gives.{Gives, front_depth, gives_choose, gives_give, gives_if_symbol, gives_if_word, gives_marked, gives_past, gives_refuse, gives_symbol, gives_then, gives_with_name, gives_word}
use Rattle.pql_model.proofs.Tallness.{FitsExpr, FitsMember, FitsPath, Wraps, fits_above, fits_between, fits_binary, fits_count_all, fits_in, fits_like, fits_member, fits_negated, fits_still, member_literal, member_nesting, wraps_char_length, wraps_coalesce, wraps_count, wraps_itself, wraps_list, wraps_max, wraps_min, wraps_missing, wraps_negate, wraps_not, wraps_null, wraps_path, wraps_size, wraps_struct, wraps_sum}

-- expressions of at most that number of levels
abbrev GivesExpr : ℕ → Production (Tall Expr) → Type 0
GivesExpr levels p = Gives (Tall Expr) (FitsExpr levels) p

record LayersFit (levels : ℕ) (inner : Layers) : Type 0 where
  whole : GivesExpr levels inner.whole
  conjunction : GivesExpr levels inner.conjunction
  negation : GivesExpr levels inner.negation
  concatenation : GivesExpr levels inner.concatenation
  sum : GivesExpr levels inner.sum
  product : GivesExpr levels inner.product
  unary : GivesExpr levels inner.unary

-- ---- brackets and calls

module _ (below : ℕ) (inner : Layers) (fit : LayersFit below inner) where
  gives_bracketed : GivesExpr (suc below) (bracketed inner)
  gives_bracketed = gives_then _ fit.whole (λ x f. gives_symbol ")" (gives_give _ (fits_above wraps_itself x f)))

  gives_call : (make : Expr → Expr) → Wraps Expr nesting deepest_literal make → GivesExpr (suc below) (call inner make)
  gives_call make w = gives_symbol "(" (gives_then _ fit.whole (λ x f. gives_symbol ")" (gives_give _ (fits_above w x f))))

  gives_coalesce : GivesExpr (suc below) (coalesce inner)
  gives_coalesce =
      gives_symbol "("
      (gives_then _ (gives_list Expr nesting deepest_literal below inner.whole fit.whole) (λ xs f. gives_symbol ")" (gives_give _ (fits_above wraps_coalesce xs f))))

  gives_count : GivesExpr (suc below) (count inner)
  gives_count =
      gives_symbol "("
      (gives_if_symbol "*" (gives_past (gives_symbol ")" (gives_give _ (fits_count_all below))))
      (gives_then _ fit.whole (λ x f. gives_symbol ")" (gives_give _ (fits_above wraps_count x f)))))

  gives_member_named : (t : Token) → Gives (Tall Member) (FitsMember below) (member_named below inner t)
  gives_member_named (token.String text) =
      gives_deeper below (gives_past (gives_symbol ":" (gives_then _ fit.whole (λ x f. gives_give _ (fits_member text x f)))))
  gives_member_named _ = gives_refuse (FitsMember below) kind.Unexpected

  gives_member : Gives (Tall Member) (FitsMember below) (member below inner)
  gives_member = record { at = λ r h. (gives_member_named (token_of r)).at r h }

  gives_named : GivesExpr (suc below) (named below inner)
  gives_named =
      gives_with_name _
      (λ first. gives_marked (role.Name first) (gives_past (gives_then _ (gives_path below inner.whole fit.whole first) (λ p f. gives_give _ (fits_above wraps_path p f)))))

  gives_aggregate : GivesExpr (suc below) (aggregate below inner)
  gives_aggregate =
      gives_if_word "COUNT" (gives_marked role.Aggregate (gives_past gives_count))
      (gives_if_word "SUM" (gives_deeper below (gives_marked role.Aggregate (gives_past (gives_call expr.Sum wraps_sum))))
      (gives_if_word "MIN" (gives_deeper below (gives_marked role.Aggregate (gives_past (gives_call expr.Min wraps_min))))
      (gives_if_word "MAX" (gives_deeper below (gives_marked role.Aggregate (gives_past (gives_call expr.Max wraps_max))))
      gives_named)))

  gives_function : GivesExpr (suc below) (function below inner)
  gives_function =
      gives_if_word "COALESCE" (gives_deeper below (gives_past gives_coalesce))
      (gives_if_word "SIZE" (gives_deeper below (gives_past (gives_call expr.Size wraps_size)))
      (gives_if_word "CHAR_LENGTH" (gives_deeper below (gives_past (gives_call expr.CharLength wraps_char_length)))
      gives_aggregate))

  gives_bracket : GivesExpr (suc below) (bracket below inner)
  gives_bracket =
      gives_if_symbol "(" (gives_deeper below (gives_past gives_bracketed))
      (gives_if_symbol "[" (gives_past (gives_then _ (gives_enclosed Expr nesting deepest_literal below "]" inner.whole fit.whole) (λ xs f. gives_give _ (fits_above wraps_list xs f))))
      (gives_if_symbol "<<" (gives_past (gives_then _ (gives_enclosed Expr nesting deepest_literal below ">>" inner.whole fit.whole) (λ xs f. gives_give _ (fits_above wraps_list xs f))))
      (gives_if_symbol "{" (gives_past (gives_then _ (gives_enclosed Member member_nesting member_literal below "}" (member below inner) gives_member) (λ ms f. gives_give _ (fits_above wraps_struct ms f))))
      gives_function)))

  gives_constant_or : (found : Option Expr) → ConstantFits (suc below) found → GivesExpr (suc below) (constant_or (bracket below inner) found)
  gives_constant_or (Some e) f = gives_past (gives_give (tall e 1) f)
  gives_constant_or None f = gives_bracket

  gives_primary : GivesExpr (suc below) (primary below inner)
  gives_primary =
      record { at = λ r h. (gives_constant_or (constant_of (token_of r)) (constant_fits below (token_of r) (omega (arith, front_depth r.rest)))).at r h }

  -- ---- operators

  gives_operated : (x : Tall Expr) (next : Operator → Production (Tall Expr)) → FitsExpr (suc below) x → (x.height ≤ below → (o : Operator) → GivesExpr (suc below) (next o)) → (found : Option Operator) → GivesExpr (suc below) (operated below x next found)
  gives_operated x next f g None = gives_give x f
  gives_operated x next f g (Some o) = tested (nat_le x.height below) refl where
    tested : (b : Bool) → nat_le x.height below ≡ b → GivesExpr (suc below) (if b then past (next o) else refuse kind.TooDeep)
    tested true e = gives_past (g (leb-true x.height below e) o)
    tested false e = gives_refuse (FitsExpr (suc below)) kind.TooDeep

  gives_operators : (which : Token → Option Operator) (right : Production (Tall Expr)) → GivesExpr below right → (more : ℕ) (x : Tall Expr) → FitsExpr (suc below) x → GivesExpr (suc below) (operators more below which right x)
  gives_operators which right g zero x f = gives_give x f
  gives_operators which right g (suc more) x f =
      record { at = λ r h. (gives_operated x _ f (λ low o. gives_then _ g (λ y k. gives_operators which right g more (binary o x y) (fits_binary o x y low f k))) (which (token_of r))).at r h }

  gives_chain : (which : Token → Option Operator) (right left : Production (Tall Expr)) → GivesExpr below right → GivesExpr (suc below) left → GivesExpr (suc below) (chain below which right left)
  gives_chain which right left g f = gives_then _ f (gives_operators which right g (below + 1))

  -- ---- comparisons

  gives_matched : (x : Tall Expr) → x.height ≤ below → FitsExpr (suc below) x → GivesExpr (suc below) (matched inner x)
  gives_matched x low f =
      gives_if_word "IN" (gives_past (gives_then _ fit.concatenation (λ y g. gives_give _ (fits_in x y low f g))))
      (gives_if_word "LIKE" (gives_past (gives_then _ fit.concatenation (λ y g. gives_give _ (fits_like x y low f g))))
      (gives_word "BETWEEN" (gives_then _ fit.concatenation (λ y g. gives_word "AND" (gives_then _ fit.concatenation (λ z i. gives_give _ (fits_between x y z low f g i)))))))

  gives_null_or_missing : (x : Tall Expr) → FitsExpr below x → GivesExpr (suc below) (null_or_missing x)
  gives_null_or_missing x f =
      gives_if_word "NULL" (gives_past (gives_give _ (fits_above wraps_null x f))) (gives_word "MISSING" (gives_give _ (fits_above wraps_missing x f)))

  gives_negated : (p : Production (Tall Expr)) → GivesExpr (suc below) p → GivesExpr (suc below) (p >>= negated)
  gives_negated p g = gives_then negated g (λ x f. gives_give _ (fits_negated x f))

  gives_is_tested : (x : Tall Expr) → FitsExpr below x → GivesExpr (suc below) (is_tested x)
  gives_is_tested x f =
      gives_if_word "NOT" (gives_past (gives_negated (null_or_missing x) (gives_null_or_missing x f))) (gives_null_or_missing x f)

  gives_predicate : (x : Tall Expr) → x.height ≤ below → FitsExpr (suc below) x → GivesExpr (suc below) (predicate inner x)
  gives_predicate x low f =
      gives_if_word "IS" (gives_past (gives_is_tested x (fits_still x low f)))
      (gives_if_word "NOT" (gives_past (gives_negated (matched inner x) (gives_matched x low f)))
      (gives_matched x low f))

  gives_predicated : (x : Tall Expr) → FitsExpr (suc below) x → GivesExpr (suc below) (predicated below inner x)
  gives_predicated x f = gives_choose begins_predicate (tested (nat_le x.height below) refl) (gives_give x f) where
    tested : (b : Bool) → nat_le x.height below ≡ b → GivesExpr (suc below) (if b then predicate inner x else refuse kind.TooDeep)
    tested true e = gives_predicate x (leb-true x.height below e) f
    tested false e = gives_refuse (FitsExpr (suc below)) kind.TooDeep

  gives_compared : (x : Tall Expr) → FitsExpr (suc below) x → (found : Option Operator) → GivesExpr (suc below) (compared below inner x found)
  gives_compared x f None = gives_predicated x f
  gives_compared x f (Some o) =
      gives_operated x _ f (λ low o. gives_then _ fit.concatenation (λ y g. gives_give _ (fits_binary o x y low f g))) (Some o)

  gives_related : (x : Tall Expr) → FitsExpr (suc below) x → GivesExpr (suc below) (related below inner x)
  gives_related x f = record { at = λ r h. (gives_compared x f (comparing (token_of r))).at r h }

  -- ---- the layers

  gives_unary : GivesExpr (suc below) (unary below inner)
  gives_unary =
      gives_if_symbol "-" (gives_deeper below (gives_past (gives_then _ fit.unary (λ x f. gives_give _ (fits_above wraps_negate x f))))) gives_primary

  gives_product : GivesExpr (suc below) (product below inner)
  gives_product = gives_chain multiplicative inner.unary (unary below inner) fit.unary gives_unary

  gives_sum : GivesExpr (suc below) (sum below inner)
  gives_sum = gives_chain additive inner.product (product below inner) fit.product gives_product

  gives_concatenation : GivesExpr (suc below) (concatenation below inner)
  gives_concatenation = gives_chain joining inner.sum (sum below inner) fit.sum gives_sum

  gives_comparison : GivesExpr (suc below) (comparison below inner)
  gives_comparison = gives_then (related below inner) gives_concatenation gives_related

  gives_negation : GivesExpr (suc below) (negation below inner)
  gives_negation =
      gives_if_word "NOT" (gives_deeper below (gives_past (gives_then _ fit.negation (λ x f. gives_give _ (fits_above wraps_not x f))))) gives_comparison

  gives_conjunction : GivesExpr (suc below) (conjunction below inner)
  gives_conjunction = gives_chain (by_word (codes "AND") op.And) inner.negation (negation below inner) fit.negation gives_negation

  gives_disjunction : GivesExpr (suc below) (disjunction below inner)
  gives_disjunction = gives_chain (by_word (codes "OR") op.Or) inner.conjunction (conjunction below inner) fit.conjunction gives_conjunction

-- ---- all layers

gives_no_level : GivesExpr 0 no_level
gives_no_level = gives_choose begins_expression (gives_refuse (FitsExpr 0) kind.TooDeep) (gives_refuse (FitsExpr 0) kind.Unexpected)

layers_fit : (levels : ℕ) → LayersFit levels (layers levels)
unfolding layers
layers_fit zero = record {
  whole = gives_no_level;
  conjunction = gives_no_level;
  negation = gives_no_level;
  concatenation = gives_no_level;
  sum = gives_no_level;
  product = gives_no_level;
  unary = gives_no_level;
}
layers_fit (suc below) =
    let fit : LayersFit below (layers below) = layers_fit below in
    record {
      whole = gives_disjunction below (layers below) fit;
      conjunction = gives_conjunction below (layers below) fit;
      negation = gives_negation below (layers below) fit;
      concatenation = gives_concatenation below (layers below) fit;
      sum = gives_sum below (layers below) fit;
      product = gives_product below (layers below) fit;
      unary = gives_unary below (layers below) fit;
    }

-- ---- a whole expression, and a path that stands in none

expr_is_shallow : (x : Tall Expr) → FitsExpr 64 x → IsShallow x.tree
expr_is_shallow x f = omega (arith, f.high, f.nested, f.told)

path_is_shallow : (x : Tall Path) → FitsPath 64 x → IsShallowPath x.tree
path_is_shallow x f = omega (arith, f.high, f.nested, f.told)

pub gives_expression : Gives Expr IsShallow expression
unfolding expression
gives_expression = gives_then (λ (x : Tall Expr). give x.tree) (layers_fit 64).whole (λ x f. gives_give x.tree (expr_is_shallow x f))

pub gives_free_path : (first : List ℕ) → Gives Path IsShallowPath (free_path first)
unfolding free_path
gives_free_path first =
    gives_then (λ (p : Tall Path). give p.tree) (gives_path 64 (layers 64).whole (layers_fit 64).whole first) (λ p f. gives_give p.tree (path_is_shallow p f))
