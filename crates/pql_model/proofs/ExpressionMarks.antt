-- The grammar of expressions and paths only adds marks, layer by layer.
use Prim.Native.String.{String}
use Rattle.std.proofs.Common.{◌≡◌, ℕ, zero, suc, ◌+◌, max, nat_le, List, [], ◌∷◌, ◌++◌, length, Option, Some, None, codes, refl}
use Rattle.pql_model.specs.declared.ParseKind.TheVariants as kind
use Rattle.pql_model.specs.declared.expr.Expr.{Expr}
use Rattle.pql_model.specs.declared.expr.Expr.TheVariants as expr
use Rattle.pql_model.specs.declared.expr.Member.{Member}
use Rattle.pql_model.specs.declared.expr.Operator.{Operator}
use Rattle.pql_model.specs.declared.expr.Operator.TheVariants as op
use Rattle.pql_model.specs.declared.expr.Path.{Path}
use Rattle.pql_model.specs.declared.expr.PathStep.{PathStep}
use Rattle.pql_model.specs.declared.expr.PathStep.TheVariants as step
use Rattle.pql_model.specs.declared.mark.Role.TheVariants as role
use Rattle.pql_model.specs.declared.token.Token.{Token}
use Rattle.pql_model.specs.declared.token.Token.TheVariants as token
use Rattle.pql_model.specs.Expressions.{Layers, Tall, additive, aggregate, begins_expression, begins_predicate, binary, bracket, bracketed, by_word, call, chain, coalesce, compared, comparing, comparison, concatenation, conjunction, constant_of, constant_or, count, disjunction, enclosed, expression, free_path, function, is_tested, joining, layers, list_of, matched, member, member_named, multiplicative, named, negated, negation, no_level, null_or_missing, operated, operators, parted, path_from, path_of, predicate, predicated, primary, product, related, steps, sum, tall, unary}
use Rattle.pql_model.specs.Productions.{Production, ◌>>=◌, give, past, symbol, token_of}
use Rattle.pql_model.specs.Words.{any_name_of}
use Rattle.pql_model.proofs.MarksKept.{Any, Keeps, keeps_by_name, keeps_choice, keeps_choose, keeps_deeper, keeps_give, keeps_if_symbol, keeps_if_word, keeps_marked, keeps_past, keeps_refuse, keeps_symbol, keeps_then, keeps_with_name, keeps_word}

abbrev pub KeepsExpr : Production (Tall Expr) → Type 0
KeepsExpr p = Keeps (Tall Expr) Any p

-- ---- lists

keeps_parted : {A : Type 0} → (part : Production (Tall A)) → Keeps (Tall A) Any part → (more : ℕ)
    (so_far : Tall (List A)) → Keeps (Tall (List A)) Any (parted more part so_far)
keeps_parted part k zero so_far = keeps_refuse Any kind.Unexpected
keeps_parted part k (suc more) so_far =
    keeps_then _ k (λ x h. keeps_if_symbol "," (keeps_past (keeps_parted part k more _)) (keeps_give _ tt))

keeps_list : {A : Type 0} → (part : Production (Tall A)) → Keeps (Tall A) Any part
    → Keeps (Tall (List A)) Any (list_of part)
keeps_list part k = record { at = λ r. (keeps_parted part k (length r.rest) (tall [] 0)).at r }

keeps_enclosed : {A : Type 0} → (close : String) (part : Production (Tall A)) → Keeps (Tall A) Any part
    → Keeps (Tall (List A)) Any (enclosed close part)
keeps_enclosed close part k =
    keeps_if_symbol close (keeps_past (keeps_give (tall [] 0) tt))
    (keeps_then _ (keeps_list part k) (λ xs h. keeps_symbol close (keeps_give xs tt)))

-- ---- paths

-- the path has this first name
abbrev pub BeginsWith : List ℕ → Path → Type 0
BeginsWith first p = p.first ≡ first

abbrev more_steps : Tall (List PathStep) → PathStep → ℕ → Tall (List PathStep)
more_steps so_far s height = tall (so_far.tree ++ s ∷ []) (max so_far.height height)

module _ (below : ℕ) (index : Production (Tall Expr)) (k : KeepsExpr index) where
  -- behind an index
  abbrev indexed : ℕ → Tall (List PathStep) → Tall Expr → Production (Tall (List PathStep))
  indexed more so_far x = symbol "]" (steps more below index (more_steps so_far (step.Index x.tree) x.height))

  -- behind a point
  abbrev stepped : ℕ → Tall (List PathStep) → List ℕ → Production (Tall (List PathStep))
  stepped more so_far text = past (steps more below index (more_steps so_far (step.Field text) 0))

  keeps_steps : (more : ℕ) (so_far : Tall (List PathStep))
      → Keeps (Tall (List PathStep)) Any (steps more below index so_far)
  keeps_steps zero so_far = keeps_give so_far tt
  keeps_steps (suc more) so_far =
      keeps_if_symbol "."
      (keeps_past (record {
        at = λ r. (keeps_by_name (stepped more so_far) (λ text. keeps_past (keeps_steps more
            (more_steps so_far (step.Field text) 0))) (any_name_of (token_of r))).at r;
      }))
      (keeps_if_symbol "["
      (keeps_deeper below (keeps_past (keeps_then (indexed more so_far) k (λ x h.
      keeps_symbol "]" (keeps_steps more (more_steps so_far (step.Index x.tree) x.height))))))
      (keeps_give so_far tt))

  keeps_path : (first : List ℕ)
      → Keeps (Tall Path) (λ p. BeginsWith first p.tree) (path_from below index first)
  keeps_path first =
      record {
        at = λ r. (keeps_then (λ (s : Tall (List PathStep)). give (tall (path_of first s.tree) s.height))
            (keeps_steps (length r.rest) (tall [] 0)) (λ s h. keeps_give _ refl)).at r;
      }

-- ---- brackets and calls

record LayersKeep (inner : Layers) : Type 0 where
  whole : KeepsExpr inner.whole
  conjunction : KeepsExpr inner.conjunction
  negation : KeepsExpr inner.negation
  concatenation : KeepsExpr inner.concatenation
  sum : KeepsExpr inner.sum
  product : KeepsExpr inner.product
  unary : KeepsExpr inner.unary

module _ (below : ℕ) (inner : Layers) (keep : LayersKeep inner) where
  keeps_bracketed : KeepsExpr (bracketed inner)
  keeps_bracketed = keeps_then _ keep.whole (λ x h. keeps_symbol ")" (keeps_give _ tt))

  keeps_call : (make : Expr → Expr) → KeepsExpr (call inner make)
  keeps_call make = keeps_symbol "(" (keeps_then _ keep.whole (λ x h. keeps_symbol ")" (keeps_give _ tt)))

  keeps_coalesce : KeepsExpr (coalesce inner)
  keeps_coalesce =
      keeps_symbol "("
      (keeps_then _ (keeps_list inner.whole keep.whole) (λ xs h. keeps_symbol ")" (keeps_give _ tt)))

  keeps_count : KeepsExpr (count inner)
  keeps_count =
      keeps_symbol "("
      (keeps_if_symbol "*" (keeps_past (keeps_symbol ")" (keeps_give _ tt)))
      (keeps_then _ keep.whole (λ x h. keeps_symbol ")" (keeps_give _ tt))))

  keeps_member_named : (t : Token) → Keeps (Tall Member) Any (member_named below inner t)
  keeps_member_named (token.String text) =
      keeps_deeper below (keeps_past (keeps_symbol ":" (keeps_then _ keep.whole (λ x h. keeps_give _ tt))))
  keeps_member_named _ = keeps_refuse Any kind.Unexpected

  keeps_member : Keeps (Tall Member) Any (member below inner)
  keeps_member = record { at = λ r. (keeps_member_named (token_of r)).at r }

  keeps_named : KeepsExpr (named below inner)
  keeps_named =
      keeps_with_name _
      (λ first. keeps_marked (role.Name first) (keeps_past (keeps_then _ (keeps_path below inner.whole keep.whole
      first) (λ p h. keeps_give _ tt))))

  keeps_aggregate : KeepsExpr (aggregate below inner)
  keeps_aggregate =
      keeps_if_word "COUNT" (keeps_marked role.Aggregate (keeps_past keeps_count))
      (keeps_if_word "SUM" (keeps_deeper below (keeps_marked role.Aggregate (keeps_past (keeps_call expr.Sum))))
      (keeps_if_word "MIN" (keeps_deeper below (keeps_marked role.Aggregate (keeps_past (keeps_call expr.Min))))
      (keeps_if_word "MAX" (keeps_deeper below (keeps_marked role.Aggregate (keeps_past (keeps_call expr.Max))))
      keeps_named)))

  keeps_function : KeepsExpr (function below inner)
  keeps_function =
      keeps_if_word "COALESCE" (keeps_deeper below (keeps_past keeps_coalesce))
      (keeps_if_word "SIZE" (keeps_deeper below (keeps_past (keeps_call expr.Size)))
      (keeps_if_word "CHAR_LENGTH" (keeps_deeper below (keeps_past (keeps_call expr.CharLength)))
      keeps_aggregate))

  keeps_bracket : KeepsExpr (bracket below inner)
  keeps_bracket =
      keeps_if_symbol "(" (keeps_deeper below (keeps_past keeps_bracketed))
      (keeps_if_symbol "[" (keeps_past (keeps_then _ (keeps_enclosed "]" inner.whole keep.whole)
      (λ xs h. keeps_give _ tt)))
      (keeps_if_symbol "<<" (keeps_past (keeps_then _ (keeps_enclosed ">>" inner.whole keep.whole)
      (λ xs h. keeps_give _ tt)))
      (keeps_if_symbol "{" (keeps_past (keeps_then _ (keeps_enclosed "}" (member below inner) keeps_member)
      (λ ms h. keeps_give _ tt)))
      keeps_function)))

  keeps_constant_or : (found : Option Expr) → KeepsExpr (constant_or (bracket below inner) found)
  keeps_constant_or (Some e) = keeps_past (keeps_give (tall e 1) tt)
  keeps_constant_or None = keeps_bracket

  keeps_primary : KeepsExpr (primary below inner)
  keeps_primary = record { at = λ r. (keeps_constant_or (constant_of (token_of r))).at r }

  -- ---- operators

  keeps_operated : (x : Tall Expr) (next : Operator → Production (Tall Expr))
      → ((o : Operator) → KeepsExpr (next o)) → (found : Option Operator)
      → KeepsExpr (operated below x next found)
  keeps_operated x next k None = keeps_give x tt
  keeps_operated x next k (Some o) =
      keeps_choice (nat_le x.height below) (keeps_past (k o)) (keeps_refuse Any kind.TooDeep)

  keeps_operators : (which : Token → Option Operator) (right : Production (Tall Expr)) → KeepsExpr right
      → (more : ℕ) (x : Tall Expr) → KeepsExpr (operators more below which right x)
  keeps_operators which right k zero x = keeps_give x tt
  keeps_operators which right k (suc more) x =
      record {
        at = λ r. (keeps_operated x (λ o. right >>= (λ y. operators more below which right (binary o x y))) (λ o.
            keeps_then (λ y. operators more below which right (binary o x y)) k (λ y h.
            keeps_operators which right k more (binary o x y))) (which (token_of r))).at r;
      }

  keeps_chain : (which : Token → Option Operator) (right left : Production (Tall Expr)) → KeepsExpr right
      → KeepsExpr left → KeepsExpr (chain below which right left)
  keeps_chain which right left k l = keeps_then _ l (λ x h. keeps_operators which right k (below + 1) x)

  -- ---- comparisons

  keeps_matched : (x : Tall Expr) → KeepsExpr (matched inner x)
  keeps_matched x =
      keeps_if_word "IN" (keeps_past (keeps_then _ keep.concatenation (λ y h. keeps_give _ tt)))
      (keeps_if_word "LIKE" (keeps_past (keeps_then _ keep.concatenation (λ y h. keeps_give _ tt)))
      (keeps_word "BETWEEN" (keeps_then _ keep.concatenation
      (λ y h. keeps_word "AND" (keeps_then _ keep.concatenation (λ z i. keeps_give _ tt))))))

  keeps_null_or_missing : (x : Tall Expr) → KeepsExpr (null_or_missing x)
  keeps_null_or_missing x =
      keeps_if_word "NULL" (keeps_past (keeps_give _ tt)) (keeps_word "MISSING" (keeps_give _ tt))

  keeps_negated : (p : Production (Tall Expr)) → KeepsExpr p → KeepsExpr (p >>= negated)
  keeps_negated p k = keeps_then negated k (λ x h. keeps_give _ tt)

  keeps_is_tested : (x : Tall Expr) → KeepsExpr (is_tested x)
  keeps_is_tested x =
      keeps_if_word "NOT" (keeps_past (keeps_negated (null_or_missing x) (keeps_null_or_missing x)))
      (keeps_null_or_missing x)

  keeps_predicate : (x : Tall Expr) → KeepsExpr (predicate inner x)
  keeps_predicate x =
      keeps_if_word "IS" (keeps_past (keeps_is_tested x))
      (keeps_if_word "NOT" (keeps_past (keeps_negated (matched inner x) (keeps_matched x)))
      (keeps_matched x))

  keeps_predicated : (x : Tall Expr) → KeepsExpr (predicated below inner x)
  keeps_predicated x =
      keeps_choose begins_predicate
      (keeps_choice (nat_le x.height below) (keeps_predicate x) (keeps_refuse Any kind.TooDeep)) (keeps_give x tt)

  keeps_compared : (x : Tall Expr) (found : Option Operator) → KeepsExpr (compared below inner x found)
  keeps_compared x None = keeps_predicated x
  keeps_compared x (Some o) =
      keeps_operated x (λ p. inner.concatenation >>= (λ y. give (binary p x y))) (λ p.
      keeps_then (λ y. give (binary p x y)) keep.concatenation (λ y h. keeps_give (binary p x y) tt)) (Some o)

  keeps_related : (x : Tall Expr) → KeepsExpr (related below inner x)
  keeps_related x = record { at = λ r. (keeps_compared x (comparing (token_of r))).at r }

  -- ---- the layers

  keeps_unary : KeepsExpr (unary below inner)
  keeps_unary =
      keeps_if_symbol "-" (keeps_deeper below (keeps_past (keeps_then _ keep.unary (λ x h. keeps_give _ tt))))
      keeps_primary

  keeps_product : KeepsExpr (product below inner)
  keeps_product = keeps_chain multiplicative inner.unary (unary below inner) keep.unary keeps_unary

  keeps_sum : KeepsExpr (sum below inner)
  keeps_sum = keeps_chain additive inner.product (product below inner) keep.product keeps_product

  keeps_concatenation : KeepsExpr (concatenation below inner)
  keeps_concatenation = keeps_chain joining inner.sum (sum below inner) keep.sum keeps_sum

  keeps_comparison : KeepsExpr (comparison below inner)
  keeps_comparison = keeps_then (related below inner) keeps_concatenation (λ x h. keeps_related x)

  keeps_negation : KeepsExpr (negation below inner)
  keeps_negation =
      keeps_if_word "NOT" (keeps_deeper below (keeps_past (keeps_then _ keep.negation (λ x h. keeps_give _ tt))))
      keeps_comparison

  keeps_conjunction : KeepsExpr (conjunction below inner)
  keeps_conjunction =
      keeps_chain (by_word (codes "AND") op.And) inner.negation (negation below inner) keep.negation keeps_negation

  keeps_disjunction : KeepsExpr (disjunction below inner)
  keeps_disjunction =
      keeps_chain (by_word (codes "OR") op.Or) inner.conjunction (conjunction below inner) keep.conjunction
      keeps_conjunction

-- ---- all layers

keeps_no_level : KeepsExpr no_level
keeps_no_level =
    keeps_choose begins_expression (keeps_refuse Any kind.TooDeep) (keeps_refuse Any kind.Unexpected)

layers_keep : (levels : ℕ) → LayersKeep (layers levels)
unfolding layers
layers_keep zero = record {
  whole = keeps_no_level;
  conjunction = keeps_no_level;
  negation = keeps_no_level;
  concatenation = keeps_no_level;
  sum = keeps_no_level;
  product = keeps_no_level;
  unary = keeps_no_level;
}
layers_keep (suc below) =
    let keep : LayersKeep (layers below) = layers_keep below in
    record {
      whole = keeps_disjunction below (layers below) keep;
      conjunction = keeps_conjunction below (layers below) keep;
      negation = keeps_negation below (layers below) keep;
      concatenation = keeps_concatenation below (layers below) keep;
      sum = keeps_sum below (layers below) keep;
      product = keeps_product below (layers below) keep;
      unary = keeps_unary below (layers below) keep;
    }

-- ---- a whole expression, and a path that stands in none

pub keeps_expression : Keeps Expr Any expression
unfolding expression
keeps_expression = keeps_then (λ (x : Tall Expr). give x.tree) (layers_keep 64).whole (λ x h. keeps_give x.tree tt)

pub keeps_free_path : (first : List ℕ) → Keeps Path (BeginsWith first) (free_path first)
unfolding free_path
keeps_free_path first =
    keeps_then (λ (p : Tall Path). give p.tree) (keeps_path 64 (layers 64).whole (layers_keep 64).whole first)
    (λ p h. keeps_give p.tree h)
