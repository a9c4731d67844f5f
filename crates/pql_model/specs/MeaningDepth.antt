-- How deep the value of an expression can be (own): at most as much deeper than the deepest of its row, its
-- parameters and its literals as its list and struct constructors nest.
use Rattle.std.specs.Prelude.{ℕ, ◌+◌, ◌≤◌, max, map}
use Rattle.ion_values.specs.Depth.{depth_of, deepest}
use Rattle.ion_values.specs.declared.value.Value.{Value}
use Rattle.pql_model.specs.declared.scope.Evaluated.{Evaluated}
use Rattle.pql_model.specs.declared.scope.Evaluated.TheVariants.{Missing, Found}
use Rattle.pql_model.specs.declared.expr.Expr.{Expr}
use Rattle.pql_model.specs.declared.expr.Expr.TheOpen.{Expr-F, Member-F, Path-F, PathStep-F}
use Rattle.pql_model.specs.declared.expr.Expr.TheFolds.{fold-Expr}
use Rattle.pql_model.specs.Meaning.{Context, meaning}

-- MISSING is as deep as a scalar
abbrev pub depth_in : Evaluated → ℕ
depth_in Missing = 0
depth_in (Found v) = depth_of v

-- the deepest of the row's values and of the parameters
abbrev pub deepest_given : Context → ℕ
deepest_given c = max (deepest (map (λ b. depth_of b.value) c.scope)) (deepest (map depth_of c.params))

-- the greatest of the parts, a literal counting as given, and so much more at each list and struct constructor
abbrev pub greatest : (Value → ℕ) → ℕ → Expr-F ℕ ℕ ℕ ℕ → ℕ
greatest literal more (Expr-F.Value v) = literal v
greatest literal more Expr-F.Missing = 0
greatest literal more (Expr-F.Parameter n) = 0
greatest literal more (Expr-F.Path path) = path
greatest literal more (Expr-F.Negate e) = e
greatest literal more (Expr-F.Not e) = e
greatest literal more (Expr-F.List es) = deepest es + more
greatest literal more (Expr-F.Struct ms) = deepest ms + more
greatest literal more (Expr-F.Binary o left right) = max left right
greatest literal more (Expr-F.IsIn e list) = max e list
greatest literal more (Expr-F.Like e pattern) = max e pattern
greatest literal more (Expr-F.Between e low high) = max e (max low high)
greatest literal more (Expr-F.IsNull e) = e
greatest literal more (Expr-F.IsMissing e) = e
greatest literal more (Expr-F.Coalesce es) = deepest es
greatest literal more (Expr-F.Size e) = e
greatest literal more (Expr-F.CharLength e) = e
greatest literal more Expr-F.CountAll = 0
greatest literal more (Expr-F.Count e) = e
greatest literal more (Expr-F.Sum e) = e
greatest literal more (Expr-F.Min e) = e
greatest literal more (Expr-F.Max e) = e

abbrev pub of_step : PathStep-F ℕ ℕ ℕ ℕ → ℕ
of_step (PathStep-F.Field name) = 0
of_step (PathStep-F.Index i) = i

abbrev pub of_member : Member-F ℕ ℕ ℕ ℕ → ℕ
of_member m = m.value

abbrev pub of_path : Path-F ℕ ℕ ℕ ℕ → ℕ
of_path p = deepest p.steps

-- the deepest literal of the tree
abbrev pub deepest_literal : Expr → ℕ
deepest_literal = fold-Expr ℕ ℕ ℕ ℕ (greatest depth_of 0) of_step of_member of_path

-- how deep its list and struct constructors nest
abbrev pub nesting : Expr → ℕ
nesting = fold-Expr ℕ ℕ ℕ ℕ (greatest (λ v. 0) 1) of_step of_member of_path

abbrev pub DepthIsBounded : Type 0
DepthIsBounded =
    (e : Expr) (c : Context) → depth_in (meaning e c) ≤ max (deepest_given c) (deepest_literal e) + nesting e
