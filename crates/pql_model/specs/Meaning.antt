-- The meaning of an expression under one row and the parameters (PartiQL; the profile is the ledger's own): MISSING
-- or a value, and never an error.
use Rattle.std.specs.Prelude.{Bool, true, false, not, List, [], ◌∷◌, map, slice_get}
use Rattle.std.specs.Ordering.{is_lt, is_le, is_gt, is_ge}
use Rattle.ion_values.specs.declared.value.Value.{Value}
use Rattle.ion_values.specs.declared.value.Field.{Field}
use Rattle.pql_model.specs.declared.scope.Bound.{Bound}
use Rattle.pql_model.specs.declared.scope.Evaluated.{Evaluated}
use Rattle.pql_model.specs.declared.scope.Evaluated.TheVariants.{Missing, Found}
use Rattle.pql_model.specs.declared.expr.Operator.{Operator}
use Rattle.pql_model.specs.declared.expr.Operator.TheVariants as op
use Rattle.pql_model.specs.declared.expr.Expr.{Expr}
use Rattle.pql_model.specs.declared.expr.Member.{Member}
use Rattle.pql_model.specs.declared.expr.Path.{Path}
use Rattle.pql_model.specs.declared.expr.PathStep.{PathStep}
use Rattle.pql_model.specs.declared.expr.Expr.TheOpen.{Expr-F, Member-F, Path-F, PathStep-F}
use Rattle.pql_model.specs.declared.expr.Expr.TheFolds.{fold-Expr, fold-Member, fold-Path, fold-PathStep}
use Rattle.pql_model.specs.Made.{truth, found, onward, is_missing, is_unknown}
use Rattle.pql_model.specs.Steps.{field_of, indexed, named}
use Rattle.pql_model.specs.Comparisons.{of_both, are_equal, in_order}
use Rattle.pql_model.specs.Logic.{conjunction, disjunction, negation, truth_in, truth_of}
use Rattle.pql_model.specs.Arithmetic.{sum, difference, product, quotient, remainder, minus}
use Rattle.pql_model.specs.Texts.{joined, like, char_length}
use Rattle.pql_model.specs.Lists.{is_in, between, list_of, field_in, struct_of, coalesce, size}

-- one row of the sources, whether these are all sources of the statement, and the parameters
pub record Context : Type 0 where
  pub scope : List Bound
  pub is_whole : Bool
  pub params : List Value

abbrev pub under : List Bound → List Value → Context
under scope params = record { scope = scope; is_whole = true; params = params }

-- what a path source sees: the sources before it
abbrev pub before : List Bound → List Value → Context
before scope params = record { scope = scope; is_whole = false; params = params }

-- what a context gives an expression, a member and a step of a path
abbrev pub Meant : Type 0
Meant = Context → Evaluated

abbrev pub Given : Type 0
Given = Context → List Field

abbrev pub Stepped : Type 0
Stepped = Context → Evaluated → Evaluated

-- what an operator gives for two values
abbrev pub of_values : Operator → Value → Value → Evaluated
of_values op.Or v w = disjunction (truth_of v) (truth_of w)
of_values op.And v w = conjunction (truth_of v) (truth_of w)
of_values op.Equal v w = truth (are_equal v w)
of_values op.NotEqual v w = truth (not (are_equal v w))
of_values op.Less v w = in_order is_lt v w
of_values op.AtMost v w = in_order is_le v w
of_values op.Greater v w = in_order is_gt v w
of_values op.AtLeast v w = in_order is_ge v w
of_values op.Concat v w = joined v w
of_values op.Plus v w = sum v w
of_values op.Minus v w = difference v w
of_values op.Times v w = product v w
of_values op.Divide v w = quotient v w
of_values op.Remainder v w = remainder v w

-- OR and AND take MISSING and null for neither true nor false; with any other operator MISSING gives MISSING, and
-- else null gives NULL
abbrev pub operate : Operator → Evaluated → Evaluated → Evaluated
operate op.Or left right = disjunction (truth_in left) (truth_in right)
operate op.And left right = conjunction (truth_in left) (truth_in right)
operate o left right = of_both (of_values o) left right

-- what each gives in one context
abbrev pub each : {A : Type 0} → List (Context → A) → Context → List A
each ms c = map (λ m. m c) ms

-- one step after the other
abbrev pub walked : List Stepped → Context → Evaluated → Evaluated
walked [] c e = e
walked (s ∷ ss) c e = walked ss c (s c e)

-- an aggregate that isn't an item of a SELECT of aggregates alone is MISSING
abbrev pub expr_step : Expr-F Meant Stepped Given Meant → Meant
expr_step (Expr-F.Value v) c = Found v
expr_step Expr-F.Missing c = Missing
expr_step (Expr-F.Parameter n) c = found (slice_get c.params n)
expr_step (Expr-F.Path path) c = path c
expr_step (Expr-F.Negate e) c = minus (e c)
expr_step (Expr-F.Not e) c = negation (truth_in (e c))
expr_step (Expr-F.List es) c = list_of (each es c)
expr_step (Expr-F.Struct ms) c = struct_of (each ms c)
expr_step (Expr-F.Binary o left right) c = operate o (left c) (right c)
expr_step (Expr-F.IsIn e list) c = is_in (e c) (list c)
expr_step (Expr-F.Like e pattern) c = of_both like (e c) (pattern c)
expr_step (Expr-F.Between e low high) c = between (e c) (low c) (high c)
expr_step (Expr-F.IsNull e) c = truth (is_unknown (e c))
expr_step (Expr-F.IsMissing e) c = truth (is_missing (e c))
expr_step (Expr-F.Coalesce es) c = coalesce (each es c)
expr_step (Expr-F.Size e) c = size (e c)
expr_step (Expr-F.CharLength e) c = char_length (e c)
expr_step Expr-F.CountAll c = Missing
expr_step (Expr-F.Count e) c = Missing
expr_step (Expr-F.Sum e) c = Missing
expr_step (Expr-F.Min e) c = Missing
expr_step (Expr-F.Max e) c = Missing

abbrev pub step_step : PathStep-F Meant Stepped Given Meant → Stepped
step_step (PathStep-F.Field name) c e = onward (λ v. found (field_of name v)) e
step_step (PathStep-F.Index i) c e = onward (λ w. onward (λ v. found (indexed w v)) e) (i c)

abbrev pub member_step : Member-F Meant Stepped Given Meant → Given
member_step m c = field_in m.name (m.value c)

abbrev pub path_step : Path-F Meant Stepped Given Meant → Meant
path_step p c = walked p.steps c (named p.first c.is_whole c.scope)

abbrev pub meaning : Expr → Meant
meaning = fold-Expr Meant Stepped Given Meant expr_step step_step member_step path_step

abbrev pub meaning_of_path : Path → Meant
meaning_of_path = fold-Path Meant Stepped Given Meant expr_step step_step member_step path_step

abbrev pub meaning_of_member : Member → Given
meaning_of_member = fold-Member Meant Stepped Given Meant expr_step step_step member_step path_step

abbrev pub meaning_of_step : PathStep → Stepped
meaning_of_step = fold-PathStep Meant Stepped Given Meant expr_step step_step member_step path_step
