-- The bound on the depth of an expression's value, by induction over expressions.
use Rattle.std.proofs.Common.{◌≡◌, ℕ, ◌+◌, ◌≤◌, max, List, [], ◌∷◌, map, refl, subst, arith, rules, slice_get}
use Rattle.std.specs.declared.option.Option.{Option}
use Rattle.std.specs.List.{flat_map}
use Rattle.std.proofs.lemmas.List.{map-append}
use Rattle.ion_values.specs.Depth.{depth_of, field_depth, deepest}
use Rattle.ion_values.specs.declared.value.Value.{Value}
use Rattle.pql_model.specs.declared.scope.Evaluated.{Evaluated}
use Rattle.pql_model.specs.declared.scope.Evaluated.TheVariants.{Missing, Found}
use Rattle.pql_model.specs.declared.expr.Expr.{Expr, roll-Expr}
use Rattle.pql_model.specs.declared.expr.Member.{Member, roll-Member}
use Rattle.pql_model.specs.declared.expr.Path.{Path, roll-Path}
use Rattle.pql_model.specs.declared.expr.PathStep.{PathStep, roll-PathStep}
use Rattle.pql_model.specs.declared.expr.Expr.TheOpen.{Expr-F, Member-F, Path-F, PathStep-F}
use Rattle.pql_model.specs.declared.expr.Expr.TheFolds.{ind-Expr, map-Expr, map-PathStep, fold-Member, fold-Path, fold-PathStep, the_lemmas}
use Rattle.pql_model.specs.Made.{found, onward, is_missing, is_unknown}
use Rattle.pql_model.specs.Logic.{truth_in}
use Rattle.pql_model.specs.Lists.{coalesce, field_in, value_in}
use Rattle.pql_model.specs.Meaning.{Context, Meant, each, expr_step, step_step, meaning, meaning_of_member, meaning_of_path, meaning_of_step, walked}
use Rattle.pql_model.specs.MeaningDepth.{DepthIsBounded, deepest_given, deepest_literal, depth_in, greatest, nesting, of_member, of_path, of_step}
use Rattle.pql_model.specs.Steps.{field_of, indexed, named}
use Rattle.pql_model.proofs.Depths.{at_field, depth_some, deepest_append, field_of_depth, found_depth, indexed_depth, list_depth, place_depth, struct_depth}
use Rattle.pql_model.proofs.MeaningDepths.{between_flat, char_length_flat, coalesce_step, is_in_flat, is_like_flat, minus_flat, named_depth, null_flat, negation_flat, operate_flat, size_flat, truth_flat}

abbrev member_literal : Member → ℕ
member_literal = fold-Member ℕ ℕ ℕ ℕ (greatest depth_of 0) of_step of_member of_path

abbrev member_nesting : Member → ℕ
member_nesting = fold-Member ℕ ℕ ℕ ℕ (greatest (λ v. 0) 1) of_step of_member of_path

abbrev path_literal : Path → ℕ
path_literal = fold-Path ℕ ℕ ℕ ℕ (greatest depth_of 0) of_step of_member of_path

abbrev path_nesting : Path → ℕ
path_nesting = fold-Path ℕ ℕ ℕ ℕ (greatest (λ v. 0) 1) of_step of_member of_path

abbrev step_literal : PathStep → ℕ
step_literal = fold-PathStep ℕ ℕ ℕ ℕ (greatest depth_of 0) of_step of_member of_path

abbrev step_nesting : PathStep → ℕ
step_nesting = fold-PathStep ℕ ℕ ℕ ℕ (greatest (λ v. 0) 1) of_step of_member of_path

abbrev OfExpr : Expr → Type 0
OfExpr e = (c : Context) → depth_in (meaning e c) ≤ max (deepest_given c) (deepest_literal e) + nesting e

-- a step goes no deeper
abbrev OfStep : PathStep → Type 0
OfStep s = (c : Context) (e : Evaluated) → depth_in (meaning_of_step s c e) ≤ depth_in e

abbrev OfMember : Member → Type 0
OfMember m = (c : Context) → deepest (map field_depth (meaning_of_member m c)) ≤ max (deepest_given c) (member_literal m) + member_nesting m

abbrev OfPath : Path → Type 0
OfPath p = (c : Context) → depth_in (meaning_of_path p c) ≤ deepest_given c

abbrev E : Type 0
E = (e : Expr) × OfExpr e

abbrev S : Type 0
S = (s : PathStep) × OfStep s

abbrev M : Type 0
M = (m : Member) × OfMember m

abbrev P : Type 0
P = (p : Path) × OfPath p

-- ---- lists of parts

value_in_depth : (e : Evaluated) → deepest (map depth_of (value_in e)) ≡ depth_in e
value_in_depth Missing = refl
value_in_depth (Found v) = omega arith

list_bound : (es : List E) (c : Context) → deepest (map depth_of (flat_map value_in (each (map meaning (map (λ e. e.0) es)) c))) ≤ max (deepest_given c) (deepest (map deepest_literal (map (λ e. e.0) es))) + deepest (map nesting (map (λ e. e.0) es))
list_bound [] c = omega arith
list_bound (e ∷ es) c =
    rw (map-append depth_of (value_in (meaning e.0 c)) _, deepest_append) (omega (arith, list_bound es c, e.1 c, value_in_depth (meaning e.0 c)))

struct_bound : (ms : List M) (c : Context) → deepest (map field_depth (flat_map (λ fields. fields) (each (map meaning_of_member (map (λ m. m.0) ms)) c))) ≤ max (deepest_given c) (deepest (map member_literal (map (λ m. m.0) ms))) + deepest (map member_nesting (map (λ m. m.0) ms))
struct_bound [] c = omega arith
struct_bound (m ∷ ms) c =
    rw (map-append field_depth (meaning_of_member m.0 c) _, deepest_append) (omega (arith, struct_bound ms c, m.1 c))

coalesce_bound : (es : List E) (c : Context) → depth_in (coalesce (each (map meaning (map (λ e. e.0) es)) c)) ≤ max (deepest_given c) (deepest (map deepest_literal (map (λ e. e.0) es))) + deepest (map nesting (map (λ e. e.0) es))
coalesce_bound [] c = omega (arith, null_flat)
coalesce_bound (e ∷ es) c = coalesce_step (meaning e.0 c) _ _ (omega (arith, e.1 c)) (omega (arith, coalesce_bound es c))

walked_bound : (ss : List S) (c : Context) (e : Evaluated) → depth_in (walked (map meaning_of_step (map (λ s. s.0) ss)) c e) ≤ depth_in e
walked_bound [] c e = omega arith
walked_bound (s ∷ ss) c e = omega (arith, walked_bound ss c (meaning_of_step s.0 c e), s.1 c e)

-- ---- one level

abbrev first : Expr-F E S M P → Expr-F Expr PathStep Member Path
first y = map-Expr _ _ _ _ _ _ _ _ (λ e. e.0) (λ s. s.0) (λ m. m.0) (λ p. p.0) y

abbrev meant : Expr-F Expr PathStep Member Path → Meant
meant x = expr_step (map-Expr _ _ _ _ _ _ _ _ meaning meaning_of_step meaning_of_member meaning_of_path x)

abbrev literals : Expr-F Expr PathStep Member Path → ℕ
literals x = greatest depth_of 0 (map-Expr _ _ _ _ _ _ _ _ deepest_literal step_literal member_literal path_literal x)

abbrev nested : Expr-F Expr PathStep Member Path → ℕ
nested x = greatest (λ v. 0) 1 (map-Expr _ _ _ _ _ _ _ _ nesting step_nesting member_nesting path_nesting x)

at_meaning : (x : Expr-F Expr PathStep Member Path) → meaning (roll-Expr x) ≡ meant x
at_meaning x = search (rules, the_lemmas)

at_literal : (x : Expr-F Expr PathStep Member Path) → deepest_literal (roll-Expr x) ≡ literals x
at_literal x = search (rules, the_lemmas)

at_nesting : (x : Expr-F Expr PathStep Member Path) → nesting (roll-Expr x) ≡ nested x
at_nesting x = search (rules, the_lemmas)

parameter_bound : (n : ℕ) (c : Context) → depth_in (found (slice_get c.params n)) ≤ deepest_given c
parameter_bound n c = omega (arith, found_depth (slice_get c.params n), place_depth c.params n)

level_bound : (y : Expr-F E S M P) (c : Context) → depth_in (meant (first y) c) ≤ max (deepest_given c) (literals (first y)) + nested (first y)
level_bound (Expr-F.Value v) c = omega arith
level_bound Expr-F.Missing c = omega arith
level_bound (Expr-F.Parameter n) c = omega (arith, parameter_bound n c)
level_bound (Expr-F.Path p) c = omega (arith, p.1 c)
level_bound (Expr-F.Negate e) c = omega (arith, minus_flat (meaning e.0 c))
level_bound (Expr-F.Not e) c = omega (arith, negation_flat (truth_in (meaning e.0 c)))
level_bound (Expr-F.List es) c = rw list_depth (omega (arith, list_bound es c))
level_bound (Expr-F.Struct ms) c = rw struct_depth (omega (arith, struct_bound ms c))
level_bound (Expr-F.Binary o left right) c = omega (arith, operate_flat o (meaning left.0 c) (meaning right.0 c))
level_bound (Expr-F.IsIn e list) c = omega (arith, is_in_flat (meaning e.0 c) (meaning list.0 c))
level_bound (Expr-F.Like e pattern) c = omega (arith, is_like_flat (meaning e.0 c) (meaning pattern.0 c))
level_bound (Expr-F.Between e low high) c = omega (arith, between_flat (meaning e.0 c) (meaning low.0 c) (meaning high.0 c))
level_bound (Expr-F.IsNull e) c = omega (arith, truth_flat (is_unknown (meaning e.0 c)))
level_bound (Expr-F.IsMissing e) c = omega (arith, truth_flat (is_missing (meaning e.0 c)))
level_bound (Expr-F.Coalesce es) c = omega (arith, coalesce_bound es c)
level_bound (Expr-F.Size e) c = omega (arith, size_flat (meaning e.0 c))
level_bound (Expr-F.CharLength e) c = omega (arith, char_length_flat (meaning e.0 c))
level_bound Expr-F.CountAll c = omega arith
level_bound (Expr-F.Count e) c = omega arith
level_bound (Expr-F.Sum e) c = omega arith
level_bound (Expr-F.Min e) c = omega arith
level_bound (Expr-F.Max e) c = omega arith

of_expr : (y : Expr-F E S M P) → OfExpr (roll-Expr (first y))
of_expr y c = rw (at_meaning (first y), at_literal (first y), at_nesting (first y)) (level_bound y c)

-- ---- steps, members and paths

onward_bound : (f : Value → Option Value) → ((v : Value) → depth_some (f v) ≤ depth_of v) → (e : Evaluated) → depth_in (onward (λ v. found (f v)) e) ≤ depth_in e
onward_bound f h Missing = omega arith
onward_bound f h (Found v) = omega (arith, found_depth (f v), h v)

indexed_bound : (i e : Evaluated) → depth_in (onward (λ w. onward (λ v. found (indexed w v)) e) i) ≤ depth_in e
indexed_bound Missing e = omega arith
indexed_bound (Found w) e = onward_bound (indexed w) (indexed_depth w) e

at_step : (x : PathStep-F Expr PathStep Member Path) → meaning_of_step (roll-PathStep x) ≡ step_step (map-PathStep _ _ _ _ _ _ _ _ meaning meaning_of_step meaning_of_member meaning_of_path x)
at_step x = search (rules, the_lemmas)

step_bound : (y : PathStep-F E S M P) (c : Context) (e : Evaluated) → depth_in (step_step (map-PathStep _ _ _ _ _ _ _ _ meaning meaning_of_step meaning_of_member meaning_of_path (map-PathStep _ _ _ _ _ _ _ _ (λ e. e.0) (λ s. s.0) (λ m. m.0) (λ p. p.0) y)) c e) ≤ depth_in e
step_bound (PathStep-F.Field name) c e = onward_bound (field_of name) (field_of_depth name) e
step_bound (PathStep-F.Index i) c e = indexed_bound (meaning i.0 c) e

of_path_step : (y : PathStep-F E S M P) → OfStep (roll-PathStep (map-PathStep _ _ _ _ _ _ _ _ (λ e. e.0) (λ s. s.0) (λ m. m.0) (λ p. p.0) y))
of_path_step y c e = rw (at_step (map-PathStep _ _ _ _ _ _ _ _ (λ e. e.0) (λ s. s.0) (λ m. m.0) (λ p. p.0) y)) (step_bound y c e)

field_in_depth : (name : List ℕ) (e : Evaluated) → deepest (map field_depth (field_in name e)) ≡ depth_in e
field_in_depth name Missing = refl
field_in_depth name (Found v) = omega (arith, at_field (record { name = name; value = v }))

at_member : (x : Member-F Expr PathStep Member Path) (c : Context) → meaning_of_member (roll-Member x) c ≡ field_in x.name (meaning x.value c)
at_member x c = search (rules, the_lemmas)

at_member_literal : (x : Member-F Expr PathStep Member Path) → member_literal (roll-Member x) ≡ deepest_literal x.value
at_member_literal x = search (rules, the_lemmas)

at_member_nesting : (x : Member-F Expr PathStep Member Path) → member_nesting (roll-Member x) ≡ nesting x.value
at_member_nesting x = search (rules, the_lemmas)

member_bound : (x : Member-F Expr PathStep Member Path) → OfExpr x.value → OfMember (roll-Member x)
member_bound x h c =
    rw (at_member x c, at_member_literal x, at_member_nesting x, field_in_depth x.name (meaning x.value c)) (h c)

at_path : (x : Path-F Expr PathStep Member Path) (c : Context) → meaning_of_path (roll-Path x) c ≡ walked (map meaning_of_step x.steps) c (named x.first c.is_whole c.scope)
at_path x c = search (rules, the_lemmas)

path_bound : (name : List ℕ) (ss : List S) → OfPath (roll-Path (record { first = name; steps = map (λ s. s.0) ss }))
path_bound name ss c =
    rw (at_path (record { first = name; steps = map (λ s. s.0) ss }) c) (omega (arith, walked_bound ss c (named name c.is_whole c.scope), named_depth name c.is_whole c.scope))

-- ---- the whole

pub depth_is_bounded : DepthIsBounded
depth_is_bounded =
    ind-Expr OfExpr OfStep OfMember OfPath
    (λ x y is. subst (λ z. OfExpr (roll-Expr z)) is (of_expr y))
    (λ x y is. subst (λ z. OfStep (roll-PathStep z)) is (of_path_step y))
    (λ x y is. subst (λ z. OfMember (roll-Member z)) is (member_bound _ y.value.1))
    (λ x y is. subst (λ z. OfPath (roll-Path z)) is (path_bound y.first y.steps))
