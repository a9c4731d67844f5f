-- What a path means is no deeper than the deepest value of its row, whatever its indexes are.
use Rattle.std.proofs.Common.{◌≡◌, ℕ, ◌≤◌, List, [], ◌∷◌, map, subst, arith, rules}
use Rattle.std.specs.declared.option.Option.{Option}
use Rattle.ion_values.specs.Depth.{depth_of, deepest}
use Rattle.ion_values.specs.declared.value.Value.{Value}
use Rattle.pql_model.specs.declared.scope.Bound.{Bound}
use Rattle.pql_model.specs.declared.scope.Evaluated.{Evaluated}
use Rattle.pql_model.specs.declared.scope.Evaluated.TheVariants.{Missing, Found}
use Rattle.pql_model.specs.declared.expr.Expr.{Expr}
use Rattle.pql_model.specs.declared.expr.Member.{Member}
use Rattle.pql_model.specs.declared.expr.Path.{Path, roll-Path}
use Rattle.pql_model.specs.declared.expr.PathStep.{PathStep, roll-PathStep}
use Rattle.pql_model.specs.declared.expr.Expr.TheOpen.{Path-F, PathStep-F}
use Rattle.pql_model.specs.declared.expr.Expr.TheFolds.{ind-Path, map-PathStep, the_lemmas}
use Rattle.pql_model.specs.Made.{found, onward}
use Rattle.pql_model.specs.Meaning.{Context, meaning, meaning_of_member, meaning_of_path, meaning_of_step, step_step, walked}
use Rattle.pql_model.specs.MeaningDepth.{depth_in}
use Rattle.pql_model.specs.Steps.{field_of, indexed, named}
use Rattle.pql_model.proofs.Depths.{depth_some, field_of_depth, found_depth, indexed_depth}
use Rattle.pql_model.proofs.MeaningDepths.{named_depth}

-- the deepest value of a row
abbrev pub scope_depth : List Bound → ℕ
scope_depth scope = deepest (map (λ b. depth_of b.value) scope)

abbrev AnyExpr : Expr → Type 0
AnyExpr e = Unit {0}

abbrev AnyMember : Member → Type 0
AnyMember m = Unit {0}

-- a step goes no deeper
abbrev OfStep : PathStep → Type 0
OfStep s = (c : Context) (e : Evaluated) → depth_in (meaning_of_step s c e) ≤ depth_in e

abbrev OfPath : Path → Type 0
OfPath p = (c : Context) → depth_in (meaning_of_path p c) ≤ scope_depth c.scope

abbrev S : Type 0
S = (s : PathStep) × OfStep s

walked_bound : (ss : List S) (c : Context) (e : Evaluated) → depth_in (walked (map meaning_of_step (map (λ s. s.0) ss)) c e) ≤ depth_in e
walked_bound [] c e = omega arith
walked_bound (s ∷ ss) c e = omega (arith, walked_bound ss c (meaning_of_step s.0 c e), s.1 c e)

onward_bound : (f : Value → Option Value) → ((v : Value) → depth_some (f v) ≤ depth_of v) → (e : Evaluated) → depth_in (onward (λ v. found (f v)) e) ≤ depth_in e
onward_bound f h Missing = omega arith
onward_bound f h (Found v) = omega (arith, found_depth (f v), h v)

indexed_bound : (i e : Evaluated) → depth_in (onward (λ w. onward (λ v. found (indexed w v)) e) i) ≤ depth_in e
indexed_bound Missing e = omega arith
indexed_bound (Found w) e = onward_bound (indexed w) (indexed_depth w) e

at_step : (x : PathStep-F Expr PathStep Member Path) → meaning_of_step (roll-PathStep x) ≡ step_step (map-PathStep _ _ _ _ _ _ _ _ meaning meaning_of_step meaning_of_member meaning_of_path x)
at_step x = search (rules, the_lemmas)

level_bound : (x : PathStep-F Expr PathStep Member Path) (c : Context) (e : Evaluated) → depth_in (step_step (map-PathStep _ _ _ _ _ _ _ _ meaning meaning_of_step meaning_of_member meaning_of_path x) c e) ≤ depth_in e
level_bound (PathStep-F.Field name) c e = onward_bound (field_of name) (field_of_depth name) e
level_bound (PathStep-F.Index i) c e = indexed_bound (meaning i c) e

step_bound : (x : PathStep-F Expr PathStep Member Path) → OfStep (roll-PathStep x)
step_bound x c e = rw (at_step x) (level_bound x c e)

at_path : (x : Path-F Expr PathStep Member Path) (c : Context) → meaning_of_path (roll-Path x) c ≡ walked (map meaning_of_step x.steps) c (named x.first c.is_whole c.scope)
at_path x c = search (rules, the_lemmas)

path_bound : (name : List ℕ) (ss : List S) → OfPath (roll-Path (record { first = name; steps = map (λ s. s.0) ss }))
path_bound name ss c =
    rw (at_path (record { first = name; steps = map (λ s. s.0) ss }) c) (omega (arith, walked_bound ss c (named name c.is_whole c.scope), named_depth name c.is_whole c.scope))

pub path_is_bounded : (p : Path) (c : Context) → depth_in (meaning_of_path p c) ≤ scope_depth c.scope
path_is_bounded =
    ind-Path AnyExpr OfStep AnyMember OfPath
    (λ x y is. tt)
    (λ x y is. step_bound x)
    (λ x y is. tt)
    (λ x y is. subst (λ z. OfPath (roll-Path z)) is (path_bound y.first y.steps))
