-- A path that leads nowhere leads nowhere further on.
use Rattle.std.proofs.Common.{◌≡◌, ℕ, suc, ◌<◌, List, [], ◌∷◌, map, drop, drop-cons, length, get_or, refl, ap, sym, ◌∙◌, rules}
use Rattle.ion_values.specs.declared.value.Value.{Value}
use Rattle.pql_model.specs.declared.expr.Expr.{Expr}
use Rattle.pql_model.specs.declared.expr.Member.{Member}
use Rattle.pql_model.specs.declared.expr.Path.{Path, out-Path, roll-Path, roll-out-Path}
use Rattle.pql_model.specs.declared.expr.PathStep.{PathStep, out-PathStep, roll-PathStep, roll-out-PathStep}
use Rattle.pql_model.specs.declared.expr.Expr.TheOpen.{Path-F, PathStep-F}
use Rattle.pql_model.specs.declared.expr.Expr.TheFolds.{map-PathStep, the_lemmas}
use Rattle.pql_model.specs.declared.scope.Evaluated.{Evaluated}
use Rattle.pql_model.specs.declared.scope.Evaluated.TheVariants.{Missing, Found}
use Rattle.pql_model.specs.Made.{found, onward}
use Rattle.pql_model.specs.Meaning.{Context, meaning, meaning_of_member, meaning_of_path, meaning_of_step, step_step, walked}
use Rattle.pql_model.specs.Steps.{indexed, named}

at_step : (x : PathStep-F Expr PathStep Member Path) → meaning_of_step (roll-PathStep x) ≡ step_step (map-PathStep _ _ _ _ _ _ _ _ meaning meaning_of_step meaning_of_member meaning_of_path x)
at_step x = search (rules, the_lemmas)

no_element : (i : Evaluated) → onward (λ w. onward (λ v. found (indexed w v)) Missing) i ≡ Missing
no_element Missing = refl
no_element (Found w) = refl

opened : (x : PathStep-F Expr PathStep Member Path) (c : Context) → step_step (map-PathStep _ _ _ _ _ _ _ _ meaning meaning_of_step meaning_of_member meaning_of_path x) c Missing ≡ Missing
opened (PathStep-F.Field name) c = refl
opened (PathStep-F.Index i) c = no_element (meaning i c)

rolled : (x : PathStep-F Expr PathStep Member Path) (c : Context) → meaning_of_step (roll-PathStep x) c Missing ≡ Missing
rolled x c = rw (at_step x) (opened x c)

step_missing : (s : PathStep) (c : Context) → meaning_of_step s c Missing ≡ Missing
step_missing s c = ap (λ t. meaning_of_step t c Missing) (sym (roll-out-PathStep s)) ∙ rolled (out-PathStep s) c

pub walked_missing : (ss : List PathStep) (c : Context) → walked (map meaning_of_step ss) c Missing ≡ Missing
walked_missing [] c = refl
walked_missing (s ∷ ss) c = ap (walked (map meaning_of_step ss) c) (step_missing s c) ∙ walked_missing ss c

at_path : (x : Path-F Expr PathStep Member Path) (c : Context) → meaning_of_path (roll-Path x) c ≡ walked (map meaning_of_step x.steps) c (named x.first c.is_whole c.scope)
at_path x c = search (rules, the_lemmas)

-- a path whose first name means nothing leads nowhere
pub path_missing : (p : Path) (c : Context) → Missing ≡ named p.first c.is_whole c.scope → Missing ≡ meaning_of_path p c
path_missing p c nothing =
    sym
    (ap (λ q. meaning_of_path q c) (sym (roll-out-Path p))
    ∙ at_path (out-Path p) c
    ∙ ap (walked (map meaning_of_step p.steps) c) (sym nothing)
    ∙ walked_missing p.steps c)

-- nor does one of which a step leads nowhere
pub path_ends : (steps : List PathStep) (i : ℕ) (step : PathStep) (c : Context) (at from : Value) → i < length steps → step ≡ get_or steps i step
    → walked (map meaning_of_step (drop i steps)) c (Found at) ≡ walked (map meaning_of_step steps) c (Found from)
    → Missing ≡ meaning_of_step step c (Found at) → Missing ≡ walked (map meaning_of_step steps) c (Found from)
path_ends steps i step c at from within is so_far nothing =
    let rest = drop (suc i) steps in
    let here : drop i steps ≡ step ∷ rest = drop-cons steps i step within ∙ ap (λ s. s ∷ rest) (sym is) in
    sym (walked_missing rest c)
    ∙ ap (walked (map meaning_of_step rest) c) nothing
    ∙ ap (λ ss. walked (map meaning_of_step ss) c (Found at)) (sym here)
    ∙ so_far
