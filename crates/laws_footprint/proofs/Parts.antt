-- Where a condition is true, each of its parts is.
use Rattle.std.proofs.Common.{◌≡◌, ◌∙◌, ℕ, true, List, [], ◌∷◌, ◌++◌, map, refl, sym, ap, subst, rules, slice_get, Option, Some, None, option_map}
use Rattle.std.specs.List.{AllByRecursion, flat_map}
use Rattle.ion_values.specs.declared.value.Body.TheVariants as body
use Rattle.ion_values.specs.declared.value.Value.{Value}
use Rattle.pql_model.specs.declared.scope.Bound.{Bound}
use Rattle.pql_model.specs.declared.scope.Evaluated.{Evaluated}
use Rattle.pql_model.specs.declared.scope.Evaluated.TheVariants.{Found, Missing}
use Rattle.pql_model.specs.declared.expr.Expr.{Expr, roll-Expr}
use Rattle.pql_model.specs.declared.expr.Member.{Member}
use Rattle.pql_model.specs.declared.expr.Operator.{Operator}
use Rattle.pql_model.specs.declared.expr.Operator.TheVariants as op
use Rattle.pql_model.specs.declared.expr.Path.{Path, roll-Path}
use Rattle.pql_model.specs.declared.expr.PathStep.{PathStep, roll-PathStep}
use Rattle.pql_model.specs.declared.expr.Expr.TheOpen.{Expr-F, Path-F, PathStep-F}
use Rattle.pql_model.specs.declared.expr.Expr.TheFolds.{ind-Expr, map-Expr, map-PathStep, fold-Member, fold-Path, fold-PathStep, the_lemmas}
use Rattle.pql_model.specs.Comparisons.{equal}
use Rattle.pql_model.specs.Logic.{is_true, truth_in}
use Rattle.pql_model.specs.Lists.{is_in, list_of, value_in}
use Rattle.pql_model.specs.Made.{answer, found, onward}
use Rattle.pql_model.specs.Meaning.{Context, Meant, expr_step, meaning, meaning_of_member, meaning_of_path, meaning_of_step, operate, step_step, under, walked}
use Rattle.pql_model.specs.Steps as steps
use Rattle.ledger_model.specs.Conditions.{Condition, Part, Side, all_constants, all_names, among, condition_of, constant, constants, equation, given, list_side, missing, named, names, no_side, one_level, operated, other, path_side, step_name, with_constant}
use Rattle.pql_model.proofs.Equality.{conjunction_true}

-- ---- what a side is in a row

-- the field of the field .. of these names
abbrev pub stepped : List (List ℕ) → Evaluated → Evaluated
stepped [] e = e
stepped (name ∷ more) e = stepped more (onward (λ v. found (steps.field_of name v)) e)

abbrev pub Is : List Bound → Side → Evaluated → Type 0
Is c (constant v) e = e ≡ Found v
Is c missing e = e ≡ Missing
Is c (names first fields) e = e ≡ stepped fields (steps.named first true c)
Is c (constants values) e = e ≡ answer (body.List values)
Is c other e = Unit {0}

-- what both sides stand for is equal, or the one is IN the other
abbrev pub Holds : List Bound → Part → Type 0
Holds c (equation l r) =
    (left : Evaluated) × (right : Evaluated) × Is c l left × Is c r right
    × (is_true (truth_in (equal left right)) ≡ true)
Holds c (among l r) =
    (left : Evaluated) × (right : Evaluated) × Is c l left × Is c r right
    × (is_true (truth_in (is_in left right)) ≡ true)

-- ---- by induction over expressions

module _ (params : List Value) where
  abbrev side_of_path : Path → Side
  side_of_path = fold-Path Condition (Option (List ℕ)) (Unit {0}) Side (one_level params) step_name no_side path_side

  abbrev name_of_step : PathStep → Option (List ℕ)
  name_of_step =
      fold-PathStep Condition (Option (List ℕ)) (Unit {0}) Side (one_level params) step_name no_side path_side

  abbrev nothing_of_member : Member → Unit {0}
  nothing_of_member =
      fold-Member Condition (Option (List ℕ)) (Unit {0}) Side (one_level params) step_name no_side path_side

  -- what it is in a row, and its parts where it is true
  abbrev Says : List Bound → Condition → Evaluated → Type 0
  Says c condition e = Is c condition.side e × (is_true (truth_in e) ≡ true → AllByRecursion (Holds c) condition.parts)

  abbrev OfExpr : Expr → Type 0
  OfExpr e = (c : List Bound) → Says c (condition_of params e) (meaning e (under c params))

  -- a step with a name is a step to that field
  abbrev StepIs : Option (List ℕ) → (Evaluated → Evaluated) → Type 0
  StepIs None f = Unit {0}
  StepIs (Some name) f = (e : Evaluated) → f e ≡ onward (λ v. found (steps.field_of name v)) e

  abbrev StepsAre : Option (List (List ℕ)) → (Evaluated → Evaluated) → Type 0
  StepsAre None f = Unit {0}
  StepsAre (Some fields) f = (e : Evaluated) → f e ≡ stepped fields e

  abbrev OfStep : PathStep → Type 0
  OfStep s = (c : Context) → StepIs (name_of_step s) (meaning_of_step s c)

  abbrev OfMember : Member → Type 0
  OfMember m = Unit {0}

  abbrev OfPath : Path → Type 0
  OfPath p = (c : List Bound) → Is c (side_of_path p) (meaning_of_path p (under c params))

  abbrev E : Type 0
  E = (e : Expr) × OfExpr e

  abbrev S : Type 0
  S = (s : PathStep) × OfStep s

  abbrev M : Type 0
  M = (m : Member) × OfMember m

  abbrev P : Type 0
  P = (p : Path) × OfPath p

  -- ---- one level

  abbrev first : Expr-F E S M P → Expr-F Expr PathStep Member Path
  first y = map-Expr _ _ _ _ _ _ _ _ (λ e. e.0) (λ s. s.0) (λ m. m.0) (λ p. p.0) y

  abbrev meant : Expr-F Expr PathStep Member Path → Meant
  meant x = expr_step (map-Expr _ _ _ _ _ _ _ _ meaning meaning_of_step meaning_of_member meaning_of_path x)

  abbrev parts : Expr-F Expr PathStep Member Path → Condition
  parts x =
      one_level params (map-Expr _ _ _ _ _ _ _ _ (condition_of params) name_of_step nothing_of_member side_of_path x)

  at_meaning : (x : Expr-F Expr PathStep Member Path) → meaning (roll-Expr x) ≡ meant x
  at_meaning x = search (rules, the_lemmas)

  at_parts : (x : Expr-F Expr PathStep Member Path) → condition_of params (roll-Expr x) ≡ parts x
  at_parts x = search (rules, the_lemmas)

  given_is : (c : List Bound) (o : Option Value) → Is c (given o) (found o)
  given_is c None = tt
  given_is c (Some v) = refl

  all_append : (c : List Bound) (xs ys : List Part) → AllByRecursion (Holds c) xs → AllByRecursion (Holds c) ys
      → AllByRecursion (Holds c) (xs ++ ys)
  all_append c [] ys h k = k
  all_append c (x ∷ xs) ys h k = (h.0, all_append c xs ys h.1 k)

  operated_says : (c : List Bound) (o : Operator) (l r : Condition) (e f : Evaluated) → Says c l e → Says c r f
      → Says c (operated o l r) (operate o e f)
  operated_says c op.And l r e f h k = (
    tt,
    λ t. let both =
        conjunction_true (truth_in e) (truth_in f) t in all_append c l.parts r.parts (h.1 both.0) (k.1 both.1),
  )
  operated_says c op.Equal l r e f h k = (tt, λ t. ((e, f, h.0, k.0, t), tt))
  operated_says c op.Or l r e f h k = (tt, λ t. tt)
  operated_says c op.NotEqual l r e f h k = (tt, λ t. tt)
  operated_says c op.Less l r e f h k = (tt, λ t. tt)
  operated_says c op.AtMost l r e f h k = (tt, λ t. tt)
  operated_says c op.Greater l r e f h k = (tt, λ t. tt)
  operated_says c op.AtLeast l r e f h k = (tt, λ t. tt)
  operated_says c op.Concat l r e f h k = (tt, λ t. tt)
  operated_says c op.Plus l r e f h k = (tt, λ t. tt)
  operated_says c op.Minus l r e f h k = (tt, λ t. tt)
  operated_says c op.Times l r e f h k = (tt, λ t. tt)
  operated_says c op.Divide l r e f h k = (tt, λ t. tt)
  operated_says c op.Remainder l r e f h k = (tt, λ t. tt)

  -- ---- lists of constants

  abbrev sides_of : List E → List Condition
  sides_of es = map (condition_of params) (map (λ (e : E). e.0) es)

  abbrev answers_of : List E → List Bound → List Evaluated
  answers_of es c = map (λ m. m (under c params)) (map meaning (map (λ (e : E). e.0) es))

  abbrev ValuesAre : Option (List Value) → List Value → Type 0
  ValuesAre None values = Unit {0}
  ValuesAre (Some all) values = values ≡ all

  one_constant : (v : Value) (o : Option (List Value)) (values : List Value) → ValuesAre o values
      → ValuesAre (option_map (λ vs. v ∷ vs) o) (v ∷ values)
  one_constant v None values h = tt
  one_constant v (Some vs) values h = ap (λ xs. v ∷ xs) h

  one_side : (c : List Bound) (side : Side) (e : Evaluated) (o : Option (List Value)) (values : List Value)
      → Is c side e → ValuesAre o values → ValuesAre (with_constant side o) (value_in e ++ values)
  one_side c (constant v) e o values is h =
      subst (λ x. ValuesAre (option_map (λ vs. v ∷ vs) o) (value_in x ++ values)) (sym is) (one_constant v o values h)
  one_side c missing e o values is h = subst (λ x. ValuesAre o (value_in x ++ values)) (sym is) h
  one_side c (names first fields) e o values is h = tt
  one_side c (constants vs) e o values is h = tt
  one_side c other e o values is h = tt

  values_are : (es : List E) (c : List Bound)
      → ValuesAre (all_constants (sides_of es)) (flat_map value_in (answers_of es c))
  values_are [] c = refl
  values_are (e ∷ es) c =
      one_side c (condition_of params e.0).side (meaning e.0 (under c params)) (all_constants (sides_of es))
      (flat_map value_in (answers_of es c)) (e.1 c).0 (values_are es c)

  list_by : (c : List Bound) (o : Option (List Value)) (values : List Value) → ValuesAre o values
      → Is c (list_side o) (answer (body.List values))
  list_by c None values h = tt
  list_by c (Some vs) values h = ap (λ xs. answer (body.List xs)) h

  list_is : (es : List E) (c : List Bound)
      → Is c (list_side (all_constants (sides_of es))) (list_of (answers_of es c))
  list_is es c = list_by c (all_constants (sides_of es)) (flat_map value_in (answers_of es c)) (values_are es c)

  level : (y : Expr-F E S M P) (c : List Bound) → Says c (parts (first y)) (meant (first y) (under c params))
  level (Expr-F.Value v) c = (refl, λ t. tt)
  level Expr-F.Missing c = (refl, λ t. tt)
  level (Expr-F.Parameter n) c = (given_is c (slice_get params n), λ t. tt)
  level (Expr-F.Path p) c = (p.1 c, λ t. tt)
  level (Expr-F.Negate e) c = (tt, λ t. tt)
  level (Expr-F.Not e) c = (tt, λ t. tt)
  level (Expr-F.List es) c = (list_is es c, λ t. tt)
  level (Expr-F.Struct ms) c = (tt, λ t. tt)
  level (Expr-F.Binary o left right) c =
      operated_says c o (condition_of params left.0) (condition_of params right.0) (meaning left.0 (under c params))
      (meaning right.0 (under c params)) (left.1 c) (right.1 c)
  level (Expr-F.IsIn e list) c =
      (tt, λ t. ((meaning e.0 (under c params), meaning list.0 (under c params), (e.1 c).0, (list.1 c).0, t), tt))
  level (Expr-F.Like e pattern) c = (tt, λ t. tt)
  level (Expr-F.Between e low high) c = (tt, λ t. tt)
  level (Expr-F.IsNull e) c = (tt, λ t. tt)
  level (Expr-F.IsMissing e) c = (tt, λ t. tt)
  level (Expr-F.Coalesce es) c = (tt, λ t. tt)
  level (Expr-F.Size e) c = (tt, λ t. tt)
  level (Expr-F.CharLength e) c = (tt, λ t. tt)
  level Expr-F.CountAll c = (tt, λ t. tt)
  level (Expr-F.Count e) c = (tt, λ t. tt)
  level (Expr-F.Sum e) c = (tt, λ t. tt)
  level (Expr-F.Min e) c = (tt, λ t. tt)
  level (Expr-F.Max e) c = (tt, λ t. tt)

  of_expr : (y : Expr-F E S M P) → OfExpr (roll-Expr (first y))
  of_expr y c = rw (at_meaning (first y), at_parts (first y)) (level y c)

  -- ---- steps and paths

  at_step : (x : PathStep-F Expr PathStep Member Path)
      → meaning_of_step (roll-PathStep x) ≡ step_step
      (map-PathStep _ _ _ _ _ _ _ _ meaning meaning_of_step meaning_of_member meaning_of_path x)
  at_step x = search (rules, the_lemmas)

  at_name : (x : PathStep-F Expr PathStep Member Path)
      → name_of_step (roll-PathStep x) ≡ step_name
      (map-PathStep _ _ _ _ _ _ _ _ (condition_of params) name_of_step nothing_of_member side_of_path x)
  at_name x = search (rules, the_lemmas)

  step_level : (y : PathStep-F E S M P) (c : Context)
      → StepIs (step_name (map-PathStep _ _ _ _ _ _ _ _ (condition_of params) name_of_step nothing_of_member
      side_of_path (map-PathStep _ _ _ _ _ _ _ _ (λ e. e.0) (λ s. s.0) (λ m. m.0) (λ p. p.0) y)))
      (step_step (map-PathStep _ _ _ _ _ _ _ _ meaning meaning_of_step meaning_of_member meaning_of_path
      (map-PathStep _ _ _ _ _ _ _ _ (λ e. e.0) (λ s. s.0) (λ m. m.0) (λ p. p.0) y)) c)
  step_level (PathStep-F.Field name) c = λ e. refl
  step_level (PathStep-F.Index i) c = tt

  of_step : (y : PathStep-F E S M P) → OfStep
      (roll-PathStep (map-PathStep _ _ _ _ _ _ _ _ (λ e. e.0) (λ s. s.0) (λ m. m.0) (λ p. p.0) y))
  of_step y c =
      let x = map-PathStep _ _ _ _ _ _ _ _ (λ (e : E). e.0) (λ (s : S). s.0) (λ (m : M). m.0) (λ (p : P). p.0) y in
      rw (at_step x, at_name x) (step_level y c)

  add_name : (name : List ℕ) (o : Option (List (List ℕ))) (f g : Evaluated → Evaluated)
      → ((e : Evaluated) → f e ≡ onward (λ v. found (steps.field_of name v)) e)
      → StepsAre o g → StepsAre (option_map (λ fields. name ∷ fields) o) (λ e. g (f e))
  add_name name None f g s t = tt
  add_name name (Some fields) f g s t = λ e. t (f e) ∙ ap (stepped fields) (s e)

  add_step : (o : Option (List ℕ)) (more : List (Option (List ℕ))) (f g : Evaluated → Evaluated) → StepIs o f
      → StepsAre (all_names more) g
      → StepsAre (all_names (o ∷ more)) (λ e. g (f e))
  add_step None more f g s t = tt
  add_step (Some name) more f g s t = add_name name (all_names more) f g s t

  all_steps : (ss : List S) (c : Context)
      → StepsAre (all_names (map name_of_step (map (λ s. s.0) ss)))
      (walked (map meaning_of_step (map (λ s. s.0) ss)) c)
  all_steps [] c = λ e. refl
  all_steps (s ∷ ss) c =
      add_step (name_of_step s.0) (map name_of_step (map (λ (t : S). t.0) ss)) (meaning_of_step s.0 c)
      (walked (map meaning_of_step (map (λ (t : S). t.0) ss)) c) (s.1 c) (all_steps ss c)

  at_path : (x : Path-F Expr PathStep Member Path) (c : Context)
      → meaning_of_path (roll-Path x) c ≡ walked (map meaning_of_step x.steps) c
      (steps.named x.first c.is_whole c.scope)
  at_path x c = search (rules, the_lemmas)

  at_side : (x : Path-F Expr PathStep Member Path)
      → side_of_path (roll-Path x) ≡ named x.first (all_names (map name_of_step x.steps))
  at_side x = search (rules, the_lemmas)

  path_is : (c : List Bound) (name : List ℕ) (o : Option (List (List ℕ))) (f : Evaluated → Evaluated) → StepsAre o f
      → Is c (named name o) (f (steps.named name true c))
  path_is c name None f h = tt
  path_is c name (Some fields) f h = h (steps.named name true c)

  of_path : (name : List ℕ) (ss : List S) → OfPath (roll-Path (record { first = name; steps = map (λ s. s.0) ss }))
  of_path name ss c =
      rw (
        at_path (record { first = name; steps = map (λ (s : S). s.0) ss }) (under c params),
        at_side
            (record { first = name; steps = map (λ (s : S). s.0) ss }),
      )
      (path_is c name (all_names (map name_of_step (map (λ (s : S). s.0) ss)))
      (walked (map meaning_of_step (map (λ (s : S). s.0) ss)) (under c params)) (all_steps ss (under c params)))

  -- ---- the whole

  pub says : (e : Expr) → OfExpr e
  says =
      ind-Expr OfExpr OfStep OfMember OfPath
      (λ x y is. subst (λ z. OfExpr (roll-Expr z)) is (of_expr y))
      (λ x y is. subst (λ z. OfStep (roll-PathStep z)) is (of_step y))
      (λ x y is. tt)
      (λ x y is. subst (λ z. OfPath (roll-Path z)) is (of_path y.first y.steps))

  pub parts_hold : (e : Expr) (c : List Bound) → is_true (truth_in (meaning e (under c params))) ≡ true
      → AllByRecursion (Holds c) (condition_of params e).parts
  parts_hold e c h = (says e c).1 h
