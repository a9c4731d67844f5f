-- Names of steps, one after another, what the operands of an AND ask for, and names of tables.
use Rattle.std.proofs.Common.{◌≡◌, ◌∙◌, ℕ, ◌+◌, ◌<◌, List, [], ◌∷◌, ◌++◌, length, get_or, drop, map, slice_get, Option, Some, None, false, refl, sym, ap, ap₂, append_assoc, rules}
use Rattle.std.specs.Prelude.{option_map}
use Rattle.std.specs.Borrow.{Bor}
use Rattle.std.specs.List.{flat_map}
use Rattle.std.proofs.lemmas.List.{drop_more, map-append}
use Rattle.std.proofs.lemmas.List.Concat.{flat_map-append}
use Rattle.ion_values.specs.declared.value.Value.{Value}
use Rattle.pql_model.specs.declared.expr.Expr.{Expr}
use Rattle.pql_model.specs.declared.expr.Expr.TheFolds as folds
use Rattle.pql_model.specs.declared.expr.Expr.TheVariants as expr
use Rattle.pql_model.specs.declared.expr.Operator.{Operator}
use Rattle.pql_model.specs.declared.expr.Operator.TheVariants as op
use Rattle.pql_model.specs.declared.expr.Path.{Path}
use Rattle.pql_model.specs.declared.expr.PathStep.{PathStep}
use Rattle.pql_model.specs.declared.expr.PathStep.TheVariants as step
use Rattle.pql_model.specs.declared.statement.FromClause.{FromClause}
use Rattle.pql_model.specs.declared.statement.Source.{Source}
use Rattle.pql_model.specs.Tables.{is_committed, table_named}
use Rattle.ledger_model.specs.Conditions.{Asked, Part, Side, all_asked, all_constants, all_names, asked_by, condition_of, given, named, parts_in, parts_of, with_constant}
use Rattle.footprints.specs.declared.asked.Asked as held
use Rattle.footprints.specs.declared.sides.Member.{Member}
use Rattle.footprints.specs.declared.sides.Member.TheVariants as member
use Rattle.footprints.specs.Lent.{all_asked_of, texts, values_lent, with_member}
use Rattle.footprints.specs.Sides.{path_side, step_of}

-- ---- one level of a fold

pub by_field : (params : List Value) (name : List ℕ) → step_of params (step.Field name) ≡ Some name
by_field params name = search (rules, folds.the_lemmas)

pub by_index : (params : List Value) (e : Expr) → step_of params (step.Index e) ≡ None
by_index params e = search (rules, folds.the_lemmas)

pub path_is : (params : List Value) (p : Path) → path_side params p ≡ named p.first (all_names (map (step_of params) p.steps))
path_is params p = search (rules, folds.the_lemmas)

pub by_path : (params : List Value) (p : Path) → path_side params p ≡ (condition_of params (expr.Path p)).side
by_path params p = search (rules, folds.the_lemmas)

by_and : (params : List Value) (l r : Expr)
    → (condition_of params (expr.Binary op.And l r)).parts ≡ (condition_of params l).parts ++ (condition_of params r).parts
by_and params l r = search (rules, folds.the_lemmas)

-- ---- the operands of an AND

asked_append : (sources : List Source) (xs ys : List Part) → all_asked sources (xs ++ ys) ≡ all_asked sources xs ++ all_asked sources ys
asked_append sources xs ys = flat_map-append (asked_by sources) xs ys

pub and_asked : (sources : List Source) (params : List Value) (e l r : Expr) (o : Operator) → e ≡ expr.Binary o l r → o ≡ op.And
    → all_asked sources (condition_of params e).parts
    ≡ all_asked sources (condition_of params l).parts ++ all_asked sources (condition_of params r).parts
and_asked sources params e l r o is and_is =
    ap (λ (x : Expr). all_asked sources (condition_of params x).parts) (is ∙ ap (λ (x : Operator). expr.Binary x l r) and_is)
    ∙ ap (all_asked sources) (by_and params l r)
    ∙ asked_append sources (condition_of params l).parts (condition_of params r).parts

-- ---- names so far

joined : (names : List (List ℕ)) (n : List ℕ) (o : Option (List (List ℕ)))
    → option_map (λ rest. names ++ rest) (option_map (λ fields. n ∷ fields) o) ≡ option_map (λ rest. (names ++ n ∷ []) ++ rest) o
joined names n None = refl
joined names n (Some fields) = ap (λ (xs : List (List ℕ)). Some xs) (sym (append_assoc names (n ∷ []) fields))

names_at : (params : List Value) (steps : List PathStep) (i : ℕ) (s : PathStep) → i < length steps → s ≡ get_or steps i s
    → all_names (map (step_of params) (drop i steps)) ≡ all_names (step_of params s ∷ map (step_of params) (drop (i + 1) steps))
names_at params steps i s within is =
    ap (λ (xs : List PathStep). all_names (map (step_of params) xs)) (drop_more steps i s within)
    ∙ ap (λ (x : PathStep). all_names (step_of params x ∷ map (step_of params) (drop (i + 1) steps))) (sym is)

-- the step has this name
pub name_next : (params : List Value) (names new : List (Bor (List ℕ))) (n : Bor (List ℕ)) (steps : List PathStep) (i : ℕ) (s : PathStep)
    → i < length steps → s ≡ get_or steps i s → Some n.now ≡ step_of params s → new ≡ names ++ n ∷ []
    → option_map (λ rest. texts names ++ rest) (all_names (map (step_of params) (drop i steps)))
    ≡ option_map (λ rest. texts new ++ rest) (all_names (map (step_of params) (drop (i + 1) steps)))
name_next params names new n steps i s within is name_is new_is =
    let more : Option (List (List ℕ)) = all_names (map (step_of params) (drop (i + 1) steps)) in
    ap (option_map (λ rest. texts names ++ rest))
    (names_at params steps i s within is
    ∙ ap (λ (x : Option (List ℕ)). all_names (x ∷ map (step_of params) (drop (i + 1) steps))) (sym name_is))
    ∙ joined (texts names) n.now more
    ∙ ap (λ (ns : List (List ℕ)). option_map (λ rest. ns ++ rest) more)
    (sym (ap texts new_is ∙ map-append (λ (t : Bor (List ℕ)). t.now) names (n ∷ [])))

-- it has none
pub name_none : (params : List Value) (names : List (Bor (List ℕ))) (steps : List PathStep) (i : ℕ) (s : PathStep)
    → i < length steps → s ≡ get_or steps i s → None ≡ step_of params s
    → option_map (λ rest. texts names ++ rest) (all_names (map (step_of params) (drop i steps))) ≡ None
name_none params names steps i s within is none =
    ap (option_map (λ rest. texts names ++ rest))
    (names_at params steps i s within is
    ∙ ap (λ (x : Option (List ℕ)). all_names (x ∷ map (step_of params) (drop (i + 1) steps))) (sym none))

append_none : (xs : List (List ℕ)) → xs ++ [] ≡ xs
append_none [] = refl
append_none (x ∷ xs) = ap (λ (ys : List (List ℕ)). x ∷ ys) (append_none xs)

-- no step is left
pub names_end : (params : List Value) (names : List (Bor (List ℕ))) (steps : List PathStep) (i : ℕ) → drop i steps ≡ []
    → option_map (λ rest. texts names ++ rest) (all_names (map (step_of params) (drop i steps))) ≡ Some (texts names)
names_end params names steps i past =
    ap (λ (xs : List PathStep). option_map (λ rest. texts names ++ rest) (all_names (map (step_of params) xs))) past
    ∙ ap (λ (xs : List (List ℕ)). Some xs) (append_none (texts names))

-- ---- constants so far

-- what the member is among the members of a list
abbrev IsMember : List Value → Member → Expr → Type 0
IsMember params m e = (more : Option (List Value)) → with_member m more ≡ with_constant (condition_of params e).side more

by_parameter : (params : List Value) (n : ℕ) → (condition_of params (expr.Parameter n)).side ≡ given (slice_get params n)
by_parameter params n = search (rules, folds.the_lemmas)

side_given : (params : List Value) (e : Expr) (n : ℕ) (o : Option Value) → e ≡ expr.Parameter n → slice_get params n ≡ o
    → (condition_of params e).side ≡ given o
side_given params e n o is found =
    ap (λ (x : Expr). (condition_of params x).side) is ∙ by_parameter params n ∙ ap given found

-- the member is a question mark that stands for a parameter
pub member_given : (params : List Value) (e : Expr) (n : ℕ) (v : Bor Value) → e ≡ expr.Parameter n → slice_get params n ≡ Some v.now
    → IsMember params (member.Constant v) e
member_given params e n v is found = λ more. ap (λ (s : Side). with_constant s more) (sym (side_given params e n (Some v.now) is found))

-- there is no such parameter
pub member_not_given : (params : List Value) (e : Expr) (n : ℕ) → e ≡ expr.Parameter n → slice_get params n ≡ None
    → IsMember params member.Other e
member_not_given params e n is found = λ more. ap (λ (s : Side). with_constant s more) (sym (side_given params e n None is found))

constants_at : (params : List Value) (members : List Expr) (i : ℕ) (e : Expr) (m : Member) → i < length members → e ≡ get_or members i e
    → IsMember params m e
    → all_constants (map (condition_of params) (drop i members)) ≡ with_member m (all_constants (map (condition_of params) (drop (i + 1) members)))
constants_at params members i e m within is told =
    let more : Option (List Value) = all_constants (map (condition_of params) (drop (i + 1) members)) in
    ap (λ (xs : List Expr). all_constants (map (condition_of params) xs)) (drop_more members i e within)
    ∙ ap (λ (x : Expr). with_constant (condition_of params x).side more) (sym is)
    ∙ sym (told more)

add_constant : (values : List Value) (v : Value) (o : Option (List Value))
    → option_map (λ rest. values ++ rest) (option_map (λ more. v ∷ more) o) ≡ option_map (λ rest. (values ++ v ∷ []) ++ rest) o
add_constant values v None = refl
add_constant values v (Some more) = ap (λ (xs : List Value). Some xs) (sym (append_assoc values (v ∷ []) more))

module _ (params : List Value) (values : List (Bor Value)) (members : List Expr) (i : ℕ) (e : Expr) (m : Member) where
  -- the member is a constant
  pub constant_next : (new : List (Bor Value)) (v : Bor Value) → i < length members → e ≡ get_or members i e → m ≡ member.Constant v
      → IsMember params m e → new ≡ values ++ v ∷ []
      → option_map (λ rest. values_lent values ++ rest) (all_constants (map (condition_of params) (drop i members)))
      ≡ option_map (λ rest. values_lent new ++ rest) (all_constants (map (condition_of params) (drop (i + 1) members)))
  constant_next new v within is constant told new_is =
      let more : Option (List Value) = all_constants (map (condition_of params) (drop (i + 1) members)) in
      ap (option_map (λ rest. values_lent values ++ rest))
      (constants_at params members i e m within is told ∙ ap (λ (x : Member). with_member x more) constant)
      ∙ add_constant (values_lent values) v.now more
      ∙ ap (λ (vs : List Value). option_map (λ rest. vs ++ rest) more)
      (sym (ap values_lent new_is ∙ map-append (λ (x : Bor Value). x.now) values (v ∷ [])))

  -- it is MISSING
  pub missing_next : (new : List (Bor Value)) → i < length members → e ≡ get_or members i e → m ≡ member.Missing → IsMember params m e → new ≡ values
      → option_map (λ rest. values_lent values ++ rest) (all_constants (map (condition_of params) (drop i members)))
      ≡ option_map (λ rest. values_lent new ++ rest) (all_constants (map (condition_of params) (drop (i + 1) members)))
  missing_next new within is missing told new_is =
      let more : Option (List Value) = all_constants (map (condition_of params) (drop (i + 1) members)) in
      ap (option_map (λ rest. values_lent values ++ rest))
      (constants_at params members i e m within is told ∙ ap (λ (x : Member). with_member x more) missing)
      ∙ ap (λ (vs : List (Bor Value)). option_map (λ rest. values_lent vs ++ rest) more) (sym new_is)

  -- it is neither
  pub no_constant : i < length members → e ≡ get_or members i e → m ≡ member.Other → IsMember params m e
      → option_map (λ rest. values_lent values ++ rest) (all_constants (map (condition_of params) (drop i members))) ≡ None
  no_constant within is neither told =
      let more : Option (List Value) = all_constants (map (condition_of params) (drop (i + 1) members)) in
      ap (option_map (λ rest. values_lent values ++ rest))
      (constants_at params members i e m within is told ∙ ap (λ (x : Member). with_member x more) neither)

no_more : (xs : List Value) → xs ++ [] ≡ xs
no_more [] = refl
no_more (x ∷ xs) = ap (λ (ys : List Value). x ∷ ys) (no_more xs)

-- no member is left
pub constants_end : (params : List Value) (values : List (Bor Value)) (members : List Expr) (i : ℕ) → drop i members ≡ []
    → option_map (λ rest. values_lent values ++ rest) (all_constants (map (condition_of params) (drop i members))) ≡ Some (values_lent values)
constants_end params values members i past =
    ap (λ (xs : List Expr). option_map (λ rest. values_lent values ++ rest) (all_constants (map (condition_of params) xs))) past
    ∙ ap (λ (xs : List Value). Some xs) (no_more (values_lent values))

-- so after the one and then the other operand what the whole asks for is put
pub and_done : (sources : List Source) (params : List Value) (e l r x y : Expr) (o : Operator) (old mid new : List Asked) → e ≡ expr.Binary o l r → o ≡ op.And
    → x ≡ l → y ≡ r → mid ≡ old ++ all_asked sources (condition_of params x).parts
    → new ≡ mid ++ all_asked sources (condition_of params y).parts
    → new ≡ old ++ all_asked sources (condition_of params e).parts
and_done sources params e l r x y o old mid new is and_is x_is y_is mid_is new_is =
    let asks : Expr → List Asked = λ z. all_asked sources (condition_of params z).parts in
    new_is
    ∙ ap₂ (λ (a : List Asked) (z : Expr). a ++ asks z) (mid_is ∙ ap (λ (z : Expr). old ++ asks z) x_is) y_is
    ∙ append_assoc old (asks l) (asks r)
    ∙ ap (λ (w : List Asked). old ++ w) (sym (and_asked sources params e l r o is and_is))

-- a name without the prefix of committed views
pub plain_name : (name : List ℕ) → false ≡ is_committed name → name ≡ table_named name
plain_name name e = rw (sym e) refl

-- ---- the conditions of a clause

abbrev joins : List Value → Source → List Part
joins params s = parts_in params s.on

pub join_next : (sources joined : List Source) (params : List Value) (i : ℕ) (s : Source) (old new : List Asked) → i < length joined → s ≡ get_or joined i s
    → new ≡ old ++ all_asked sources (parts_in params s.on)
    → old ++ all_asked sources (flat_map (joins params) (drop i joined)) ≡ new ++ all_asked sources (flat_map (joins params) (drop (i + 1) joined))
join_next sources joined params i s old new within is new_is =
    let rest : List Part = flat_map (joins params) (drop (i + 1) joined) in
    ap (λ (xs : List Source). old ++ all_asked sources (flat_map (joins params) xs))
    (drop_more joined i s within ∙ ap (λ (x : Source). x ∷ drop (i + 1) joined) (sym is))
    ∙ ap (λ (w : List Asked). old ++ w) (asked_append sources (joins params s) rest)
    ∙ sym (append_assoc old (all_asked sources (joins params s)) (all_asked sources rest))
    ∙ ap (λ (w : List Asked). w ++ all_asked sources rest) (sym new_is)

pub whole_asked : (params : List Value) (from : FromClause) (sources : List Source) (start : List held.Asked) (mid new : List Asked) → sources ≡ from.sources → start ≡ []
    → mid ≡ all_asked_of start ++ all_asked sources (flat_map (joins params) sources)
    → new ≡ mid ++ all_asked sources (parts_in params from.filter)
    → new ≡ all_asked from.sources (parts_of params from)
whole_asked params from sources start mid new same none mid_is new_is =
    let filter : List Part = parts_in params from.filter in
    new_is
    ∙ ap (λ (m : List Asked). m ++ all_asked sources filter)
    (mid_is ∙ ap (λ (x : List held.Asked). all_asked_of x ++ all_asked sources (flat_map (joins params) sources)) none)
    ∙ sym (asked_append sources (flat_map (joins params) sources) filter)
    ∙ ap (λ (x : List Source). all_asked x (flat_map (joins params) x ++ filter)) same
