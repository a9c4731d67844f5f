-- How high what the grammar makes of expressions is, how deep it nests, and how deep its literals are.
use Rattle.std.proofs.Common.{◌≡◌, ℕ, suc, ◌+◌, ◌≤◌, max, List, [], ◌∷◌, ◌++◌, map, arith, rules}
use Rattle.std.proofs.lemmas.List.{map-append}
use Rattle.ion_values.specs.Depth.{depth_of, deepest}
use Rattle.pql_model.specs.declared.expr.Expr.{Expr}
use Rattle.pql_model.specs.declared.expr.Expr.TheFolds.{fold-Member, fold-PathStep, the_lemmas}
use Rattle.pql_model.specs.declared.expr.Expr.TheVariants as expr
use Rattle.pql_model.specs.declared.expr.Member.{Member}
use Rattle.pql_model.specs.declared.expr.Operator.{Operator}
use Rattle.pql_model.specs.declared.expr.Path.{Path}
use Rattle.pql_model.specs.declared.expr.PathStep.{PathStep}
use Rattle.pql_model.specs.declared.expr.PathStep.TheVariants as step
use Rattle.pql_model.specs.Expressions.{Tall, above, between, binary, path_of, tall}
use Rattle.pql_model.specs.MeaningDepth.{deepest_literal, greatest, nesting, of_member, of_path, of_step}
use Rattle.pql_model.specs.Shallow.{path_literal, path_nesting}
use Rattle.pql_model.proofs.Depths.{deepest_append}

-- ---- the parts of expressions

abbrev pub member_nesting : Member → ℕ
member_nesting = fold-Member ℕ ℕ ℕ ℕ (greatest (λ v. 0) 1) of_step of_member of_path

abbrev pub member_literal : Member → ℕ
member_literal = fold-Member ℕ ℕ ℕ ℕ (greatest depth_of 0) of_step of_member of_path

abbrev pub step_nesting : PathStep → ℕ
step_nesting = fold-PathStep ℕ ℕ ℕ ℕ (greatest (λ v. 0) 1) of_step of_member of_path

abbrev pub step_literal : PathStep → ℕ
step_literal = fold-PathStep ℕ ℕ ℕ ℕ (greatest depth_of 0) of_step of_member of_path

at_member_nesting : (m : Member) → member_nesting m ≡ nesting m.value
at_member_nesting m = search (rules, the_lemmas)

at_member_literal : (m : Member) → member_literal m ≡ deepest_literal m.value
at_member_literal m = search (rules, the_lemmas)

at_field_nesting : (name : List ℕ) → step_nesting (step.Field name) ≡ 0
at_field_nesting name = search (rules, the_lemmas)

at_field_literal : (name : List ℕ) → step_literal (step.Field name) ≡ 0
at_field_literal name = search (rules, the_lemmas)

at_index_nesting : (e : Expr) → step_nesting (step.Index e) ≡ nesting e
at_index_nesting e = search (rules, the_lemmas)

at_index_literal : (e : Expr) → step_literal (step.Index e) ≡ deepest_literal e
at_index_literal e = search (rules, the_lemmas)

at_path_nesting : (first : List ℕ) (steps : List PathStep) → path_nesting (path_of first steps) ≡ deepest (map step_nesting steps)
at_path_nesting first steps = search (rules, the_lemmas)

at_path_literal : (first : List ℕ) (steps : List PathStep) → path_literal (path_of first steps) ≡ deepest (map step_literal steps)
at_path_literal first steps = search (rules, the_lemmas)

-- ---- what fits into a number of levels

-- It has no more of them, nests no deeper than it is high, and has no literal that is deeper than 64.
pub record Fits (A : Type 0) (nests literal : A → ℕ) (levels : ℕ) (x : Tall A) : Type 0 where
  pub high : x.height ≤ levels
  pub nested : nests x.tree ≤ x.height
  pub told : literal x.tree ≤ 64

abbrev pub FitsExpr : ℕ → Tall Expr → Type 0
FitsExpr = Fits Expr nesting deepest_literal

abbrev pub FitsMember : ℕ → Tall Member → Type 0
FitsMember = Fits Member member_nesting member_literal

abbrev pub FitsPath : ℕ → Tall Path → Type 0
FitsPath = Fits Path path_nesting path_literal

abbrev pub FitsSteps : ℕ → Tall (List PathStep) → Type 0
FitsSteps = Fits (List PathStep) (λ ss. deepest (map step_nesting ss)) (λ ss. deepest (map step_literal ss))

-- ---- lists

pub fits_none : {A : Type 0} {nests literal : A → ℕ} → (levels : ℕ) → Fits (List A) (λ xs. deepest (map nests xs)) (λ xs. deepest (map literal xs)) levels (tall [] 0)
fits_none levels = record { high = omega arith; nested = omega arith; told = omega arith }

-- these and one more
pub fits_more : {A : Type 0} {nests literal : A → ℕ} {levels : ℕ}
    → (xs : Tall (List A)) (x : Tall A) → Fits (List A) (λ xs. deepest (map nests xs)) (λ xs. deepest (map literal xs)) levels xs → Fits A nests literal levels x
    → Fits (List A) (λ xs. deepest (map nests xs)) (λ xs. deepest (map literal xs)) levels (tall (xs.tree ++ x.tree ∷ []) (max xs.height x.height))
fits_more {nests} {literal} xs x f g = record {
  high = omega (arith, f.high, g.high);
  nested = rw (map-append nests xs.tree (x.tree ∷ []), deepest_append) (omega (arith, f.nested, g.nested));
  told = rw (map-append literal xs.tree (x.tree ∷ []), deepest_append) (omega (arith, f.told, g.told));
}

-- ---- members and paths

pub fits_member : {levels : ℕ} → (name : List ℕ) (x : Tall Expr) → FitsExpr levels x → FitsMember levels (tall (record { name = name; value = x.tree }) x.height)
fits_member name x f = record {
  high = f.high;
  nested = omega (arith, at_member_nesting (record { name = name; value = x.tree }), f.nested);
  told = omega (arith, at_member_literal (record { name = name; value = x.tree }), f.told);
}

pub fits_field : (levels : ℕ) (name : List ℕ) → Fits PathStep step_nesting step_literal levels (tall (step.Field name) 0)
fits_field levels name = record { high = omega arith; nested = omega (arith, at_field_nesting name); told = omega (arith, at_field_literal name) }

pub fits_index : {levels : ℕ} → (x : Tall Expr) → FitsExpr levels x → Fits PathStep step_nesting step_literal levels (tall (step.Index x.tree) x.height)
fits_index x f = record {
  high = f.high;
  nested = omega (arith, at_index_nesting x.tree, f.nested);
  told = omega (arith, at_index_literal x.tree, f.told);
}

pub fits_path : {levels : ℕ} → (first : List ℕ) (s : Tall (List PathStep)) → FitsSteps levels s → FitsPath levels (tall (path_of first s.tree) s.height)
fits_path first s f = record {
  high = f.high;
  nested = omega (arith, at_path_nesting first s.tree, f.nested);
  told = omega (arith, at_path_literal first s.tree, f.told);
}

-- ---- expressions with one part

-- what is made is at most a constructor above its part
pub record Wraps (A : Type 0) (nests literal : A → ℕ) (make : A → Expr) : Type 0 where
  pub nested : (x : A) → nesting (make x) ≤ nests x + 1
  pub told : (x : A) → deepest_literal (make x) ≤ literal x

pub fits_above : {A : Type 0} {nests literal : A → ℕ} {levels : ℕ} {make : A → Expr} → Wraps A nests literal make → (x : Tall A) → Fits A nests literal levels x → FitsExpr (suc levels) (above make x)
fits_above w x f = record {
  high = omega (arith, f.high);
  nested = omega (arith, w.nested x.tree, f.nested);
  told = omega (arith, w.told x.tree, f.told);
}

-- no constructor of lists or structs
same : (make : Expr → Expr) → ((e : Expr) → nesting (make e) ≡ nesting e) → ((e : Expr) → deepest_literal (make e) ≡ deepest_literal e) → Wraps Expr nesting deepest_literal make
same make f g = record { nested = λ e. omega (arith, f e); told = λ e. omega (arith, g e) }

pub wraps_itself : Wraps Expr nesting deepest_literal (λ e. e)
wraps_itself = record { nested = λ e. omega arith; told = λ e. omega arith }

pub wraps_negate : Wraps Expr nesting deepest_literal expr.Negate
wraps_negate = same expr.Negate (λ e. search (rules, the_lemmas)) (λ e. search (rules, the_lemmas))

pub wraps_not : Wraps Expr nesting deepest_literal expr.Not
wraps_not = same expr.Not (λ e. search (rules, the_lemmas)) (λ e. search (rules, the_lemmas))

pub wraps_null : Wraps Expr nesting deepest_literal expr.IsNull
wraps_null = same expr.IsNull (λ e. search (rules, the_lemmas)) (λ e. search (rules, the_lemmas))

pub wraps_missing : Wraps Expr nesting deepest_literal expr.IsMissing
wraps_missing = same expr.IsMissing (λ e. search (rules, the_lemmas)) (λ e. search (rules, the_lemmas))

pub wraps_size : Wraps Expr nesting deepest_literal expr.Size
wraps_size = same expr.Size (λ e. search (rules, the_lemmas)) (λ e. search (rules, the_lemmas))

pub wraps_char_length : Wraps Expr nesting deepest_literal expr.CharLength
wraps_char_length = same expr.CharLength (λ e. search (rules, the_lemmas)) (λ e. search (rules, the_lemmas))

pub wraps_count : Wraps Expr nesting deepest_literal expr.Count
wraps_count = same expr.Count (λ e. search (rules, the_lemmas)) (λ e. search (rules, the_lemmas))

pub wraps_sum : Wraps Expr nesting deepest_literal expr.Sum
wraps_sum = same expr.Sum (λ e. search (rules, the_lemmas)) (λ e. search (rules, the_lemmas))

pub wraps_min : Wraps Expr nesting deepest_literal expr.Min
wraps_min = same expr.Min (λ e. search (rules, the_lemmas)) (λ e. search (rules, the_lemmas))

pub wraps_max : Wraps Expr nesting deepest_literal expr.Max
wraps_max = same expr.Max (λ e. search (rules, the_lemmas)) (λ e. search (rules, the_lemmas))

pub wraps_path : Wraps Path path_nesting path_literal expr.Path
wraps_path = record {
  nested = λ p. let h : nesting (expr.Path p) ≡ path_nesting p = search (rules, the_lemmas) in omega (arith, h);
  told = λ p. let h : deepest_literal (expr.Path p) ≡ path_literal p = search (rules, the_lemmas) in omega (arith, h);
}

pub wraps_list : Wraps (List Expr) (λ es. deepest (map nesting es)) (λ es. deepest (map deepest_literal es)) expr.List
wraps_list = record {
  nested = λ es. let h : nesting (expr.List es) ≡ deepest (map nesting es) + 1 = search (rules, the_lemmas) in omega (arith, h);
  told = λ es. let h : deepest_literal (expr.List es) ≡ deepest (map deepest_literal es) + 0 = search (rules, the_lemmas) in omega (arith, h);
}

pub wraps_struct : Wraps (List Member) (λ ms. deepest (map member_nesting ms)) (λ ms. deepest (map member_literal ms)) expr.Struct
wraps_struct = record {
  nested = λ ms. let h : nesting (expr.Struct ms) ≡ deepest (map member_nesting ms) + 1 = search (rules, the_lemmas) in omega (arith, h);
  told = λ ms. let h : deepest_literal (expr.Struct ms) ≡ deepest (map member_literal ms) + 0 = search (rules, the_lemmas) in omega (arith, h);
}

pub wraps_coalesce : Wraps (List Expr) (λ es. deepest (map nesting es)) (λ es. deepest (map deepest_literal es)) expr.Coalesce
wraps_coalesce = record {
  nested = λ es. let h : nesting (expr.Coalesce es) ≡ deepest (map nesting es) = search (rules, the_lemmas) in omega (arith, h);
  told = λ es. let h : deepest_literal (expr.Coalesce es) ≡ deepest (map deepest_literal es) = search (rules, the_lemmas) in omega (arith, h);
}

-- NOT before a predicate is no level of its own
pub fits_negated : {levels : ℕ} → (x : Tall Expr) → FitsExpr levels x → FitsExpr levels (tall (expr.Not x.tree) x.height)
fits_negated x f =
    let h : nesting (expr.Not x.tree) ≡ nesting x.tree = search (rules, the_lemmas) in
    let g : deepest_literal (expr.Not x.tree) ≡ deepest_literal x.tree = search (rules, the_lemmas) in
    record { high = f.high; nested = omega (arith, h, f.nested); told = omega (arith, g, f.told) }

-- ---- expressions with no part, and with several

pub fits_count_all : (levels : ℕ) → FitsExpr (suc levels) (tall expr.CountAll 1)
fits_count_all levels =
    let h : nesting expr.CountAll ≡ 0 = search (rules, the_lemmas) in
    let g : deepest_literal expr.CountAll ≡ 0 = search (rules, the_lemmas) in
    record { high = omega arith; nested = omega (arith, h); told = omega (arith, g) }

-- of two operands, each of which leaves a level
pub fits_binary : {levels : ℕ} → (o : Operator) (x y : Tall Expr) → x.height ≤ levels → FitsExpr (suc levels) x → FitsExpr levels y → FitsExpr (suc levels) (binary o x y)
fits_binary o x y low f g =
    let h : nesting (expr.Binary o x.tree y.tree) ≡ max (nesting x.tree) (nesting y.tree) = search (rules, the_lemmas) in
    let k : deepest_literal (expr.Binary o x.tree y.tree) ≡ max (deepest_literal x.tree) (deepest_literal y.tree) = search (rules, the_lemmas) in
    record { high = omega (arith, g.high); nested = omega (arith, h, f.nested, g.nested); told = omega (arith, k, f.told, g.told) }

pub fits_in : {levels : ℕ} → (x y : Tall Expr) → x.height ≤ levels → FitsExpr (suc levels) x → FitsExpr levels y → FitsExpr (suc levels) (tall (expr.IsIn x.tree y.tree) (max x.height y.height + 1))
fits_in x y low f g =
    let h : nesting (expr.IsIn x.tree y.tree) ≡ max (nesting x.tree) (nesting y.tree) = search (rules, the_lemmas) in
    let k : deepest_literal (expr.IsIn x.tree y.tree) ≡ max (deepest_literal x.tree) (deepest_literal y.tree) = search (rules, the_lemmas) in
    record { high = omega (arith, g.high); nested = omega (arith, h, f.nested, g.nested); told = omega (arith, k, f.told, g.told) }

pub fits_like : {levels : ℕ} → (x y : Tall Expr) → x.height ≤ levels → FitsExpr (suc levels) x → FitsExpr levels y → FitsExpr (suc levels) (tall (expr.Like x.tree y.tree) (max x.height y.height + 1))
fits_like x y low f g =
    let h : nesting (expr.Like x.tree y.tree) ≡ max (nesting x.tree) (nesting y.tree) = search (rules, the_lemmas) in
    let k : deepest_literal (expr.Like x.tree y.tree) ≡ max (deepest_literal x.tree) (deepest_literal y.tree) = search (rules, the_lemmas) in
    record { high = omega (arith, g.high); nested = omega (arith, h, f.nested, g.nested); told = omega (arith, k, f.told, g.told) }

pub fits_between : {levels : ℕ} → (x y z : Tall Expr) → x.height ≤ levels → FitsExpr (suc levels) x → FitsExpr levels y → FitsExpr levels z → FitsExpr (suc levels) (between x y z)
fits_between x y z low f g i =
    let h : nesting (expr.Between x.tree y.tree z.tree) ≡ max (nesting x.tree) (max (nesting y.tree) (nesting z.tree)) = search (rules, the_lemmas) in
    let k : deepest_literal (expr.Between x.tree y.tree z.tree) ≡ max (deepest_literal x.tree) (max (deepest_literal y.tree) (deepest_literal z.tree)) = search (rules, the_lemmas) in
    record { high = omega (arith, g.high, i.high); nested = omega (arith, h, f.nested, g.nested, i.nested); told = omega (arith, k, f.told, g.told, i.told) }

-- one level more may be left
pub fits_still : {levels : ℕ} → (x : Tall Expr) → x.height ≤ levels → FitsExpr (suc levels) x → FitsExpr levels x
fits_still x low f = record { high = low; nested = f.nested; told = f.told }
