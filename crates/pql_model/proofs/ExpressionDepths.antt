-- What the grammar reads as an expression or a path fits into the levels that it is given.
use Prim.Native.String.{String}
use Rattle.std.proofs.Common.{◌≡◌, ℕ, zero, suc, ◌≤◌, Bool, true, false, if◌then◌else◌, List, [], length, map, Option, Some, None, codes, arith, rules}
use Rattle.std.specs.Str.{str_eq_ignore_ascii_case}
use Rattle.ion_values.specs.Depth.{depth_of, deepest}
use Rattle.ion_values.specs.declared.value.Body.TheVariants as body
use Rattle.ion_values.specs.declared.value.Body.TheFolds as values
use Rattle.ion_values.specs.declared.value.Kind.TheVariants as ion
use Rattle.ion_values.specs.declared.value.Value.{Value}
use Rattle.pql_model.specs.declared.expr.Expr.{Expr}
use Rattle.pql_model.specs.declared.expr.Expr.TheFolds.{the_lemmas}
use Rattle.pql_model.specs.declared.expr.Expr.TheVariants as expr
use Rattle.pql_model.specs.declared.expr.Path.{Path}
use Rattle.pql_model.specs.declared.expr.PathStep.{PathStep}
use Rattle.pql_model.specs.declared.expr.PathStep.TheVariants as step
use Rattle.pql_model.specs.declared.token.Token.{Token}
use Rattle.pql_model.specs.declared.token.Token.TheVariants as token
use Rattle.pql_model.specs.Expressions.{Tall, constant_of, deeper, enclosed, list_of, parted, path_from, path_of, steps, tall, word_constant}
use Rattle.pql_model.specs.MeaningDepth.{deepest_literal, nesting}
use Rattle.pql_model.specs.Productions.{Production, give, token_of}
use Rattle.pql_model.specs.Tokens.{plain}
use Rattle.pql_model.specs.Words.{any_name_of}
use Rattle.pql_model.proofs.Gives.{Gives, gives_by_name, gives_give, gives_if_symbol, gives_past, gives_refuse, gives_symbol, gives_then, token_depth}
use Rattle.pql_model.proofs.Tallness.{Fits, FitsExpr, FitsPath, FitsSteps, fits_field, fits_index, fits_more, fits_none, fits_path}

-- ---- lists

pub gives_deeper : {A : Type 0} {P : A → Type 0} {p : Production A} → (below : ℕ) → Gives A P p → Gives A P (deeper below p)
gives_deeper {P} zero g = gives_refuse P _
gives_deeper (suc below) g = g

module _ (A : Type 0) (nests literal : A → ℕ) (levels : ℕ) where
  abbrev pub Each : Tall (List A) → Type 0
  Each = Fits (List A) (λ xs. deepest (map nests xs)) (λ xs. deepest (map literal xs)) levels

  gives_parted : (part : Production (Tall A)) → Gives (Tall A) (Fits A nests literal levels) part → (more : ℕ) (so_far : Tall (List A)) → Each so_far → Gives (Tall (List A)) Each (parted more part so_far)
  gives_parted part g zero so_far f = gives_refuse Each _
  gives_parted part g (suc more) so_far f =
      gives_then _ g
      (λ x h. gives_if_symbol "," (gives_past (gives_parted part g more _ (fits_more so_far x f h))) (gives_give _ (fits_more so_far x f h)))

  pub gives_list : (part : Production (Tall A)) → Gives (Tall A) (Fits A nests literal levels) part → Gives (Tall (List A)) Each (list_of part)
  gives_list part g = record { at = λ r h. (gives_parted part g (length r.rest) (tall [] 0) (fits_none levels)).at r h }

  pub gives_enclosed : (close : String) (part : Production (Tall A)) → Gives (Tall A) (Fits A nests literal levels) part → Gives (Tall (List A)) Each (enclosed close part)
  gives_enclosed close part g =
      gives_if_symbol close (gives_past (gives_give (tall [] 0) (fits_none levels)))
      (gives_then _ (gives_list part g) (λ xs f. gives_symbol close (gives_give xs f)))

-- ---- constants

abbrev pub ConstantFits : ℕ → Option Expr → Type 0
ConstantFits levels None = Unit {0}
ConstantFits levels (Some e) = FitsExpr levels (tall e 1)

value_fits : (levels : ℕ) (v : Value) → depth_of v ≤ 64 → FitsExpr (suc levels) (tall (expr.Value v) 1)
value_fits levels v le =
    let h : nesting (expr.Value v) ≡ 0 = search (rules, the_lemmas) in
    let g : deepest_literal (expr.Value v) ≡ depth_of v = search (rules, the_lemmas) in
    record { high = omega arith; nested = omega (arith, h); told = omega (arith, g) }

bool_fits : (levels : ℕ) (b : Bool) → FitsExpr (suc levels) (tall (expr.Value (plain (body.Bool b))) 1)
bool_fits levels b =
    let h : depth_of (plain (body.Bool b)) ≡ 0 = search (rules, values.the_lemmas) in value_fits levels (plain (body.Bool b)) (omega (arith, h))

null_fits : (levels : ℕ) → FitsExpr (suc levels) (tall (expr.Value (plain (body.Null ion.Null))) 1)
null_fits levels =
    let h : depth_of (plain (body.Null ion.Null)) ≡ 0 = search (rules, values.the_lemmas) in value_fits levels (plain (body.Null ion.Null)) (omega (arith, h))

string_fits : (levels : ℕ) (text : List ℕ) → FitsExpr (suc levels) (tall (expr.Value (plain (body.String text))) 1)
string_fits levels text =
    let h : depth_of (plain (body.String text)) ≡ 0 = search (rules, values.the_lemmas) in value_fits levels (plain (body.String text)) (omega (arith, h))

missing_fits : (levels : ℕ) → FitsExpr (suc levels) (tall expr.Missing 1)
missing_fits levels =
    let h : nesting expr.Missing ≡ 0 = search (rules, the_lemmas) in
    let g : deepest_literal expr.Missing ≡ 0 = search (rules, the_lemmas) in
    record { high = omega arith; nested = omega (arith, h); told = omega (arith, g) }

parameter_fits : (levels n : ℕ) → FitsExpr (suc levels) (tall (expr.Parameter n) 1)
parameter_fits levels n =
    let h : nesting (expr.Parameter n) ≡ 0 = search (rules, the_lemmas) in
    let g : deepest_literal (expr.Parameter n) ≡ 0 = search (rules, the_lemmas) in
    record { high = omega arith; nested = omega (arith, h); told = omega (arith, g) }

either_fits : (levels : ℕ) (b : Bool) (x y : Option Expr) → ConstantFits levels x → ConstantFits levels y → ConstantFits levels (if b then x else y)
either_fits levels true x y f g = f
either_fits levels false x y f g = g

word_constant_fits : (levels : ℕ) (text : List ℕ) → ConstantFits (suc levels) (word_constant text)
word_constant_fits levels text =
    either_fits (suc levels) (str_eq_ignore_ascii_case text (codes "TRUE")) _ _ (bool_fits levels true)
    (either_fits (suc levels) (str_eq_ignore_ascii_case text (codes "FALSE")) _ _ (bool_fits levels false)
    (either_fits (suc levels) (str_eq_ignore_ascii_case text (codes "NULL")) _ _ (null_fits levels)
    (either_fits (suc levels) (str_eq_ignore_ascii_case text (codes "MISSING")) (Some expr.Missing) None (missing_fits levels) tt)))

pub constant_fits : (levels : ℕ) (t : Token) → token_depth t ≤ 64 → ConstantFits (suc levels) (constant_of t)
constant_fits levels (token.Value v) h = value_fits levels v h
constant_fits levels (token.String text) h = string_fits levels text
constant_fits levels (token.Parameter n) h = parameter_fits levels n
constant_fits levels (token.Word text) h = word_constant_fits levels text
constant_fits levels _ h = tt

-- ---- paths

module _ (below : ℕ) (index : Production (Tall Expr)) (fit : Gives (Tall Expr) (FitsExpr below) index) where
  gives_steps : (more : ℕ) (so_far : Tall (List PathStep)) → FitsSteps below so_far → Gives (Tall (List PathStep)) (FitsSteps below) (steps more below index so_far)
  gives_steps zero so_far f = gives_give so_far f
  gives_steps (suc more) so_far f =
      gives_if_symbol "."
      (gives_past (record { at = λ r h. (gives_by_name _ (λ text. gives_past (gives_steps more _ (fits_more so_far (tall (step.Field text) 0) f (fits_field below text)))) (any_name_of (token_of r))).at r h }))
      (gives_if_symbol "["
      (gives_deeper below (gives_past (gives_then _ fit (λ x g. gives_symbol "]" (gives_steps more _ (fits_more so_far (tall (step.Index x.tree) x.height) f (fits_index x g)))))))
      (gives_give so_far f))

  pub gives_path : (first : List ℕ) → Gives (Tall Path) (FitsPath below) (path_from below index first)
  gives_path first =
      record { at = λ r h. (gives_then (λ (s : Tall (List PathStep)). give (tall (path_of first s.tree) s.height)) (gives_steps (length r.rest) (tall [] 0) (fits_none below)) (λ s f. gives_give _ (fits_path first s f))).at r h }
