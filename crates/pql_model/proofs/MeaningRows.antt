-- Expressions with what they mean.
use Rattle.std.proofs.Common.{◌≡◌, ◌-◌, ◌^◌, ℕ, ℤ, pos, negsuc, Bool, true, false, List, [], ◌∷◌, codes, refl, rules}
use Rattle.std.specs.declared.option.Option.{Option}
use Rattle.std.specs.declared.option.Option.TheVariants.{None, Some}
use Rattle.std.specs.Str.{chars}
use Rattle.ion_values.specs.declared.value.Kind.TheVariants as kind
use Rattle.ion_values.specs.declared.value.Value.{Value}
use Rattle.ion_values.specs.declared.value.Field.{Field, roll-Field}
use Rattle.ion_values.specs.declared.value.Body.TheVariants as body
use Rattle.ion_values.specs.declared.value.Body.TheFolds as values
use Rattle.ion_order.specs.Numbers.{brought, number}
use Rattle.ql_types.specs.Ids.{digits_of}
use Rattle.pql_model.specs.declared.expr.Expr.{Expr, roll-Expr}
use Rattle.pql_model.specs.declared.expr.Expr.TheOpen.{Expr-F}
use Rattle.pql_model.specs.declared.expr.Expr.TheVariants as expr
use Rattle.pql_model.specs.declared.expr.Expr.TheFolds.{the_lemmas}
use Rattle.pql_model.specs.declared.expr.Operator.TheVariants as op
use Rattle.pql_model.specs.declared.expr.Path.{roll-Path}
use Rattle.pql_model.specs.declared.expr.PathStep.{PathStep}
use Rattle.pql_model.specs.declared.expr.PathStep.TheVariants as step
use Rattle.pql_model.specs.declared.scope.Bound.{Bound}
use Rattle.pql_model.specs.declared.scope.Evaluated.{Evaluated}
use Rattle.pql_model.specs.declared.scope.Evaluated.TheVariants.{Missing}
use Rattle.pql_model.specs.Comparisons.{are_equal, in_order}
use Rattle.pql_model.specs.Made.{answer, made, null, truth}
use Rattle.pql_model.specs.Meaning.{meaning, under}
use Rattle.pql_model.specs.Texts.{fits}

-- without sources and parameters
abbrev alone : Expr → Evaluated
alone e = meaning e (under [] [])

abbrev int : ℕ → Expr
int n = expr.Value (made (body.Int (pos n)))

abbrev decimal : ℤ → ℤ → Expr
decimal coefficient exponent = expr.Value (made (body.Decimal (number coefficient exponent)))

abbrev string : List ℕ → Expr
string text = expr.Value (made (body.String text))

abbrev nothing : Expr
nothing = expr.Value (made (body.Null kind.Null))

abbrev bool : Bool → Expr
bool b = expr.Value (made (body.Bool b))

abbrev int_is : ℤ → Evaluated
int_is n = answer (body.Int n)

-- ---- operators

seven_by_two : alone (expr.Binary op.Divide (int 7) (int 2)) ≡ int_is (pos 3)
seven_by_two = search (rules, the_lemmas, values.the_lemmas)

remainder_of_minus_seven : alone (expr.Binary op.Remainder (expr.Negate (int 7)) (int 2)) ≡ int_is (negsuc 0)
remainder_of_minus_seven = search (rules, the_lemmas, values.the_lemmas)

int_and_decimal : alone (expr.Binary op.Plus (int 7) (decimal (pos 5) (negsuc 0))) ≡ answer (body.Decimal (number (pos 75) (negsuc 0)))
unfolding brought
int_and_decimal = search (rules, the_lemmas, values.the_lemmas)

by_zero : alone (expr.Binary op.Divide (int 1) (int 0)) ≡ Missing
by_zero = search (rules, the_lemmas, values.the_lemmas)

two_in : alone (expr.IsIn (int 2) (expr.List (int 1 ∷ nothing ∷ int 2 ∷ []))) ≡ truth true
unfolding are_equal brought
two_in = search (rules, the_lemmas, values.the_lemmas)

three_in : alone (expr.IsIn (int 3) (expr.List (int 1 ∷ nothing ∷ []))) ≡ null
unfolding are_equal brought
three_in = search (rules, the_lemmas, values.the_lemmas)

null_is_one : alone (expr.Binary op.Equal nothing (int 1)) ≡ null
null_is_one = search (rules, the_lemmas, values.the_lemmas)

one_is_text : alone (expr.Binary op.Equal (int 1) (string (codes "a"))) ≡ truth false
unfolding are_equal
one_is_text = search (rules, the_lemmas, values.the_lemmas)

minus_seven_by_two : alone (expr.Binary op.Divide (expr.Negate (int 7)) (int 2)) ≡ int_is (negsuc 2)
minus_seven_by_two = search (rules, the_lemmas, values.the_lemmas)

unequal_to_missing : alone (expr.Binary op.NotEqual (int 1) expr.Missing) ≡ Missing
unequal_to_missing = search (rules, the_lemmas, values.the_lemmas)

unequal_to_null : alone (expr.Binary op.NotEqual nothing (int 1)) ≡ null
unequal_to_null = search (rules, the_lemmas, values.the_lemmas)

unlike_kinds : alone (expr.Binary op.Less (int 1) (string (codes "a"))) ≡ Missing
unfolding in_order
unlike_kinds = search (rules, the_lemmas, values.the_lemmas)

missing_in : alone (expr.IsIn expr.Missing (expr.List (int 1 ∷ []))) ≡ truth false
missing_in = search (rules, the_lemmas, values.the_lemmas)

in_null : alone (expr.IsIn (int 1) nothing) ≡ Missing
in_null = search (rules, the_lemmas, values.the_lemmas)

in_between : alone (expr.Between (int 2) (int 1) (int 3)) ≡ truth true
unfolding in_order brought
in_between = search (rules, the_lemmas, values.the_lemmas)

too_great : alone (expr.Binary op.Plus (int (2 ^ 127 - 1)) (int 1)) ≡ Missing
too_great = search (rules, the_lemmas, values.the_lemmas)

-- ---- logic

false_and_missing : alone (expr.Binary op.And (bool false) expr.Missing) ≡ truth false
false_and_missing = search (rules, the_lemmas, values.the_lemmas)

true_and_missing : alone (expr.Binary op.And (bool true) expr.Missing) ≡ null
true_and_missing = search (rules, the_lemmas, values.the_lemmas)

int_or_true : alone (expr.Binary op.Or (int 1) (bool true)) ≡ truth true
int_or_true = search (rules, the_lemmas, values.the_lemmas)

not_null : alone (expr.Not nothing) ≡ null
not_null = search (rules, the_lemmas, values.the_lemmas)

missing_is_null : alone (expr.IsNull expr.Missing) ≡ truth true
missing_is_null = search (rules, the_lemmas, values.the_lemmas)

null_is_missing : alone (expr.IsMissing nothing) ≡ truth false
null_is_missing = search (rules, the_lemmas, values.the_lemmas)

first_known : alone (expr.Coalesce (nothing ∷ expr.Missing ∷ int 5 ∷ int 6 ∷ [])) ≡ int_is (pos 5)
first_known = search (rules, the_lemmas, values.the_lemmas)

-- ---- texts

joined_texts : alone (expr.Binary op.Concat (string (codes "a")) (string (codes "b"))) ≡ answer (body.String (codes "ab"))
joined_texts = search (rules, the_lemmas, values.the_lemmas)

run_and_one : fits (codes "%b_") (codes "abbc") ≡ true
unfolding fits
run_and_one = refl

no_run : fits (codes "%") [] ≡ true
unfolding fits
no_run = refl

one_of_none : fits (codes "_") [] ≡ false
unfolding fits
one_of_none = refl

like_text : alone (expr.Like (string (codes "abc")) (string (codes "a%"))) ≡ truth true
unfolding fits chars
like_text = search (rules, the_lemmas, values.the_lemmas)

-- an e with an acute accent is two bytes
accented : alone (expr.CharLength (string (195 ∷ 169 ∷ []))) ≡ int_is (pos 1)
unfolding chars
accented = search (rules, the_lemmas, values.the_lemmas)

-- ---- constructors

without_missing : alone (expr.List (int 1 ∷ expr.Missing ∷ [])) ≡ answer (body.List (made (body.Int (pos 1)) ∷ []))
without_missing = search (rules, the_lemmas, values.the_lemmas)

two_members : alone (expr.Size (expr.List (int 1 ∷ expr.Missing ∷ nothing ∷ []))) ≡ int_is (pos 2)
two_members = search (rules, the_lemmas, values.the_lemmas)

-- ---- paths

abbrev field : List ℕ → ℕ → Field
field name n = roll-Field (record { name = name; value = made (body.Int (pos n)) })

-- a document with a field of each of the two names
abbrev document : Value
document = made (body.Struct (field (codes "a") 1 ∷ field (codes "b") 2 ∷ field (codes "a") 3 ∷ []))

abbrev source : List ℕ → Option (List ℕ) → Bound
source name by = record { variable = name; value = document; id_name = by; id = Some (record { raw = 61 }) }

abbrev path : List ℕ → List PathStep → Expr
path name steps = roll-Expr (Expr-F.Path (roll-Path (record { first = name; steps = steps })))

first_of_name : meaning (path (codes "t") (step.Field (codes "a") ∷ [])) (under (source (codes "t") None ∷ []) []) ≡ int_is (pos 1)
first_of_name = search (rules, the_lemmas, values.the_lemmas)

by_text : meaning (path (codes "t") (step.Index (string (codes "b")) ∷ [])) (under (source (codes "t") None ∷ []) []) ≡ int_is (pos 2)
by_text = search (rules, the_lemmas, values.the_lemmas)

of_the_only : meaning (path (codes "b") []) (under (source (codes "t") None ∷ []) []) ≡ int_is (pos 2)
of_the_only = search (rules, the_lemmas, values.the_lemmas)

of_two_sources : meaning (path (codes "b") []) (under (source (codes "t") None ∷ source (codes "u") None ∷ []) []) ≡ Missing
of_two_sources = search (rules, the_lemmas, values.the_lemmas)

-- the BY name counts after the variable
the_id : meaning (path (codes "t") []) (under (source (codes "t") (Some (codes "t")) ∷ []) []) ≡ answer (body.String (codes "000000000000000000000z"))
unfolding digits_of
the_id = search (rules, the_lemmas, values.the_lemmas)

no_parameter : meaning (expr.Parameter 1) (under [] (document ∷ [])) ≡ Missing
no_parameter = search (rules, the_lemmas, values.the_lemmas)

an_aggregate : alone expr.CountAll ≡ Missing
an_aggregate = search (rules, the_lemmas, values.the_lemmas)
