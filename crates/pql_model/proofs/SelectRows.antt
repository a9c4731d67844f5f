-- Selects with what they answer.
use Rattle.std.proofs.Common.{◌≡◌, ℕ, pos, negsuc, List, [], ◌∷◌, codes, refl, rules}
use Rattle.std.specs.declared.option.Option.{Option}
use Rattle.std.specs.declared.option.Option.TheVariants.{None, Some}
use Rattle.ion_values.specs.declared.value.Body.TheFolds as values
use Rattle.ion_values.specs.declared.value.Body.TheVariants as body
use Rattle.ion_values.specs.declared.value.Field.{Field, roll-Field}
use Rattle.ion_values.specs.declared.value.Value.{Value}
use Rattle.pql_model.specs.declared.expr.Expr.{Expr, roll-Expr}
use Rattle.pql_model.specs.declared.expr.Expr.TheOpen.{Expr-F}
use Rattle.pql_model.specs.declared.expr.Expr.TheFolds.{the_lemmas}
use Rattle.pql_model.specs.declared.expr.Expr.TheVariants as expr
use Rattle.pql_model.specs.declared.expr.Path.{Path, roll-Path}
use Rattle.pql_model.specs.declared.expr.PathStep.{PathStep}
use Rattle.pql_model.specs.declared.expr.PathStep.TheVariants as step
use Rattle.pql_model.specs.declared.statement.Select.{Select}
use Rattle.pql_model.specs.declared.statement.Select.TheVariants as select
use Rattle.pql_model.specs.declared.statement.SelectItem.{SelectItem}
use Rattle.pql_model.specs.declared.statement.Source.{Source}
use Rattle.pql_model.specs.declared.statement.SourceKind.TheVariants as source
use Rattle.pql_model.specs.declared.tables.Row.{Row}
use Rattle.pql_model.specs.declared.tables.View.{View}
use Rattle.std.specs.Fmt.{digits}
use Rattle.std.specs.Ordering.{is_lt, is_gt}
use Rattle.ion_order.specs.Numbers.{brought, number}
use Rattle.pql_model.specs.Answers.{answered, best_of, count_of, in_row, struct_from, sum_of}
use Rattle.pql_model.specs.From.{combined, given, rows_of}
use Rattle.pql_model.specs.Made.{answer, made, null}
use Rattle.pql_model.specs.declared.scope.Bound.{Bound}
use Rattle.pql_model.specs.declared.scope.Evaluated.TheVariants.{Missing, Found}

-- ---- parts

abbrev int : ℕ → Value
int n = made (body.Int (pos n))

abbrev text : Value
text = made (body.String (codes "a"))

abbrev field : List ℕ → Value → Field
field name v = roll-Field (record { name = name; value = v })

abbrev document : List Field → Value
document fields = made (body.Struct fields)

abbrev row : ℕ → Value → Row
row id v = record { id = record { raw = id }; value = v }

abbrev named : List ℕ → List PathStep → Path
named first steps = roll-Path (record { first = first; steps = steps })

abbrev at_field : List ℕ → List ℕ → Path
at_field first name = named first (step.Field name ∷ [])

abbrev table_as : List ℕ → Source
table_as variable = record { from = source.Table (codes "t"); variable = variable; id_name = None; on = None }

abbrev item : Expr → Option (List ℕ) → SelectItem
item e name = record { value = e; name = name }

abbrev first : Value
first = document (field (codes "n") (int 1) ∷ [])

abbrev second : Value
second = document (field (codes "n") (int 2) ∷ field (codes "items") (made (body.List (int 7 ∷ int 8 ∷ int 9 ∷ []))) ∷ [])

abbrev third : Value
third = document (field (codes "n") (int 3) ∷ field (codes "items") (int 4) ∷ [])

-- the documents {n:1}, {n:2,items:[7,8,9]} and {n:3,items:4}
abbrev documents : List ℕ → View → List Row
documents name v = row 1 first ∷ row 2 second ∷ row 3 third ∷ []

abbrev answers : Select → List Source → Option Expr → List Value
answers s sources filter = answered [] (rows_of documents [] (record { sources = sources; filter = filter })) s

-- ---- sources

abbrev of_t : ℕ → Value → Bound
of_t id v = record { variable = codes "t"; value = v; id_name = None; id = Some (record { raw = id }) }

abbrev of_i : Value → Bound
of_i v = record { variable = codes "i"; value = v; id_name = None; id = None }

abbrev items : Path
items = at_field (codes "t") (codes "items")

abbrev source_i : Source
source_i = record { from = source.Path items; variable = codes "i"; id_name = None; on = None }

of_first : given documents [] source_i (of_t 1 first ∷ []) ≡ []
of_first = search (rules, the_lemmas, values.the_lemmas)

of_second : given documents [] source_i (of_t 2 second ∷ []) ≡ of_i (int 7) ∷ of_i (int 8) ∷ of_i (int 9) ∷ []
of_second = search (rules, the_lemmas, values.the_lemmas)

of_third : given documents [] source_i (of_t 3 third ∷ []) ≡ []
of_third = search (rules, the_lemmas, values.the_lemmas)

-- in `FROM t, items` the name isn't a field of t, because the statement has two sources
abbrev source_of_field : Source
source_of_field = record { from = source.Path (named (codes "items") []); variable = codes "items"; id_name = None; on = None }

of_a_field : given documents [] source_of_field (of_t 2 second ∷ []) ≡ []
of_a_field = search (rules, the_lemmas, values.the_lemmas)

abbrev pair : ℕ → List Bound
pair n = of_t 2 second ∷ of_i (int n) ∷ []

abbrev both : List Source
both = table_as (codes "t") ∷ source_i ∷ []

combinations : combined documents [] both ≡ pair 7 ∷ pair 8 ∷ pair 9 ∷ []
combinations = search (of_first, of_second, of_third)

abbrev name : List ℕ → List PathStep → Expr
name first steps = roll-Expr (Expr-F.Path (named first steps))

element : (n : ℕ) → in_row [] (pair n) (name (codes "i") []) ≡ Found (int n)
element n = search (rules, the_lemmas, values.the_lemmas)

path_source : answers (select.Value (name (codes "i") [])) both None ≡ int 7 ∷ int 8 ∷ int 9 ∷ []
path_source = search (combinations, element 7, element 8, element 9)

-- ---- joins

abbrev pairs_of : List Value → List Source → Option Expr → List Value
pairs_of params sources filter = answered params (rows_of documents params (record { sources = sources; filter = filter })) (select.Value (name (codes "b") (step.Field (codes "n") ∷ [])))

abbrev bound_as : List ℕ → ℕ → Value → Bound
bound_as variable id v = record { variable = variable; value = v; id_name = None; id = Some (record { raw = id }) }

-- the leftmost source varies slowest
slowest : combined documents [] (table_as (codes "a") ∷ table_as (codes "b") ∷ [])
    ≡ (bound_as (codes "a") 1 first ∷ bound_as (codes "b") 1 first ∷ []) ∷ (bound_as (codes "a") 1 first ∷ bound_as (codes "b") 2 second ∷ [])
    ∷ (bound_as (codes "a") 1 first ∷ bound_as (codes "b") 3 third ∷ []) ∷ (bound_as (codes "a") 2 second ∷ bound_as (codes "b") 1 first ∷ [])
    ∷ (bound_as (codes "a") 2 second ∷ bound_as (codes "b") 2 second ∷ []) ∷ (bound_as (codes "a") 2 second ∷ bound_as (codes "b") 3 third ∷ [])
    ∷ (bound_as (codes "a") 3 third ∷ bound_as (codes "b") 1 first ∷ []) ∷ (bound_as (codes "a") 3 third ∷ bound_as (codes "b") 2 second ∷ [])
    ∷ (bound_as (codes "a") 3 third ∷ bound_as (codes "b") 3 third ∷ []) ∷ []
slowest = search (rules, the_lemmas, values.the_lemmas)

-- ---- aggregates

count_of_three : count_of (int 1 ∷ int 2 ∷ int 3 ∷ []) ≡ answer (body.Int (pos 3))
count_of_three = refl

sum_of_none : sum_of [] ≡ null
sum_of_none = refl

-- it comes out as it stands
sum_of_one : sum_of (made (body.Decimal (number (pos 750) (negsuc 1))) ∷ []) ≡ Found (made (body.Decimal (number (pos 750) (negsuc 1))))
sum_of_one = search (rules, the_lemmas, values.the_lemmas)

sum_of_two : sum_of (int 1 ∷ int 2 ∷ []) ≡ answer (body.Int (pos 3))
unfolding brought
sum_of_two = search (rules, the_lemmas, values.the_lemmas)

sum_of_a_text : sum_of (text ∷ []) ≡ Missing
sum_of_a_text = search (rules, the_lemmas, values.the_lemmas)

sum_with_a_text : sum_of (int 1 ∷ text ∷ int 2 ∷ []) ≡ Missing
sum_with_a_text = search (rules, the_lemmas, values.the_lemmas)

least : best_of is_lt (int 2 ∷ int 1 ∷ int 3 ∷ []) ≡ Found (int 1)
unfolding brought
least = search (rules, the_lemmas, values.the_lemmas)

greatest : best_of is_gt (int 2 ∷ int 3 ∷ int 1 ∷ []) ≡ Found (int 3)
unfolding brought
greatest = search (rules, the_lemmas, values.the_lemmas)

apart : best_of is_lt (int 2 ∷ text ∷ []) ≡ Missing
apart = search (rules, the_lemmas, values.the_lemmas)

-- a value alone is compared with none
alone : best_of is_lt (document [] ∷ []) ≡ Found (document [])
alone = refl

-- ---- items

items_named : struct_from (in_row [] (bound_as (codes "t") 1 first ∷ []))
    (item (name (codes "t") (step.Field (codes "n") ∷ [])) None ∷ item (expr.Value (int 5)) None ∷ item (expr.Value (int 6)) (Some (codes "a"))
    ∷ item expr.Missing (Some (codes "b")) ∷ [])
    ≡ document (field (codes "n") (int 1) ∷ field (codes "_2") (int 5) ∷ field (codes "a") (int 6) ∷ [])
unfolding digits
items_named = search (rules, the_lemmas, values.the_lemmas)
