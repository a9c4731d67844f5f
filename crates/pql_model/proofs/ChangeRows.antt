-- Changes of documents with what they leave.
use Rattle.std.proofs.Common.{◌≡◌, ℕ, ℤ, pos, negsuc, List, [], ◌∷◌, codes, refl, rules}
use Rattle.std.specs.declared.option.Option.{Option}
use Rattle.std.specs.declared.option.Option.TheVariants.{None, Some}
use Rattle.ion_values.specs.declared.value.Body.{Body}
use Rattle.ion_values.specs.declared.value.Body.TheFolds as values
use Rattle.ion_values.specs.declared.value.Body.TheVariants as body
use Rattle.ion_values.specs.declared.value.Field.{Field, roll-Field}
use Rattle.ion_values.specs.declared.value.Kind.TheVariants as kind
use Rattle.ion_values.specs.declared.value.Value.{Value, roll-Value}
use Rattle.pql_model.specs.declared.expr.Expr.{Expr, roll-Expr}
use Rattle.pql_model.specs.declared.expr.Expr.TheOpen.{Expr-F}
use Rattle.pql_model.specs.declared.expr.Expr.TheFolds.{the_lemmas}
use Rattle.pql_model.specs.declared.expr.Expr.TheVariants as expr
use Rattle.pql_model.specs.declared.expr.Path.{Path, roll-Path}
use Rattle.pql_model.specs.declared.expr.PathStep.{PathStep}
use Rattle.pql_model.specs.declared.expr.PathStep.TheVariants as step
use Rattle.pql_model.specs.declared.scope.Bound.{Bound}
use Rattle.pql_model.specs.declared.scope.Evaluated.{Evaluated}
use Rattle.pql_model.specs.declared.scope.Evaluated.TheVariants.{Missing, Found}
use Rattle.pql_model.specs.declared.selector.Selector.{Selector}
use Rattle.pql_model.specs.declared.selector.Selector.TheVariants as selector
use Rattle.pql_model.specs.declared.statement.Change.{Change}
use Rattle.pql_model.specs.declared.statement.Change.TheVariants as change
use Rattle.pql_model.specs.declared.statement.Setting.{Setting}
use Rattle.ion_order.specs.Numbers.{number}
use Rattle.pql_model.specs.Changes.{applied, changed, inside, put_in_list, remove_member, selectors, set_member}
use Rattle.pql_model.specs.Made.{made}
use Rattle.pql_model.specs.Meaning.{under}

-- ---- parts

abbrev int : ℕ → Value
int n = made (body.Int (pos n))

abbrev list : List Value → Value
list values = made (body.List values)

abbrev sexp : List Value → Value
sexp values = made (body.Sexp values)

abbrev field : List ℕ → Value → Field
field name v = roll-Field (record { name = name; value = v })

abbrev struct : List Field → Value
struct fields = made (body.Struct fields)

abbrev annotated : List ℕ → Body → Value
annotated name b = roll-Value (record { annotations = name ∷ []; body = b })

abbrev a : Selector
a = selector.Field (codes "a")

abbrev at : ℤ → Selector
at n = selector.Element n

-- {a:1,b:2}
abbrev pair : Value
pair = struct (field (codes "a") (int 1) ∷ field (codes "b") (int 2) ∷ [])

-- {a:1,b:2,a:3}
abbrev repeated : Value
repeated = struct (field (codes "a") (int 1) ∷ field (codes "b") (int 2) ∷ field (codes "a") (int 3) ∷ [])

abbrev three : Value
three = list (int 10 ∷ int 20 ∷ int 30 ∷ [])

-- ---- SET

-- the first of two fields of the name
set_first : set_member (int 5) a repeated ≡ struct (field (codes "a") (int 5) ∷ field (codes "b") (int 2) ∷ field (codes "a") (int 3) ∷ [])
set_first = search (rules, values.the_lemmas)

-- a field more stands at the end
set_new : set_member (int 5) (selector.Field (codes "z")) pair
    ≡ struct (field (codes "a") (int 1) ∷ field (codes "b") (int 2) ∷ field (codes "z") (int 5) ∷ [])
set_new = search (rules, values.the_lemmas)

set_element : set_member (int 5) (at (pos 1)) three ≡ list (int 10 ∷ int 5 ∷ int 30 ∷ [])
set_element = search (rules, values.the_lemmas)

set_in_sexp : set_member (int 5) (at (pos 0)) (sexp (int 1 ∷ int 2 ∷ [])) ≡ sexp (int 5 ∷ int 2 ∷ [])
set_in_sexp = search (rules, values.the_lemmas)

-- there is no element at the length, nor at -1
set_at_length : set_member (int 5) (at (pos 3)) three ≡ three
set_at_length = search (rules, values.the_lemmas)

set_below : set_member (int 5) (at (negsuc 0)) three ≡ three
set_below = search (rules, values.the_lemmas)

-- a list has no fields, a struct no elements, and a null struct has none
set_field_of_list : set_member (int 5) a three ≡ three
set_field_of_list = search (rules, values.the_lemmas)

set_element_of_struct : set_member (int 5) (at (pos 0)) pair ≡ pair
set_element_of_struct = search (rules, values.the_lemmas)

set_field_of_null : set_member (int 5) a (made (body.Null kind.Struct)) ≡ made (body.Null kind.Struct)
set_field_of_null = search (rules, values.the_lemmas)

set_nowhere : set_member (int 5) selector.Nothing pair ≡ pair
set_nowhere = refl

-- a container that is rebuilt keeps its annotation
set_annotated : set_member (int 9) (at (pos 0)) (annotated (codes "k") (body.List (int 1 ∷ []))) ≡ annotated (codes "k") (body.List (int 9 ∷ []))
set_annotated = search (rules, values.the_lemmas)

-- ---- REMOVE

-- all fields of the name
remove_all : remove_member a repeated ≡ struct (field (codes "b") (int 2) ∷ [])
remove_all = search (rules, values.the_lemmas)

remove_absent : remove_member (selector.Field (codes "z")) pair ≡ pair
remove_absent = search (rules, values.the_lemmas)

remove_element : remove_member (at (pos 1)) three ≡ list (int 10 ∷ int 30 ∷ [])
remove_element = search (rules, values.the_lemmas)

remove_at_length : remove_member (at (pos 3)) three ≡ three
remove_at_length = search (rules, values.the_lemmas)

-- ---- INSERT

abbrev ints : ℤ → Option Evaluated
ints n = Some (Found (made (body.Int n)))

put_last : put_in_list (int 40) None three ≡ list (int 10 ∷ int 20 ∷ int 30 ∷ int 40 ∷ [])
put_last = search (rules, values.the_lemmas)

put_first : put_in_list (int 5) (ints (pos 0)) three ≡ list (int 5 ∷ int 10 ∷ int 20 ∷ int 30 ∷ [])
put_first = search (rules, values.the_lemmas)

put_at_length : put_in_list (int 40) (ints (pos 3)) three ≡ list (int 10 ∷ int 20 ∷ int 30 ∷ int 40 ∷ [])
put_at_length = search (rules, values.the_lemmas)

-- no place is past the length, below 0, a decimal, a null or MISSING
put_past : put_in_list (int 40) (ints (pos 4)) three ≡ three
put_past = search (rules, values.the_lemmas)

put_below : put_in_list (int 40) (ints (negsuc 0)) three ≡ three
put_below = search (rules, values.the_lemmas)

put_at_decimal : put_in_list (int 40) (Some (Found (made (body.Decimal (number (pos 10) (negsuc 0)))))) three ≡ three
put_at_decimal = search (rules, values.the_lemmas)

put_at_null : put_in_list (int 40) (Some (Found (made (body.Null kind.Int)))) three ≡ three
put_at_null = search (rules, values.the_lemmas)

put_at_missing : put_in_list (int 40) (Some Missing) three ≡ three
put_at_missing = search (rules, values.the_lemmas)

-- a sexp takes none
put_in_sexp : put_in_list (int 40) None (sexp (int 1 ∷ [])) ≡ sexp (int 1 ∷ [])
put_in_sexp = search (rules, values.the_lemmas)

-- ---- along paths

-- {o:{a:1,b:2,a:3},l:[10,20,30]}
abbrev deep : Value
deep = struct (field (codes "o") repeated ∷ field (codes "l") three ∷ [])

set_inside : changed (set_member (int 9)) (selector.Field (codes "l") ∷ at (pos 2) ∷ []) deep
    ≡ struct (field (codes "o") repeated ∷ field (codes "l") (list (int 10 ∷ int 20 ∷ int 9 ∷ [])) ∷ [])
set_inside = search (rules, values.the_lemmas)

remove_inside : changed remove_member (selector.Field (codes "o") ∷ a ∷ []) deep
    ≡ struct (field (codes "o") (struct (field (codes "b") (int 2) ∷ [])) ∷ field (codes "l") three ∷ [])
remove_inside = search (rules, values.the_lemmas)

put_inside : changed (inside (put_in_list (int 9) (ints (pos 0)))) (selector.Field (codes "l") ∷ []) deep
    ≡ struct (field (codes "o") repeated ∷ field (codes "l") (list (int 9 ∷ int 10 ∷ int 20 ∷ int 30 ∷ [])) ∷ [])
put_inside = search (rules, values.the_lemmas)

-- a parent that isn't there is not made
set_in_absent : changed (set_member (int 9)) (selector.Field (codes "z") ∷ a ∷ []) pair ≡ pair
set_in_absent = search (rules, values.the_lemmas)

set_in_int : changed (set_member (int 9)) (a ∷ a ∷ []) pair ≡ pair
set_in_int = search (rules, values.the_lemmas)

-- ---- whole changes

abbrev row : Value → List Bound
row v = record { variable = codes "t"; value = v; id_name = None; id = Some (record { raw = 1 }) } ∷ []

abbrev path : List ℕ → List PathStep → Path
path first steps = roll-Path (record { first = first; steps = steps })

abbrev name : List ℕ → Expr
name first = roll-Expr (Expr-F.Path (path first []))

abbrev setting : Path → Expr → Setting
setting target e = record { target = target; value = e }

left_out : selectors (under (row pair) []) (path (codes "b") (step.Field (codes "a") ∷ [])) ≡ selector.Field (codes "b") ∷ a ∷ []
left_out = search (rules, the_lemmas, values.the_lemmas)

written : selectors (under (row pair) []) (path (codes "t") (step.Field (codes "a") ∷ [])) ≡ a ∷ []
written = search (rules, the_lemmas, values.the_lemmas)

-- a text in brackets is a name, and a decimal asks for nothing
by_index : selectors (under (row pair) []) (path (codes "t") (step.Index (expr.Value (made (body.String (codes "a")))) ∷ step.Index (expr.Value (int 2)) ∷ step.Index (name (codes "z")) ∷ []))
    ≡ a ∷ at (pos 2) ∷ selector.Nothing ∷ []
by_index = search (rules, the_lemmas, values.the_lemmas)

-- SET a = b, b = a
swapped : applied [] (row pair) (change.Set (setting (path (codes "a") []) (name (codes "b")) ∷ setting (path (codes "b") []) (name (codes "a")) ∷ [])) pair
    ≡ struct (field (codes "a") (int 2) ∷ field (codes "b") (int 1) ∷ [])
swapped = search (rules, the_lemmas, values.the_lemmas)

-- what is MISSING isn't set, not even at a field that is there
set_missing : applied [] (row pair) (change.Set (setting (path (codes "a") []) (name (codes "z")) ∷ [])) pair ≡ pair
set_missing = search (rules, the_lemmas, values.the_lemmas)

-- REMOVE t.a, of a document that stands otherwise than its row
removed : applied [] (row pair) (change.Remove (path (codes "t") (step.Field (codes "a") ∷ []))) repeated ≡ struct (field (codes "b") (int 2) ∷ [])
removed = search (rules, the_lemmas, values.the_lemmas)
