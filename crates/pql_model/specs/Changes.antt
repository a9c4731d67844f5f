-- What a change makes of a document (SET, INSERT and REMOVE as in Amazon QLDB's PartiQL; what changes nothing is the
-- ledger's own). Where a path leads nowhere, or the value is MISSING, the document stays as it is. A container that
-- is rebuilt keeps its annotations.
use Rattle.std.specs.Prelude.{ℕ, ℤ, pos, negsuc, not, nat_le, nat_lt, List, [], ◌∷◌, ◌++◌, map, length, slice_set, zero, suc, if◌then◌else◌}
use Rattle.std.specs.List.{filter, insert, position_from, remove}
use Rattle.std.specs.Option.{option_map, option_map_or}
use Rattle.std.specs.Str.{bytes_eq}
use Rattle.std.specs.declared.option.Option.{Option}
use Rattle.std.specs.declared.option.Option.TheVariants.{None, Some}
use Rattle.ion_values.specs.declared.value.Body.{Body}
use Rattle.ion_values.specs.declared.value.Body.TheOpen.{Body-F}
use Rattle.ion_values.specs.declared.value.Body.TheVariants as body
use Rattle.ion_values.specs.declared.value.Field.{Field}
use Rattle.ion_values.specs.declared.value.Value.{Value}
use Rattle.pql_model.specs.declared.expr.Expr.{Expr}
use Rattle.pql_model.specs.declared.expr.Expr.TheOpen.{PathStep-F}
use Rattle.pql_model.specs.declared.expr.Member.{Member}
use Rattle.pql_model.specs.declared.expr.Path.{Path}
use Rattle.pql_model.specs.declared.expr.PathStep.{PathStep, out-PathStep}
use Rattle.pql_model.specs.declared.names.Resolved.{Resolved}
use Rattle.pql_model.specs.declared.scope.Bound.{Bound}
use Rattle.pql_model.specs.declared.scope.Evaluated.{Evaluated}
use Rattle.pql_model.specs.declared.scope.Evaluated.TheVariants.{Missing, Found}
use Rattle.pql_model.specs.declared.selector.Selector.{Selector}
use Rattle.pql_model.specs.declared.selector.Selector.TheVariants as selector
use Rattle.pql_model.specs.declared.statement.Change.{Change}
use Rattle.pql_model.specs.declared.statement.Change.TheVariants as change
use Rattle.pql_model.specs.declared.statement.Setting.{Setting}
use Rattle.pql_model.specs.Made.{Seen, seen}
use Rattle.pql_model.specs.Meaning.{Context, meaning, under}
use Rattle.pql_model.specs.Names.{called_in_row, resolve}

-- ---- which members a path asks for

-- an int asks for an element, a text for a field
abbrev pub selector_seen : Seen → Selector
selector_seen (Body-F.Int n) = selector.Element n
selector_seen (Body-F.Symbol name) = selector.Field name
selector_seen (Body-F.String name) = selector.Field name
selector_seen _ = selector.Nothing

abbrev pub selector_by : Evaluated → Selector
selector_by Missing = selector.Nothing
selector_by (Found index) = selector_seen (seen index)

abbrev pub selector_of : Context → PathStep-F Expr PathStep Member Path → Selector
selector_of c (PathStep-F.Field name) = selector.Field name
selector_of c (PathStep-F.Index e) = selector_by (meaning e c)

-- an index is read from the row
abbrev pub step_selector : Context → PathStep → Selector
step_selector c s = selector_of c (out-PathStep s)

-- where the root is left out, the first name is a field of the document
abbrev pub left_out : List ℕ → Option Resolved → List Selector
left_out name None = selector.Field name ∷ []
left_out name (Some root) = []

abbrev pub selectors : Context → Path → List Selector
selectors c p = left_out p.first (resolve p.first (map called_in_row c.scope)) ++ map (step_selector c) p.steps

-- ---- members of containers

abbrev pub with_body : Value → Body → Value
with_body v b = record { annotations = v.annotations; body = b }

-- a struct with other fields, and any other value as it is
abbrev pub in_fields : (List Field → List Field) → Value → Seen → Value
in_fields f v (Body-F.Struct fields) = with_body v (body.Struct (f fields))
in_fields f v _ = v

-- a list or sexp with other elements
abbrev pub in_elements : (List Value → List Value) → Value → Seen → Value
in_elements f v (Body-F.List values) = with_body v (body.List (f values))
in_elements f v (Body-F.Sexp values) = with_body v (body.Sexp (f values))
in_elements f v _ = v

-- a list alone
abbrev pub in_list : (List Value → List Value) → Value → Seen → Value
in_list f v (Body-F.List values) = with_body v (body.List (f values))
in_list f v _ = v

-- the place of an element that is there
abbrev pub place_below : ℕ → ℤ → Option ℕ
place_below end (pos n) = if nat_lt n end then Some n else None
place_below end (negsuc n) = None

abbrev pub at_element : (ℕ → List Value → List Value) → ℤ → List Value → List Value
at_element f place values = option_map_or (λ n. f n values) (place_below (length values) place) values

-- what is done with the fields of a name or with the element at a place
abbrev pub edited : (List ℕ → List Field → List Field) → (ℕ → List Value → List Value) → Selector → Value → Value
edited of_name of_place (selector.Field name) v = in_fields (of_name name) v (seen v)
edited of_name of_place (selector.Element n) v = in_elements (at_element of_place n) v (seen v)
edited of_name of_place selector.Nothing v = v

-- the place of the first field of that name
abbrev pub place_of : List ℕ → List Field → Option ℕ
place_of name fields = position_from (λ f. bytes_eq f.name name) 0 fields

-- ---- inside a member

abbrev pub change_at : {A : Type 0} → (A → A) → ℕ → List A → List A
change_at f n [] = []
change_at f zero (x ∷ xs) = f x ∷ xs
change_at f (suc n) (x ∷ xs) = x ∷ change_at f n xs

abbrev pub in_value : (Value → Value) → Field → Field
in_value f x = record { name = x.name; value = f x.value }

-- the first field of the name
abbrev pub change_field : (Value → Value) → List ℕ → List Field → List Field
change_field f name fields = option_map_or (λ n. change_at (in_value f) n fields) (place_of name fields) fields

abbrev pub inside : (Value → Value) → Selector → Value → Value
inside f = edited (change_field f) (change_at f)

-- ---- SET, REMOVE and INSERT at the end of a path

abbrev pub field : List ℕ → Value → Field
field name v = record { name = name; value = v }

-- it replaces the first field of the name, or adds it at the end
abbrev pub set_field : Value → List ℕ → List Field → List Field
set_field new name fields =
    option_map_or (λ n. slice_set fields n (field name new)) (place_of name fields) (fields ++ field name new ∷ [])

abbrev pub set_member : Value → Selector → Value → Value
set_member new = edited (set_field new) (λ n values. slice_set values n new)

-- it drops all fields of the name
abbrev pub without_field : List ℕ → List Field → List Field
without_field name fields = filter (λ f. not (bytes_eq f.name name)) fields

abbrev pub remove_member : Selector → Value → Value
remove_member = edited without_field (λ n values. remove values n)

-- a place from 0 to the end
abbrev pub place_up_to : ℕ → ℤ → Option ℕ
place_up_to end (pos n) = if nat_le n end then Some n else None
place_up_to end (negsuc n) = None

abbrev pub place_seen : ℕ → Seen → Option ℕ
place_seen end (Body-F.Int n) = place_up_to end n
place_seen end _ = None

abbrev pub place_for : ℕ → Evaluated → Option ℕ
place_for end Missing = None
place_for end (Found v) = place_seen end (seen v)

-- a value more at the end, or at the place that AT gives
abbrev pub put : Value → Option Evaluated → List Value → List Value
put new None values = values ++ new ∷ []
put new (Some at) values = option_map_or (λ n. insert values n new) (place_for (length values) at) values

abbrev pub put_in_list : Value → Option Evaluated → Value → Value
put_in_list new at v = in_list (put new at) v (seen v)

-- ---- along a path

-- what is done with the member that the last step asks for, inside the members that the steps before ask for
abbrev pub changed : (Selector → Value → Value) → List Selector → Value → Value
changed f [] v = v
changed f (s ∷ []) v = f s v
changed f (s ∷ t ∷ ss) v = inside (changed f (t ∷ ss)) s v

-- ---- changes

abbrev pub unless_missing : (Value → Value → Value) → Evaluated → Value → Value
unless_missing f Missing v = v
unless_missing f (Found new) v = f new v

abbrev pub set_by : Context → Path → Expr → Value → Value
set_by c target value = unless_missing (λ new. changed (set_member new) (selectors c target)) (meaning value c)

abbrev pub insert_by : Context → Path → Expr → Option Expr → Value → Value
insert_by c target value at =
    unless_missing (λ new. changed (inside (put_in_list new (option_map (λ e. meaning e c) at))) (selectors c target))
    (meaning value c)

abbrev pub remove_by : Context → Path → Value → Value
remove_by c target = changed remove_member (selectors c target)

-- one change: its path, and what it makes of the document of the path's root
pub record Alteration : Type 0 where
  pub target : Path
  pub made : Value → Value

abbrev pub setting : Context → Setting → Alteration
setting c s = record { target = s.target; made = set_by c s.target s.value }

-- each path of a SET with its expression is one change
abbrev pub alterations : Context → Change → List Alteration
alterations c (change.Set settings) = map (setting c) settings
alterations c (change.Insert target value at) = record { target = target; made = insert_by c target value at } ∷ []
alterations c (change.Remove target) = record { target = target; made = remove_by c target } ∷ []

-- one after the other
abbrev pub altered : List Alteration → Value → Value
altered [] v = v
altered (a ∷ more) v = altered more (a.made v)

-- what a change makes of the document of its paths' root, its expressions read from a row
abbrev pub applied : List Value → List Bound → Change → Value → Value
applied params scope c v = altered (alterations (under scope params) c) v
