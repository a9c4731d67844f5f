-- Lists and structs (PartiQL, IN, BETWEEN, constructors, COALESCE and SIZE; the rules for MISSING are the ledger's
-- own).
use Rattle.std.specs.Prelude.{ℕ, pos, Bool, true, false, List, [], ◌∷◌, map, length, if◌then◌else◌}
use Rattle.std.specs.Option.{option_map_or}
use Rattle.std.specs.List.{list_any, flat_map}
use Rattle.std.specs.declared.option.Option.{Option}
use Rattle.std.specs.declared.option.Option.TheVariants.{None, Some}
use Rattle.ion_values.specs.declared.value.Value.{Value}
use Rattle.ion_values.specs.declared.value.Field.{Field}
use Rattle.ion_values.specs.declared.value.Body.TheVariants as body
use Rattle.ion_values.specs.declared.value.Body.TheOpen.{Body-F}
use Rattle.pql_model.specs.declared.scope.Evaluated.{Evaluated}
use Rattle.pql_model.specs.declared.scope.Evaluated.TheVariants.{Missing, Found}
use Rattle.pql_model.specs.Made.{Seen, seen, answer, truth, null, is_null, is_unknown, onward}
use Rattle.pql_model.specs.Comparisons.{equal, at_least, at_most}
use Rattle.pql_model.specs.Logic.{conjunction, truth_in, is_true}

abbrev pub list_seen : Seen → Option (List Value)
list_seen (Body-F.List values) = Some values
list_seen _ = None

-- null, and not MISSING
abbrev pub is_null_answer : Evaluated → Bool
is_null_answer Missing = false
is_null_answer (Found v) = is_null v

-- true where one of the answers is, else NULL where one is null, else false
abbrev pub any_of : List Evaluated → Evaluated
any_of answers =
    if list_any (λ e. is_true (truth_in e)) answers then truth true else if list_any is_null_answer answers then null
    else truth false

-- what `=` says of an element
abbrev pub is_equal_to : Evaluated → Value → Evaluated
is_equal_to x v = equal x (Found v)

abbrev pub is_among : Evaluated → List Value → Evaluated
is_among x values = any_of (map (is_equal_to x) values)

-- MISSING where the second is no list
abbrev pub is_in : Evaluated → Evaluated → Evaluated
is_in x e = onward (λ v. option_map_or (is_among x) (list_seen (seen v)) Missing) e

abbrev pub between : Evaluated → Evaluated → Evaluated → Evaluated
between x low high = conjunction (truth_in (at_least x low)) (truth_in (at_most x high))

abbrev pub value_in : Evaluated → List Value
value_in Missing = []
value_in (Found v) = v ∷ []

-- the values in order, without what is MISSING
abbrev pub list_of : List Evaluated → Evaluated
list_of members = answer (body.List (flat_map value_in members))

-- the field, and none where its value is MISSING
abbrev pub field_in : List ℕ → Evaluated → List Field
field_in name Missing = []
field_in name (Found v) = record { name = name; value = v } ∷ []

abbrev pub struct_of : List (List Field) → Evaluated
struct_of members = answer (body.Struct (flat_map (λ fields. fields) members))

-- the first that is neither null nor MISSING, else NULL
abbrev pub coalesce : List Evaluated → Evaluated
coalesce [] = null
coalesce (e ∷ es) = if is_unknown e then coalesce es else e

abbrev pub size_seen : Seen → Option ℕ
size_seen (Body-F.List values) = Some (length values)
size_seen (Body-F.Sexp values) = Some (length values)
size_seen (Body-F.Struct fields) = Some (length fields)
size_seen _ = None

abbrev pub members_of : Value → Option ℕ
members_of v = size_seen (seen v)

-- NULL for null, the number of members of a container, else MISSING
abbrev pub size_of : Value → Evaluated
size_of v = if is_null v then null else option_map_or (λ n. answer (body.Int (pos n))) (members_of v) Missing

abbrev pub size : Evaluated → Evaluated
size = onward size_of
