-- Paths (PartiQL, path navigation; what a name means is the ledger's own). A name means what it is of the sources;
-- else, where the statement has exactly one source, the field of that source.
use Rattle.std.specs.Prelude.{ℕ, ℤ, pos, negsuc, Bool, true, List, [], ◌∷◌, map, slice_get}
use Rattle.std.specs.Option.{option_map, option_map_or}
use Rattle.std.specs.List.{find}
use Rattle.std.specs.Str.{bytes_eq}
use Rattle.std.specs.declared.option.Option.{Option}
use Rattle.std.specs.declared.option.Option.TheVariants.{None, Some}
use Rattle.ql_types.specs.Ids.{id_text}
use Rattle.ql_types.specs.declared.DocId.{DocId}
use Rattle.ion_values.specs.declared.value.Value.{Value}
use Rattle.ion_values.specs.declared.value.Field.{Field}
use Rattle.ion_values.specs.declared.value.Body.TheVariants as body
use Rattle.ion_values.specs.declared.value.Body.TheOpen.{Body-F}
use Rattle.pql_model.specs.declared.names.Resolved.{Resolved}
use Rattle.pql_model.specs.declared.names.Resolved.TheVariants.{Variable, Id}
use Rattle.pql_model.specs.declared.scope.Bound.{Bound}
use Rattle.pql_model.specs.declared.scope.Evaluated.{Evaluated}
use Rattle.pql_model.specs.declared.scope.Evaluated.TheVariants.{Missing, Found}
use Rattle.pql_model.specs.Made.{Seen, seen, answer, found}
use Rattle.pql_model.specs.Names.{called_in_row, resolve}

-- the first field of that name
abbrev pub first_field : List ℕ → List Field → Option Value
first_field name fields = option_map (λ f. f.value) (find (λ f. bytes_eq f.name name) fields)

abbrev pub field_seen : List ℕ → Seen → Option Value
field_seen name (Body-F.Struct fields) = first_field name fields
field_seen name _ = None

-- of a struct, the first field of that name
abbrev pub field_of : List ℕ → Value → Option Value
field_of name v = field_seen name (seen v)

-- places count from 0
abbrev pub at_place : ℤ → List Value → Option Value
at_place (pos n) values = slice_get values n
at_place (negsuc n) values = None

abbrev pub element_seen : ℤ → Seen → Option Value
element_seen n (Body-F.List values) = at_place n values
element_seen n (Body-F.Sexp values) = at_place n values
element_seen n _ = None

abbrev pub indexed_seen : Seen → Value → Option Value
indexed_seen (Body-F.Int n) v = element_seen n (seen v)
indexed_seen (Body-F.Symbol name) v = field_of name v
indexed_seen (Body-F.String name) v = field_of name v
indexed_seen _ v = None

-- by an int, that element of a list or sexp; by a text, the field of that name
abbrev pub indexed : Value → Value → Option Value
indexed i v = indexed_seen (seen i) v

-- an id as a string
abbrev pub id_answer : Option DocId → Evaluated
id_answer None = Missing
id_answer (Some id) = answer (body.String (id_text id.raw))

-- the value of the source, and the id of its document
abbrev pub meant_by : Resolved → Bound → Evaluated
meant_by (Variable place) b = Found b.value
meant_by (Id place) b = id_answer b.id

abbrev pub place_of : Resolved → ℕ
place_of (Variable place) = place
place_of (Id place) = place

abbrev pub meant_in : List Bound → Resolved → Evaluated
meant_in scope r = option_map_or (meant_by r) (slice_get scope (place_of r)) Missing

-- the field of the only source of the statement, where the row has all its sources
abbrev pub field_of_only : List ℕ → Bool → List Bound → Evaluated
field_of_only name true (b ∷ []) = found (field_of name b.value)
field_of_only name _ _ = Missing

-- what a path's first name means
abbrev pub named : List ℕ → Bool → List Bound → Evaluated
named name is_whole scope =
    option_map_or (meant_in scope) (resolve name (map called_in_row scope)) (field_of_only name is_whole scope)
