-- Which source a name means (PartiQL Specification, scoping of names; BY names as in Amazon QLDB's PartiQL, and which
-- of several counts is the ledger's own). Of the sources that are spelt alike the last is meant, a BY name counting
-- after the variable of its source.
use Rattle.std.specs.Prelude.{ℕ, ◌+◌, Bool, false, List, [], ◌∷◌, if◌then◌else◌}
use Rattle.std.specs.Str.{bytes_eq}
use Rattle.std.specs.declared.option.Option.{Option}
use Rattle.std.specs.declared.option.Option.TheVariants.{None, Some}
use Rattle.pql_model.specs.declared.names.Resolved.{Resolved}
use Rattle.pql_model.specs.declared.names.Resolved.TheVariants.{Variable, Id}
use Rattle.pql_model.specs.declared.scope.Bound.{Bound}
use Rattle.pql_model.specs.declared.statement.Source.{Source}

-- what a source is called: its variable and, where it has one, its BY name
pub record Called : Type 0 where
  pub variable : List ℕ
  pub id_name : Option (List ℕ)

abbrev pub called : Source → Called
called s = record { variable = s.variable; id_name = s.id_name }

abbrev pub called_in_row : Bound → Called
called_in_row b = record { variable = b.variable; id_name = b.id_name }

abbrev pub is_id : List ℕ → Option (List ℕ) → Bool
is_id name None = false
is_id name (Some id) = bytes_eq id name

-- what a name means of the source at a place
abbrev pub resolved_by : ℕ → List ℕ → Called → Option Resolved
resolved_by place name c =
    if is_id name c.id_name then Some (Id place) else (if bytes_eq c.variable name then Some (Variable place) else None)

abbrev pub or_else : Option Resolved → Option Resolved → Option Resolved
or_else (Some r) before = Some r
or_else None before = before

-- of the sources from a place on
abbrev pub resolve_from : ℕ → List ℕ → List Called → Option Resolved
resolve_from place name [] = None
resolve_from place name (c ∷ cs) = or_else (resolve_from (place + 1) name cs) (resolved_by place name c)

-- what a name means of the sources that are seen, each by its place, counted from 0
abbrev pub resolve : List ℕ → List Called → Option Resolved
resolve name seen = resolve_from 0 name seen

-- ---- where the path of a change begins

-- the source that is meant; where there is only one it may be left out, and the first name is then a field
abbrev pub root_by : List Called → Option Resolved → Option ℕ
root_by seen (Some (Variable place)) = Some place
root_by seen (Some (Id place)) = None
root_by (c ∷ []) None = Some 0
root_by _ None = None

-- the source at which a path begins whose first name this is, by its place among those that are seen
abbrev pub root_at : List ℕ → List Called → Option ℕ
root_at name seen = root_by seen (resolve name seen)
