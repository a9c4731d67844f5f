-- What a statement owes beyond its grammar (PartiQL Specification, scoping of names, and aggregation; the placement
-- of BY and of the targets of changes as in Amazon QLDB's PartiQL). The rules judge the marks that were set in
-- reading the statement, in text order.
use Rattle.std.specs.Prelude.{ℕ, ◌==◌, ◌&&◌, ◌||◌, not, Bool, true, false, nat_lt, List, [], ◌∷◌, length, map, take, drop, codes, is_some, Option, Some, None, if◌then◌else◌}
use Rattle.std.specs.List.{list_any}
use Rattle.ion_model.specs.Blanks.{begins}
use Rattle.pql_model.specs.declared.ParseKind.{ParseKind}
use Rattle.pql_model.specs.declared.ParseKind.TheVariants as kind
use Rattle.pql_model.specs.declared.mark.Mark.{Mark}
use Rattle.pql_model.specs.declared.mark.Place.{Place}
use Rattle.pql_model.specs.declared.mark.Place.TheVariants as place
use Rattle.pql_model.specs.declared.mark.Role.{Role}
use Rattle.pql_model.specs.declared.mark.Role.TheVariants as role
use Rattle.pql_model.specs.declared.names.Resolved.{Resolved}
use Rattle.pql_model.specs.declared.names.Resolved.TheVariants.{Variable, Id}
use Rattle.pql_model.specs.declared.statement.Statement.{Statement}
use Rattle.pql_model.specs.declared.statement.Statement.TheVariants as statement
use Rattle.pql_model.specs.declared.statement.Source.{Source}
use Rattle.pql_model.specs.declared.statement.SourceKind.{SourceKind}
use Rattle.pql_model.specs.declared.statement.SourceKind.TheVariants as source
use Rattle.pql_model.specs.Grammar.{is_variable}
use Rattle.pql_model.specs.Names.{called, resolve}
use Rattle.pql_model.specs.Productions.{Fault}

abbrev pub sources_of : Statement → List Source
sources_of (statement.Select select from) = from.sources
sources_of (statement.Update from change) = from.sources
sources_of (statement.From from change) = from.sources
sources_of (statement.Delete from) = from.sources
sources_of (statement.Insert table value) = []
sources_of (statement.Create table) = []
sources_of (statement.Index table field) = []
sources_of (statement.Drop table) = []
sources_of (statement.Redact address table document) = []

-- ---- what a name means

abbrev pub is_single : List Source → Bool
is_single sources = length sources == 1

-- what the name means of these sources
abbrev pub resolved : List ℕ → List Source → Option Resolved
resolved name sources = resolve name (map called sources)

-- A path source sees the earlier sources, and every other expression sees all.
abbrev pub seen_from : Place → List Source → List Source
seen_from (place.Source n) sources = take n sources
seen_from _ sources = sources

-- ---- names, BY and targets

abbrev pub unless : Bool → ParseKind → Option ParseKind
unless holds k = if holds then None else Some k

-- A name is that of a source that the expression sees, or of a field of the only source.
abbrev pub judged_name : Place → List ℕ → List Source → Option ParseKind
judged_name p name sources =
    unless (is_some (resolved name (seen_from p sources)) || is_single sources) kind.UnknownName

abbrev pub is_path : SourceKind → Bool
is_path (source.Table name) = false
is_path (source.History table start end) = false
is_path (source.Path p) = true

abbrev pub is_path_at : Place → List Source → Bool
is_path_at (place.Source n) sources = list_any (λ s. is_path s.from) (take 1 (drop n sources))
is_path_at _ sources = false

-- The root of a path source is a variable of an earlier source.
abbrev pub judged_root : Place → List ℕ → List Source → Option ParseKind
judged_root p name sources =
    unless (not (is_path_at p sources) || is_variable (seen_from p sources) name) kind.UnknownName

-- BY stands behind a table or a history.
abbrev pub judged_by : Place → List Source → Option ParseKind
judged_by p sources = unless (not (is_path_at p sources)) kind.BadTarget

-- a table that can be changed: no history, and no committed view
abbrev pub is_table : SourceKind → Bool
is_table (source.Table name) = not (begins (codes "_ql_committed_") name)
is_table (source.History table start end) = false
is_table (source.Path p) = false

abbrev pub is_table_at : ℕ → List Source → Bool
is_table_at n sources = list_any (λ s. is_table s.from) (take 1 (drop n sources))

-- with one source its variable may be left out
abbrev pub is_target_of_one : List Source → Bool
is_target_of_one (s ∷ []) = is_table s.from
is_target_of_one _ = false

abbrev pub is_target : Bool → List Source → Option Resolved → Bool
is_target has_steps sources (Some (Variable n)) = has_steps && is_table_at n sources
is_target has_steps sources (Some (Id n)) = false
is_target has_steps sources None = is_target_of_one sources

-- The path of a change begins at a table's variable and has a step.
abbrev pub judged_target : List ℕ → Bool → List Source → Option ParseKind
judged_target name has_steps sources = unless (is_target has_steps sources (resolved name sources)) kind.BadTarget

abbrev pub judged : Place → Role → List Source → Option ParseKind
judged p (role.Name name) sources = judged_name p name sources
judged p (role.Root name) sources = judged_root p name sources
judged p role.By sources = judged_by p sources
judged p (role.Target name has_steps) sources = judged_target name has_steps sources
judged p _ sources = None

-- ---- aggregates

abbrev pub is_whole : Role → Bool
is_whole (role.Item whole aggregates) = whole
is_whole _ = false

abbrev pub has_whole : List Mark → Bool
has_whole marks = list_any (λ m. is_whole m.role) marks

-- An aggregate is a whole item, and where one item is an aggregate all are.
abbrev pub is_fitting : Bool → Bool → ℕ → Bool
is_fitting grouped true aggregates = aggregates == 1
is_fitting grouped false aggregates = not grouped && aggregates == 0

-- aggregates in items are judged with their items
abbrev pub mixed : Bool → Place → Role → Option ParseKind
mixed grouped p (role.Item whole aggregates) = unless (is_fitting grouped whole aggregates) kind.MixedAggregate
mixed grouped place.Item role.Aggregate = None
mixed grouped p role.Aggregate = Some kind.MixedAggregate
mixed grouped p _ = None

-- ---- the first fault

abbrev pub fault_or : ℕ → Option ParseKind → Option Fault → Option Fault
fault_or at (Some k) later = Some (record { at = at; kind = k })
fault_or at None later = later

abbrev pub first_fault : (Mark → Option ParseKind) → List Mark → Option Fault
first_fault judge [] = None
first_fault judge (m ∷ ms) = fault_or m.at (judge m) (first_fault judge ms)

-- the earlier of two, and of two at one place the first
abbrev pub earlier : Option Fault → Option Fault → Option Fault
earlier (Some a) (Some b) = if nat_lt b.at a.at then Some b else Some a
earlier (Some a) None = Some a
earlier None b = b

abbrev pub broken : List Source → List Mark → Option Fault
broken sources marks =
    earlier (first_fault (λ m. judged m.place m.role sources) marks)
    (first_fault (λ m. mixed (has_whole marks) m.place m.role) marks)
