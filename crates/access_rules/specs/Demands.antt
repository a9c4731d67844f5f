-- What a statement demands of the tables that it names, in order (the actions are those of Amazon QLDB's permissions;
-- which of them a join with a change demands, and the order, are the ledger's own).
use Rattle.std.specs.Prelude.{ℕ, ◌+◌, ◌==◌, Bool, List, [], ◌∷◌, ◌++◌, length, map, Option, Some, None, Result, Ok, Err, unwrap_or, if◌then◌else◌}
use Rattle.std.specs.List.{flat_map, list_any}
use Rattle.ion_values.specs.declared.value.Value.{Value}
use Rattle.pql_model.specs.declared.statement.Change.{Change}
use Rattle.pql_model.specs.declared.statement.Source.{Source}
use Rattle.pql_model.specs.declared.statement.SourceKind.{SourceKind}
use Rattle.pql_model.specs.declared.statement.SourceKind.TheVariants as source
use Rattle.pql_model.specs.declared.statement.Statement.{Statement}
use Rattle.pql_model.specs.declared.statement.Statement.TheVariants as statement
use Rattle.pql_model.specs.declared.scope.Evaluated.{Evaluated}
use Rattle.pql_model.specs.declared.scope.Evaluated.TheVariants.{Missing, Found}
use Rattle.pql_model.specs.Meaning.{meaning, under}
use Rattle.pql_model.specs.Parse.{parsed}
use Rattle.pql_model.specs.Productions.{Fault}
use Rattle.pql_model.specs.Tables.{table_named}
use Rattle.pql_model.specs.Texts.{text_of}
use Rattle.ledger_model.specs.declared.script.Request.{Request}
use Rattle.ledger_model.specs.Statements.{wanted}
use Rattle.ledger_model.specs.Writing.{is_at, root_place, targets}
use Rattle.access_rules.specs.declared.demand.Demand.{Demand}
use Rattle.access_rules.specs.declared.rule.Action.{Action}
use Rattle.access_rules.specs.declared.rule.Action.TheVariants as action

abbrev pub demand : Action → List ℕ → Demand
demand a table = record { action = a; table = table }

-- ---- sources

-- an action on the table of a source, which for a committed view is its table; a path names no table
abbrev pub on_source : Action → SourceKind → List Demand
on_source a (source.Table name) = demand a (table_named name) ∷ []
on_source a (source.History table start end) = demand a table ∷ []
on_source a (source.Path path) = []

abbrev pub on_sources : Action → List Source → List Demand
on_sources a sources = flat_map (λ s. on_source a s.from) sources

-- what reading a source demands
abbrev pub reading : SourceKind → List Demand
reading (source.Table name) = demand action.PartiQLSelect (table_named name) ∷ []
reading (source.History table start end) = demand action.PartiQLHistoryFunction table ∷ []
reading (source.Path path) = []

-- ---- FROM with a change

-- the places of the sources at which the paths of the change begin
abbrev pub roots : List Source → Change → List (Option ℕ)
roots sources c = map (root_place sources) (targets c)

-- a changed source is one at which a path begins
abbrev pub is_changed : List (Option ℕ) → ℕ → Bool
is_changed rs place = list_any (is_at place) rs

-- the sources from a place on, from the left
abbrev pub changing_from : List (Option ℕ) → ℕ → List Source → List Demand
changing_from rs place [] = []
changing_from rs place (s ∷ ss) =
    (if is_changed rs place then on_source action.PartiQLUpdate s.from else reading s.from)
    ++ changing_from rs (place + 1) ss

abbrev pub changing : List Source → Change → List Demand
changing sources c = changing_from (roots sources c) 0 sources

-- ---- statements

-- the text that a value is, or the empty one
abbrev pub text_or_empty : Evaluated → List ℕ
text_or_empty Missing = []
text_or_empty (Found v) = unwrap_or (text_of v) []

-- a redaction names its table by an argument, which may be a parameter
abbrev pub demanded : Statement → List Value → List Demand
demanded (statement.Select select from) params = flat_map (λ s. reading s.from) from.sources
demanded (statement.Insert table value) params = demand action.PartiQLInsert table ∷ []
demanded (statement.Update from change) params = on_sources action.PartiQLUpdate from.sources
demanded (statement.From from change) params = changing from.sources change
demanded (statement.Delete from) params = on_sources action.PartiQLDelete from.sources
demanded (statement.Create table) params = demand action.PartiQLCreateTable table ∷ []
demanded (statement.Index table field) params = demand action.PartiQLCreateIndex table ∷ []
demanded (statement.Drop table) params = demand action.PartiQLDropTable table ∷ []
demanded (statement.Redact address table document) params =
    demand action.PartiQLRedact (text_or_empty (meaning table (under [] params))) ∷ []

-- ---- requests

-- the statement that a text is parsed as, if it is one
abbrev pub tree : Result Statement Fault → Option Statement
tree (Ok s) = Some s
tree (Err fault) = None

-- a text that is no statement demands nothing, nor does one with another number of parameters than question marks
abbrev pub demanded_of : List Value → Option Statement → List Demand
demanded_of params None = []
demanded_of params (Some s) = if wanted s == length params then demanded s params else []

abbrev pub demanded_by : Request → List Demand
demanded_by r = demanded_of r.params (tree (parsed r.text))
