-- At which sources the paths of a change begin, and that a statement that is read changes no documents but those of a
-- table (which paths a change may have is the ledger's own).
use Rattle.std.specs.Prelude.{◌≡◌, ℕ, ◌==◌, Bool, true, false, List, [], ◌∷◌, map, slice_get, Option, Some, None, Ok}
use Rattle.std.specs.List.{list_any}
use Rattle.pql_model.specs.declared.expr.Path.{Path}
use Rattle.pql_model.specs.declared.names.Resolved.{Resolved}
use Rattle.pql_model.specs.declared.statement.Change.{Change}
use Rattle.pql_model.specs.declared.statement.Change.TheVariants as change
use Rattle.pql_model.specs.declared.statement.Setting.{Setting}
use Rattle.pql_model.specs.declared.statement.Source.{Source}
use Rattle.pql_model.specs.declared.statement.SourceKind.{SourceKind}
use Rattle.pql_model.specs.declared.statement.SourceKind.TheVariants as source
use Rattle.pql_model.specs.declared.statement.Statement.{Statement}
use Rattle.pql_model.specs.declared.statement.Statement.TheVariants as statement
use Rattle.pql_model.specs.Names.{called, resolve, root_by}
use Rattle.pql_model.specs.Parse.{parsed}
use Rattle.pql_model.specs.Rules.{sources_of}

-- the source at which the path of a change begins, by its place
abbrev pub place_by : List Source → Option Resolved → Option ℕ
place_by sources meant = root_by (map called sources) meant

abbrev pub root_place : List Source → Path → Option ℕ
root_place sources p = place_by sources (resolve p.first (map called sources))

abbrev pub targets : Change → List Path
targets (change.Set settings) = map (λ (s : Setting). s.target) settings
targets (change.Insert target value at) = target ∷ []
targets (change.Remove target) = target ∷ []

abbrev pub is_at : ℕ → Option ℕ → Bool
is_at n None = false
is_at n (Some place) = place == n

-- whether a path of the change begins at the source of this place
abbrev pub is_root : List Source → Change → ℕ → Bool
is_root sources c n = list_any (λ p. is_at n (root_place sources p)) (targets c)

-- ---- what a statement changes

-- whether it changes documents of the source of this place
abbrev pub is_changed : Statement → ℕ → Bool
is_changed (statement.Update from change) n = is_root from.sources change n
is_changed (statement.From from change) n = is_root from.sources change n
is_changed (statement.Delete from) n = true
is_changed _ n = false

-- a table or its committed view
abbrev pub is_name : SourceKind → Bool
is_name (source.Table name) = true
is_name (source.History table start end) = false
is_name (source.Path path) = false

-- of no history, and of nothing in a document
abbrev pub TablesAreChanged : Type 0
TablesAreChanged =
    (text : List ℕ) (st : Statement) (n : ℕ) (s : Source) → parsed text ≡ Ok st → is_changed st n ≡ true
    → slice_get (sources_of st) n ≡ Some s → is_name s.from ≡ true
