-- A SELECT on tables in memory is the one on the state that they list.
use Rattle.std.proofs.Common.{◌≡◌, ◌∙◌, ℕ, false, List, [], ◌∷◌, ◌++◌, map, Option, Some, None, Result, Ok, Err, refl, sym, ap, ap₂, true}
use Rattle.ion_values.specs.declared.value.Value.{Value}
use Rattle.ql_types.specs.declared.TableId.{TableId}
use Rattle.pql_model.specs.declared.statement.FromClause.{FromClause}
use Rattle.pql_model.specs.declared.statement.Select.{Select}
use Rattle.pql_model.specs.declared.statement.Source.{Source}
use Rattle.pql_model.specs.declared.tables.View.{View}
use Rattle.pql_model.specs.declared.tables.View.TheVariants as view
use Rattle.pql_model.specs.Answers.{answered}
use Rattle.pql_model.specs.From.{Combined, Viewed, rows_of, rows_over}
use Rattle.pql_from.specs.declared.clause.Given.{Given}
use Rattle.pql_from.specs.Held.{rows_held}
use Rattle.pql_model.specs.Tables.{is_committed, table_named}
use Rattle.ledger_model.specs.declared.block.Draft.{Draft}
use Rattle.ledger_model.specs.declared.outcome.Refusal.{Refusal}
use Rattle.ledger_model.specs.State as state
use Rattle.ledger_model.specs.State.{draft_of}
use Rattle.ledger_model.specs.Views.{latest}
use Rattle.ledger_model.specs.Run.{Progress, Effect, absent_table, first_absent, nothing, or_else, rows_in, selected, table_in, table_now, tables_now, unless, views_of}
use Rattle.txn_core.specs.declared.stopped.ExecuteFault.{ExecuteFault}
use Rattle.txn_core.specs.declared.stopped.ExecuteFault.TheVariants as stopped
use Rattle.txn_core.specs.Inserts.{without}
use Rattle.txn_core.specs.Opened.{Opened}
use Rattle.txn_core.specs.Reading.{AreGiven}
use Rattle.txn_core.specs.Selects.{absent_in, answer_in, first_absent_in}
use Rattle.txn_core.specs.Stops.{StopsFor}
use Rattle.txn_core.specs.TableViews.{rows_of_active, views_among}
use Rattle.txn_core.specs.Writes.{rows_seen}

-- the documents that a transaction sees, each with its latest revision
abbrev pub documents_now : state.State → Progress → List Draft
documents_now s p = latest (map draft_of s.revisions ++ p.log)

-- ---- views

rows-are : (s : state.State) (p : Progress) (v : View) (t : Option TableId) → rows_in s p v t ≡ rows_of_active s (documents_now s p) v t
rows-are s p v None = refl
rows-are s p view.User (Some table) = refl
rows-are s p view.Committed (Some table) = refl
rows-are s p (view.History start end) (Some table) = refl

pub views-are : (s : state.State) (p : Progress) → views_of s p ≡ views_among (tables_now s p) s (documents_now s p)
views-are s p = λ i name v. rows-are s p v (table_now s p name) i

-- the rows of a FROM
pub from-is : (s : state.State) (p : Progress) (params : List Value) (from : FromClause)
    → rows_of (views_of s p) params from ≡ rows_of (views_among (tables_now s p) s (documents_now s p)) params from
from-is s p params from = ap (λ (views : Viewed). rows_of views params from) (views-are s p)

-- ---- tables

-- a name without the prefix of committed views
pub plain-name : (name : List ℕ) → false ≡ is_committed name → name ≡ table_named name
plain-name name e = rw (sym e) refl

absent-is : (s : state.State) (p : Progress) (name : Option (List ℕ)) → absent_in (tables_now s p) name ≡ absent_table s p name
absent-is s p None = refl
absent-is s p (Some name) = refl

pub first-absent-is : (s : state.State) (p : Progress) (sources : List Source) → first_absent_in (tables_now s p) sources ≡ first_absent s p sources
first-absent-is s p [] = refl
first-absent-is s p (x ∷ xs) = ap₂ or_else (absent-is s p (table_in x.from)) (first-absent-is s p xs)

-- the rows that are seen where those of the sources are at hand
pub seen_rows : (t : Opened) (params : List Value) (from : FromClause) (given : List Given) (rows : List Combined) (cause : Option Refusal)
    → AreGiven t params from given → rows ≡ rows_over params from (rows_held given)
    → cause ≡ first_absent_in (tables_now t.base t.done) from.sources → cause ≡ None
    → rows_seen (tables_now t.base t.done) t.base (documents_now t.base t.done) params from ≡ Ok rows
seen_rows t params from given rows cause are is cause_is none =
    ap₂ (λ (why : Option Refusal) (seen : List Combined). without why (Ok seen)) (sym cause_is ∙ none)
    (sym (is ∙ are.rows ∙ from-is t.base t.done params from))

-- what is answered of them
pub answered_rows : (t : Opened) (params : List Value) (select : Select) (from : FromClause) (given : List Given) (rows : List Value)
    (cause : Option Refusal) → AreGiven t params from given → rows ≡ answered params (rows_over params from (rows_held given)) select
    → cause ≡ first_absent_in (tables_now t.base t.done) from.sources → cause ≡ None
    → answer_in (tables_now t.base t.done) t.base (documents_now t.base t.done) params select from ≡ Ok rows
answered_rows t params select from given rows cause are is cause_is none =
    ap₂ (λ (why : Option Refusal) (all : List Value). without why (Ok all)) (sym cause_is ∙ none)
    (sym (is ∙ ap (λ (seen : List Combined). answered params seen select) (are.rows ∙ from-is t.base t.done params from)))

-- ---- the statement

-- rows are answered, and nothing is changed
abbrev answer_alone : List Value → Effect
answer_alone rows = record { rows = rows; schema = []; log = []; made = 0; footprint = [] }

abbrev effect_by : Result (List Value) Refusal → Result Effect Refusal
effect_by (Ok rows) = Ok (answer_alone rows)
effect_by (Err cause) = Err cause

unless-is : (cause : Option Refusal) (rows : List Value) → unless cause (Ok (answer_alone rows)) ≡ effect_by (without cause (Ok rows))
unless-is None rows = refl
unless-is (Some cause) rows = refl

abbrev rows_wanted : state.State → Progress → List Value → Select → FromClause → Result (List Value) Refusal
rows_wanted s p params select from = answer_in (tables_now s p) s (documents_now s p) params select from

selected-is : (s : state.State) (p : Progress) (params : List Value) (select : Select) (from : FromClause)
    → selected s p params select from ≡ effect_by (rows_wanted s p params select from)
selected-is s p params select from =
    unless-is (first_absent s p from.sources) (answered params (rows_of (views_of s p) params from) select)
    ∙ ap₂ (λ (cause : Option Refusal) (rows : List Combined). effect_by (without cause (Ok (answered params rows select))))
    (sym (first-absent-is s p from.sources)) (from-is s p params from)

-- the rows are answered
pub selected_rows : (s : state.State) (p : Progress) (params : List Value) (select : Select) (from : FromClause) (rows : List Value) (none e : Effect)
    → rows_wanted s p params select from ≡ Ok rows → none ≡ nothing → e ≡ record none { rows = rows } → selected s p params select from ≡ Ok e
selected_rows s p params select from rows none e is empty alone =
    selected-is s p params select from ∙ ap effect_by is ∙ ap (λ (x : Effect). Ok (record x { rows = rows })) (sym empty) ∙ ap (λ (x : Effect). Ok x) (sym alone)

-- or the statement is refused
pub selected_stops : (s : state.State) (p : Progress) (params : List Value) (select : Select) (from : FromClause) (why : ExecuteFault)
    → StopsFor why (λ cause. rows_wanted s p params select from ≡ Err cause) → StopsFor why (λ cause. selected s p params select from ≡ Err cause)
selected_stops s p params select from (stopped.Refused cause) is =
    selected-is s p params select from ∙ ap effect_by is
selected_stops s p params select from stopped.OutOfMemory is = tt
