-- Statements that make no deep value (own): no expression of theirs nests list and struct constructors more than 64
-- deep, and none has a literal that is deeper than 64.
use Rattle.std.specs.Prelude.{ℕ, ◌≡◌, ◌≤◌, max, List, map, Ok, ◌+◌}
use Rattle.std.specs.declared.option.Option.{Option}
use Rattle.std.specs.declared.option.Option.TheVariants.{None, Some}
use Rattle.ion_values.specs.Depth.{depth_of, deepest}
use Rattle.ion_values.specs.declared.value.Value.{Value}
use Rattle.pql_model.specs.declared.expr.Expr.{Expr}
use Rattle.pql_model.specs.declared.expr.Expr.TheFolds.{fold-Path}
use Rattle.pql_model.specs.declared.expr.Path.{Path}
use Rattle.pql_model.specs.declared.statement.FromClause.{FromClause}
use Rattle.pql_model.specs.declared.statement.Select.{Select}
use Rattle.pql_model.specs.declared.statement.Select.TheVariants as select
use Rattle.pql_model.specs.declared.statement.SelectItem.{SelectItem}
use Rattle.pql_model.specs.declared.statement.Source.{Source}
use Rattle.pql_model.specs.declared.statement.SourceKind.{SourceKind}
use Rattle.pql_model.specs.declared.statement.SourceKind.TheVariants as source
use Rattle.pql_model.specs.declared.statement.Statement.{Statement}
use Rattle.pql_model.specs.declared.statement.Statement.TheVariants as statement
use Rattle.pql_model.specs.declared.tables.Row.{Row}
use Rattle.pql_model.specs.declared.tables.View.{View}
use Rattle.pql_model.specs.Answers.{answered}
use Rattle.pql_model.specs.From.{Viewed, rows_of}
use Rattle.pql_model.specs.MeaningDepth.{deepest_literal, greatest, nesting, of_member, of_path, of_step}
use Rattle.pql_model.specs.Parse.{parsed}

-- ---- how deep the parts of a statement are

-- an expression: its constructors or its literals
abbrev pub expr_depth : Expr → ℕ
expr_depth e = max (nesting e) (deepest_literal e)

-- one that may be left out
abbrev pub given_depth : Option Expr → ℕ
given_depth None = 0
given_depth (Some e) = expr_depth e

-- how deep the constructors in a path's indexes nest
abbrev pub path_nesting : Path → ℕ
path_nesting = fold-Path ℕ ℕ ℕ ℕ (greatest (λ v. 0) 1) of_step of_member of_path

-- the deepest literal in them
abbrev pub path_literal : Path → ℕ
path_literal = fold-Path ℕ ℕ ℕ ℕ (greatest depth_of 0) of_step of_member of_path

-- a path: each index
abbrev pub path_depth : Path → ℕ
path_depth p = max (path_nesting p) (path_literal p)

-- what rows come from: a path, or the bounds of a history
abbrev pub kind_depth : SourceKind → ℕ
kind_depth (source.Table name) = 0
kind_depth (source.History table start end) = max (given_depth start) (given_depth end)
kind_depth (source.Path p) = path_depth p

-- a source, with its ON
abbrev pub source_depth : Source → ℕ
source_depth s = max (kind_depth s.from) (given_depth s.on)

-- FROM: its sources and WHERE
abbrev pub from_depth : FromClause → ℕ
from_depth f = max (deepest (map source_depth f.sources)) (given_depth f.filter)

-- an item of a SELECT
abbrev pub item_depth : SelectItem → ℕ
item_depth i = expr_depth i.value

-- what a SELECT answers of each row
abbrev pub select_depth : Select → ℕ
select_depth select.Star = 0
select_depth (select.Value e) = expr_depth e
select_depth (select.Items items) = deepest (map item_depth items)

-- the SELECT that a statement is, and nothing of any other
abbrev pub statement_depth : Statement → ℕ
statement_depth (statement.Select select from) = max (select_depth select) (from_depth from)
statement_depth (statement.Insert table value) = 0
statement_depth (statement.Update from change) = 0
statement_depth (statement.From from change) = 0
statement_depth (statement.Delete from) = 0
statement_depth (statement.Create table) = 0
statement_depth (statement.Index table field) = 0
statement_depth (statement.Drop table) = 0
statement_depth (statement.Redact address table document) = 0

-- ---- at most 64

-- an expression
abbrev pub IsShallow : Expr → Type 0
IsShallow e = expr_depth e ≤ 64

-- a path
abbrev pub IsShallowPath : Path → Type 0
IsShallowPath p = path_depth p ≤ 64

-- a source
abbrev pub IsShallowSource : Source → Type 0
IsShallowSource s = source_depth s ≤ 64

-- FROM
abbrev pub IsShallowFrom : FromClause → Type 0
IsShallowFrom f = from_depth f ≤ 64

-- what a SELECT answers of each row
abbrev pub IsShallowSelect : Select → Type 0
IsShallowSelect s = select_depth s ≤ 64

-- a statement
abbrev pub IsShallowStatement : Statement → Type 0
IsShallowStatement s = statement_depth s ≤ 64

-- ---- the laws

-- the deepest of the rows' values
abbrev pub rows_depth : List Row → ℕ
rows_depth rows = deepest (map (λ r. depth_of r.value) rows)

-- the values of every view are at most so deep
abbrev pub AreWithin : ℕ → Viewed → Type 0
AreWithin depth views = (name : List ℕ) (view : View) → rows_depth (views name view) ≤ depth

-- What a SELECT answers, from whichever rows, is at most 65 deeper than the views, the parameters and 64: 64 of
-- constructors, and the struct of items. So it is at most 129 deep where the views and the parameters are at most 64
-- deep.
abbrev pub AnswersAreShallow : Type 0
AnswersAreShallow =
    (depth : ℕ) (views : Viewed) (params : List Value) (from : FromClause) (select : Select)
    → AreWithin depth views → deepest (map depth_of params) ≤ depth → IsShallowSelect select
    → deepest (map depth_of (answered params (rows_of views params from) select)) ≤ max depth 64 + 65

-- a statement that was read is shallow, its literals in backquotes included
abbrev pub ParsedIsShallow : Type 0
ParsedIsShallow = (text : List ℕ) (s : Statement) → parsed text ≡ Ok s → IsShallowStatement s
