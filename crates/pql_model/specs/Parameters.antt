-- How many `?` a statement has (PartiQL's positional parameters).
use Rattle.std.specs.Prelude.{ℕ, ◌+◌, map, Option, Some, None}
use Rattle.std.specs.List.{sum}
use Rattle.pql_model.specs.declared.expr.Expr.{Expr}
use Rattle.pql_model.specs.declared.expr.Expr.TheOpen.{Expr-F, PathStep-F, Member-F, Path-F}
use Rattle.pql_model.specs.declared.expr.Expr.TheFolds.{fold-Expr, fold-Member, fold-Path, fold-PathStep}
use Rattle.pql_model.specs.declared.expr.Member.{Member}
use Rattle.pql_model.specs.declared.expr.Path.{Path}
use Rattle.pql_model.specs.declared.expr.PathStep.{PathStep}
use Rattle.pql_model.specs.declared.statement.Statement.{Statement}
use Rattle.pql_model.specs.declared.statement.Statement.TheVariants as statement
use Rattle.pql_model.specs.declared.statement.Select.{Select}
use Rattle.pql_model.specs.declared.statement.Select.TheVariants as select
use Rattle.pql_model.specs.declared.statement.SelectItem.{SelectItem}
use Rattle.pql_model.specs.declared.statement.FromClause.{FromClause}
use Rattle.pql_model.specs.declared.statement.Source.{Source}
use Rattle.pql_model.specs.declared.statement.SourceKind.{SourceKind}
use Rattle.pql_model.specs.declared.statement.SourceKind.TheVariants as source
use Rattle.pql_model.specs.declared.statement.Change.{Change}
use Rattle.pql_model.specs.declared.statement.Change.TheVariants as change
use Rattle.pql_model.specs.declared.statement.Setting.{Setting}

-- ---- in expressions: one level, with what is inside already counted

abbrev pub expr_step : Expr-F ℕ ℕ ℕ ℕ → ℕ
expr_step (Expr-F.Value v) = 0
expr_step Expr-F.Missing = 0
expr_step (Expr-F.Parameter n) = 1
expr_step (Expr-F.Path p) = p
expr_step (Expr-F.Negate e) = e
expr_step (Expr-F.Not e) = e
expr_step (Expr-F.List es) = sum es
expr_step (Expr-F.Struct ms) = sum ms
expr_step (Expr-F.Binary op a b) = a + b
expr_step (Expr-F.IsIn a b) = a + b
expr_step (Expr-F.Like a b) = a + b
expr_step (Expr-F.Between a low high) = a + low + high
expr_step (Expr-F.IsNull e) = e
expr_step (Expr-F.IsMissing e) = e
expr_step (Expr-F.Coalesce es) = sum es
expr_step (Expr-F.Size e) = e
expr_step (Expr-F.CharLength e) = e
expr_step Expr-F.CountAll = 0
expr_step (Expr-F.Count e) = e
expr_step (Expr-F.Sum e) = e
expr_step (Expr-F.Min e) = e
expr_step (Expr-F.Max e) = e

abbrev pub step_step : PathStep-F ℕ ℕ ℕ ℕ → ℕ
step_step (PathStep-F.Field text) = 0
step_step (PathStep-F.Index e) = e

abbrev pub member_step : Member-F ℕ ℕ ℕ ℕ → ℕ
member_step m = m.value

abbrev pub path_step : Path-F ℕ ℕ ℕ ℕ → ℕ
path_step p = sum p.steps

abbrev pub in_expr : Expr → ℕ
in_expr = fold-Expr ℕ ℕ ℕ ℕ expr_step step_step member_step path_step

abbrev pub in_step : PathStep → ℕ
in_step = fold-PathStep ℕ ℕ ℕ ℕ expr_step step_step member_step path_step

abbrev pub in_member : Member → ℕ
in_member = fold-Member ℕ ℕ ℕ ℕ expr_step step_step member_step path_step

abbrev pub in_path : Path → ℕ
in_path = fold-Path ℕ ℕ ℕ ℕ expr_step step_step member_step path_step

-- ---- in the parts of statements

abbrev pub in_option : Option Expr → ℕ
in_option None = 0
in_option (Some e) = in_expr e

abbrev pub in_item : SelectItem → ℕ
in_item i = in_expr i.value

abbrev pub in_select : Select → ℕ
in_select select.Star = 0
in_select (select.Value e) = in_expr e
in_select (select.Items items) = sum (map in_item items)

abbrev pub in_kind : SourceKind → ℕ
in_kind (source.Table name) = 0
in_kind (source.History table start end) = in_option start + in_option end
in_kind (source.Path p) = in_path p

abbrev pub in_source : Source → ℕ
in_source s = in_kind s.from + in_option s.on

abbrev pub in_from : FromClause → ℕ
in_from f = sum (map in_source f.sources) + in_option f.filter

abbrev pub in_setting : Setting → ℕ
in_setting s = in_path s.target + in_expr s.value

abbrev pub in_change : Change → ℕ
in_change (change.Set settings) = sum (map in_setting settings)
in_change (change.Insert target value at) = in_path target + in_expr value + in_option at
in_change (change.Remove target) = in_path target

-- ---- in a statement

abbrev pub in_statement : Statement → ℕ
in_statement (statement.Select select from) = in_select select + in_from from
in_statement (statement.Insert table value) = in_expr value
in_statement (statement.Update from change) = in_from from + in_change change
in_statement (statement.From from change) = in_from from + in_change change
in_statement (statement.Delete from) = in_from from
in_statement (statement.Create table) = 0
in_statement (statement.Index table field) = 0
in_statement (statement.Drop table) = 0
in_statement (statement.Redact address table document) = in_expr address + in_expr table + in_expr document
