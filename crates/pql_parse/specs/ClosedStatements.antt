-- Productions of statements, by names that stay closed in proofs.
use Rattle.std.specs.Prelude.{ℕ, List, Option}
use Rattle.pql_model.specs.declared.mark.Place.TheVariants as place
use Rattle.pql_model.specs.declared.expr.Expr.{Expr}
use Rattle.pql_model.specs.declared.expr.Path.{Path}
use Rattle.pql_model.specs.declared.statement.Change.{Change}
use Rattle.pql_model.specs.declared.statement.FromClause.{FromClause}
use Rattle.pql_model.specs.declared.statement.Select.{Select}
use Rattle.pql_model.specs.declared.statement.SelectItem.{SelectItem}
use Rattle.pql_model.specs.declared.statement.Setting.{Setting}
use Rattle.pql_model.specs.declared.statement.Source.{Source}
use Rattle.pql_model.specs.declared.statement.SourceKind.{SourceKind}
use Rattle.pql_model.specs.declared.statement.Statement.{Statement}
use Rattle.pql_model.specs.Productions.{Production, within}
use Rattle.pql_model.specs.Expressions.{expression}
use Rattle.pql_model.specs.Grammar as spec
use Rattle.pql_parse.specs.Parts as parts

-- ---- constants and what may be left out

unfoldable pub const : Production Expr
const = spec.const

unfoldable pub alias : Production (Option (List ℕ))
alias = spec.alias

unfoldable pub id_name : Production (Option (List ℕ))
id_name = spec.id_name

unfoldable pub plain_id_name : Production (Option (List ℕ))
plain_id_name = parts.plain_id_name

unfoldable pub filter_of : Production (Option Expr)
filter_of = spec.filter_of

-- ---- sources

unfoldable pub end_bound : Production (Option Expr)
end_bound = spec.end_bound

unfoldable pub bounds : List ℕ → Production SourceKind
bounds table = spec.bounds table

unfoldable pub history_of : Production SourceKind
history_of = parts.history_of

unfoldable pub rooted_path : Production Path
rooted_path = parts.rooted_path

unfoldable pub source_kind : List Source → Production SourceKind
source_kind earlier = spec.source_kind earlier

unfoldable pub source_there : List Source → Production Source
source_there earlier = parts.source_there earlier

unfoldable pub source : List Source → Production Source
source earlier = spec.source earlier

unfoldable pub conditioned_source : List Source → Production Source
conditioned_source earlier = parts.conditioned_source earlier

unfoldable pub inner_joined : List Source → Production (Option Source)
inner_joined earlier = parts.inner_joined earlier

unfoldable pub joined : List Source → Production (Option Source)
joined earlier = parts.joined earlier

unfoldable pub another : List Source → Production (Option Source)
another earlier = parts.another earlier

unfoldable pub sources_behind : ℕ → List Source → Production (List Source)
sources_behind more so_far = spec.sources_behind more so_far

unfoldable pub sources : Production (List Source)
sources = spec.sources

unfoldable pub from_clause : Production FromClause
from_clause = spec.from_clause

-- ---- items

unfoldable pub item_value : Production Expr
item_value = within place.Item expression

unfoldable pub item : Production SelectItem
item = spec.item

unfoldable pub items_behind : ℕ → List SelectItem → Production (List SelectItem)
items_behind more so_far = spec.items_behind more so_far

unfoldable pub items : Production (List SelectItem)
items = spec.items

unfoldable pub selection : Production Select
selection = spec.selection

-- ---- changes

unfoldable pub target : Production Path
target = spec.target

unfoldable pub setting : Production Setting
setting = spec.setting

unfoldable pub settings_behind : ℕ → List Setting → Production (List Setting)
settings_behind more so_far = spec.settings_behind more so_far

unfoldable pub settings : Production (List Setting)
settings = spec.settings

unfoldable pub at_place : Production (Option Expr)
at_place = spec.at_place

unfoldable pub insertion : Production Change
insertion = spec.insertion

unfoldable pub change : Production Change
change = spec.change

-- ---- statements

unfoldable pub table : Production Source
table = spec.table

unfoldable pub filtered : Source → Production FromClause
filtered s = parts.filtered s

unfoldable pub inserted : Production Expr
inserted = parts.inserted

unfoldable pub select : Production Statement
select = spec.select

unfoldable pub insert : Production Statement
insert = spec.insert

unfoldable pub update : Production Statement
update = spec.update

unfoldable pub from : Production Statement
from = spec.from

unfoldable pub delete : Production Statement
delete = spec.delete

unfoldable pub index : Production Statement
index = spec.index

unfoldable pub create : Production Statement
create = spec.create

unfoldable pub redact : Production Statement
redact = spec.redact

unfoldable pub drop_table : Production Statement
drop_table = spec.drop_table

unfoldable pub redact_or_drop : Production Statement
redact_or_drop = parts.redact_or_drop

unfoldable pub data_or_table : Production Statement
data_or_table = parts.data_or_table

unfoldable pub change_or_table : Production Statement
change_or_table = parts.change_or_table

unfoldable pub statement : Production Statement
statement = spec.statement

unfoldable pub ended : Statement → Production Statement
ended s = spec.ended s
