-- The grammar of statements (PartiQL Specification, with the statements of Amazon QLDB's PartiQL):
--
--   statement = (select | insert | update | from | delete | create | index | drop | redact) [";"]
--   select  = SELECT ("*" | VALUE expr | item {"," item}) FROM sources [WHERE expr]
--   item    = expr [AS name]
--   sources = source { "," source | CROSS JOIN source | [INNER] JOIN source ON expr }
--   source  = (name | history "(" name ["," const ["," const]] ")" | ["@"] path) [AS name] [BY name]
--   insert  = INSERT INTO name [VALUE] expr
--   update  = UPDATE name [AS name] [BY name] change [WHERE expr]
--   from    = FROM sources [WHERE expr] change
--   delete  = DELETE FROM name [AS name] [BY name] [WHERE expr]
--   change  = SET path "=" expr {"," path "=" expr} | INSERT INTO path VALUE expr [AT expr] | REMOVE path
--   create  = CREATE TABLE name
--   index   = CREATE INDEX ON name "(" name ")"
--   drop    = DROP TABLE name
--   redact  = EXEC REDACT_REVISION const "," const "," const
use Rattle.std.specs.Prelude.{ℕ, zero, suc, ◌||◌, ◌&&◌, Bool, true, false, List, [], ◌∷◌, ◌++◌, length, drop, codes, Option, Some, None, unwrap_or, if◌then◌else◌}
use Rattle.std.specs.List.{filter, list_any}
use Rattle.std.specs.Str.{bytes_eq}
use Rattle.pql_model.specs.declared.ParseKind.TheVariants as kind
use Rattle.pql_model.specs.declared.token.Token.{Token}
use Rattle.pql_model.specs.declared.token.Token.TheVariants as token
use Rattle.pql_model.specs.declared.token.Located.{Located}
use Rattle.pql_model.specs.declared.mark.Mark.{Mark}
use Rattle.pql_model.specs.declared.mark.Place.TheVariants as place
use Rattle.pql_model.specs.declared.mark.Role.{Role}
use Rattle.pql_model.specs.declared.mark.Role.TheVariants as role
use Rattle.pql_model.specs.declared.expr.Expr.{Expr, out-Expr}
use Rattle.pql_model.specs.declared.expr.Expr.TheOpen.{Expr-F, PathStep-F}
use Rattle.pql_model.specs.declared.expr.Path.{Path}
use Rattle.pql_model.specs.declared.expr.Member.{Member}
use Rattle.pql_model.specs.declared.expr.PathStep.{PathStep, out-PathStep}
use Rattle.pql_model.specs.declared.statement.Statement.{Statement}
use Rattle.pql_model.specs.declared.statement.Statement.TheVariants as statement'
use Rattle.pql_model.specs.declared.statement.Select.{Select}
use Rattle.pql_model.specs.declared.statement.Select.TheVariants as select'
use Rattle.pql_model.specs.declared.statement.SelectItem.{SelectItem}
use Rattle.pql_model.specs.declared.statement.FromClause.{FromClause}
use Rattle.pql_model.specs.declared.statement.Source.{Source}
use Rattle.pql_model.specs.declared.statement.SourceKind.{SourceKind}
use Rattle.pql_model.specs.declared.statement.SourceKind.TheVariants as source'
use Rattle.pql_model.specs.declared.statement.Change.{Change}
use Rattle.pql_model.specs.declared.statement.Change.TheVariants as change'
use Rattle.pql_model.specs.declared.statement.Setting.{Setting}
use Rattle.pql_model.specs.Words.{is_word, is_symbol}
use Rattle.pql_model.specs.Productions.{Production, front, front_of, token_of, advanced, refuse, give, past, choose, optional, word, symbol, with_name, name, mark_at, marked, within, ◌>>=◌}
use Rattle.pql_model.specs.Expressions.{constant_of, expression, free_path}

-- ---- parts of statements

abbrev pub alias : Production (Option (List ℕ))
alias = optional (is_word (codes "AS")) (word "AS" name)

abbrev pub filter_of : Production (Option Expr)
filter_of = optional (is_word (codes "WHERE")) (word "WHERE" expression)

abbrev pub constant_or_not : Option Expr → Production Expr
constant_or_not (Some e) = past (give e)
constant_or_not None = refuse kind.Unexpected

abbrev pub const : Production Expr
const r = constant_or_not (constant_of (token_of r)) r

-- ---- sources

abbrev pub is_variable : List Source → List ℕ → Bool
is_variable sources text = list_any (λ s. bytes_eq s.variable text) sources

-- without a step a name is a table, unless it is a variable of an earlier source
abbrev pub kind_by : List Source → Path → List PathStep → SourceKind
kind_by earlier path [] = if is_variable earlier path.first then source'.Path path else source'.Table path.first
kind_by earlier path steps = source'.Path path

abbrev pub table_or_path : List Source → Path → SourceKind
table_or_path earlier path = kind_by earlier path path.steps

abbrev pub begins_history : List Located → Bool
begins_history tokens =
    is_word (codes "HISTORY") (front_of tokens).token && is_symbol (codes "(") (front_of (drop 1 tokens)).token

abbrev pub end_bound : Production (Option Expr)
end_bound = optional (is_symbol (codes ",")) (symbol "," const)

-- the bounds of a history, the second one only behind the first
abbrev pub bounds : List ℕ → Production SourceKind
bounds table =
    choose (is_symbol (codes ","))
    (past (const >>= (λ start. end_bound >>= (λ end. symbol ")" (give (source'.History table (Some start) end))))))
    (symbol ")" (give (source'.History table None None)))

abbrev pub history : Production SourceKind
history = past (symbol "(" (name >>= bounds))

-- the name at the head of a source has a mark
abbrev pub rooted : (Path → SourceKind) → Production SourceKind
rooted made = with_name (λ first. marked (role.Root first) (past (free_path first >>= (λ p. give (made p)))))

abbrev pub source_kind : List Source → Production SourceKind
source_kind earlier r =
    (if begins_history r.rest then history
    else choose (is_symbol (codes "@")) (past (rooted source'.Path)) (rooted (table_or_path earlier))) r

abbrev pub id_name : Production (Option (List ℕ))
id_name = optional (is_word (codes "BY")) (marked role.By (word "BY" name))

-- the name that a step is, or else an earlier one
abbrev pub name_or : List ℕ → PathStep-F Expr PathStep Member Path → List ℕ
name_or earlier (PathStep-F.Field text) = text
name_or earlier (PathStep-F.Index e) = earlier

-- the last name of a path
abbrev pub last_name : List ℕ → List PathStep → List ℕ
last_name so_far [] = so_far
last_name so_far (s ∷ steps) = last_name (name_or so_far (out-PathStep s)) steps

-- the variable without an AS
abbrev pub own_name : SourceKind → List ℕ
own_name (source'.Table name) = name
own_name (source'.History table start end) = table
own_name (source'.Path p) = last_name p.first p.steps

abbrev pub source_of : SourceKind → Option (List ℕ) → Option (List ℕ) → Source
source_of from variable id =
    record { from = from; variable = unwrap_or variable (own_name from); id_name = id; on = None }

abbrev pub source : List Source → Production Source
source earlier =
    within (place.Source (length earlier))
    (source_kind earlier >>= (λ from. alias >>= (λ variable. id_name >>= (λ id. give (source_of from variable id)))))

abbrev pub conditioned : Source → Expr → Source
conditioned s e = record { from = s.from; variable = s.variable; id_name = s.id_name; on = Some e }

-- the sources behind these, of which there are no more than tokens
abbrev pub sources_behind : ℕ → List Source → Production (List Source)
sources_behind zero so_far = give so_far
sources_behind (suc more) so_far =
    let another = source so_far >>= (λ s. sources_behind more (so_far ++ s ∷ [])) in
    let joined =
    word "JOIN" (source so_far >>= (λ s. word "ON"
    (expression >>= (λ e. sources_behind more (so_far ++ conditioned s e ∷ []))))) in
    choose (is_symbol (codes ",")) (past another)
    (choose (is_word (codes "CROSS")) (past (word "JOIN" another))
    (choose (is_word (codes "INNER")) (past joined)
    (choose (is_word (codes "JOIN")) joined
    (give so_far))))

abbrev pub sources : Production (List Source)
sources r = (source [] >>= (λ s. sources_behind (length r.rest) (s ∷ []))) r

abbrev pub from_clause : Production FromClause
from_clause = sources >>= (λ ss. filter_of >>= (λ f. give (record { sources = ss; filter = f })))

-- ---- items

abbrev pub is_aggregate_form : Expr-F Expr PathStep Member Path → Bool
is_aggregate_form Expr-F.CountAll = true
is_aggregate_form (Expr-F.Count e) = true
is_aggregate_form (Expr-F.Sum e) = true
is_aggregate_form (Expr-F.Min e) = true
is_aggregate_form (Expr-F.Max e) = true
is_aggregate_form _ = false

abbrev pub is_aggregate : Expr → Bool
is_aggregate e = is_aggregate_form (out-Expr e)

abbrev pub marks_aggregate : Role → Bool
marks_aggregate role.Aggregate = true
marks_aggregate _ = false

abbrev pub aggregates : List Mark → ℕ
aggregates marks = length (filter (λ m. marks_aggregate m.role) marks)

-- the mark of an item that began at this offset, with the count of marks before it
abbrev pub item_role : ℕ → Expr → List Mark → Role
item_role before e marks = role.Item (is_aggregate e) (aggregates (drop before marks))

abbrev pub item_from : ℕ → ℕ → Production SelectItem
item_from at before =
    within place.Item expression
    >>= (λ e r. mark_at at (item_role before e r.marks) (alias >>= (λ a. give (record { value = e; name = a }))) r)

abbrev pub item : Production SelectItem
item r = item_from (front r).at (length r.marks) r

-- items behind these, of which there are no more than tokens
abbrev pub items_behind : ℕ → List SelectItem → Production (List SelectItem)
items_behind zero so_far = refuse kind.Unexpected
items_behind (suc more) so_far =
    item >>= (λ i. choose (is_symbol (codes ",")) (past (items_behind more (so_far ++ i ∷ [])))
    (give (so_far ++ i ∷ [])))

abbrev pub items : Production (List SelectItem)
items r = items_behind (length r.rest) [] r

abbrev pub selection : Production Select
selection =
    choose (is_symbol (codes "*")) (past (give select'.Star))
    (choose (is_word (codes "VALUE")) (past (expression >>= (λ e. give (select'.Value e))))
    (items >>= (λ is. give (select'.Items is))))

-- ---- changes

-- the path of a change has a mark, which tells whether steps stand behind its first name
abbrev pub begins_step : Token → Bool
begins_step t = is_symbol (codes ".") t || is_symbol (codes "[") t

abbrev pub target : Production Path
target =
    with_name (λ first r. marked (role.Target first (begins_step (token_of (advanced r)))) (past (free_path first)) r)

abbrev pub setting : Production Setting
setting = target >>= (λ p. symbol "=" (expression >>= (λ e. give (record { target = p; value = e }))))

-- settings behind these, of which there are no more than tokens
abbrev pub settings_behind : ℕ → List Setting → Production (List Setting)
settings_behind zero so_far = refuse kind.Unexpected
settings_behind (suc more) so_far =
    setting >>= (λ s. choose (is_symbol (codes ",")) (past (settings_behind more (so_far ++ s ∷ [])))
    (give (so_far ++ s ∷ [])))

abbrev pub settings : Production (List Setting)
settings r = settings_behind (length r.rest) [] r

abbrev pub at_place : Production (Option Expr)
at_place = optional (is_word (codes "AT")) (word "AT" expression)

-- behind INSERT
abbrev pub insertion : Production Change
insertion =
    word "INTO" (target >>= (λ p. word "VALUE" (expression
    >>= (λ e. at_place >>= (λ at. give (change'.Insert p e at))))))

abbrev pub change : Production Change
change =
    choose (is_word (codes "SET")) (past (settings >>= (λ ss. give (change'.Set ss))))
    (choose (is_word (codes "INSERT")) (past insertion)
    (word "REMOVE" (target >>= (λ p. give (change'.Remove p)))))

-- ---- statements, behind their first word

abbrev pub select : Production Statement
select = selection >>= (λ s. word "FROM" (from_clause >>= (λ f. give (statement'.Select s f))))

abbrev pub insert : Production Statement
insert =
    word "INTO" (name >>= (λ table.
    choose (is_word (codes "VALUE")) (past (expression >>= (λ e. give (statement'.Insert table e))))
    (expression >>= (λ e. give (statement'.Insert table e)))))

-- a table alone, with its AS and BY names
abbrev pub table : Production Source
table =
    name >>= (λ t. alias >>= (λ variable. optional (is_word (codes "BY")) (word "BY" name) >>= (λ id.
    give (source_of (source'.Table t) variable id))))

abbrev pub of_one : Source → Option Expr → FromClause
of_one s f = record { sources = s ∷ []; filter = f }

abbrev pub update : Production Statement
update = table >>= (λ s. change >>= (λ c. filter_of >>= (λ f. give (statement'.Update (of_one s f) c))))

abbrev pub from : Production Statement
from = from_clause >>= (λ f. change >>= (λ c. give (statement'.From f c)))

abbrev pub delete : Production Statement
delete = word "FROM" (table >>= (λ s. filter_of >>= (λ f. give (statement'.Delete (of_one s f)))))

abbrev pub index : Production Statement
index =
    word "ON" (name >>= (λ table. symbol "(" (name >>= (λ field. symbol ")" (give (statement'.Index table field))))))

abbrev pub create : Production Statement
create =
    choose (is_word (codes "INDEX")) (past index) (word "TABLE" (name >>= (λ table. give (statement'.Create table))))

abbrev pub drop_table : Production Statement
drop_table = word "TABLE" (name >>= (λ table. give (statement'.Drop table)))

abbrev pub redact : Production Statement
redact =
    word "REDACT_REVISION" (const >>= (λ address. symbol "," (const >>= (λ table. symbol "," (const >>= (λ document.
    give (statement'.Redact address table document)))))))

abbrev pub statement : Production Statement
statement =
    choose (is_word (codes "SELECT")) (past select)
    (choose (is_word (codes "INSERT")) (past insert)
    (choose (is_word (codes "UPDATE")) (past update)
    (choose (is_word (codes "FROM")) (past from)
    (choose (is_word (codes "DELETE")) (past delete)
    (choose (is_word (codes "CREATE")) (past create)
    (choose (is_word (codes "EXEC")) (past redact)
    (word "DROP" drop_table)))))))

-- ---- the whole text

abbrev pub is_end : Token → Bool
is_end token.End = true
is_end _ = false

-- nothing stands behind
abbrev pub ended : Statement → Production Statement
ended s = choose is_end (give s) (refuse kind.Unexpected)

abbrev pub whole_statement : Production Statement
whole_statement = statement >>= (λ s. choose (is_symbol (codes ";")) (past (ended s)) (ended s))
