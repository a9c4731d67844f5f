-- Parts of productions, at which the parser of statements in code is cut.
use Rattle.std.specs.Prelude.{◌≡◌, ℕ, List, codes, Option, Some, None}
use Rattle.std.specs.BTreeSet.{contains_text}
use Rattle.pql_model.specs.declared.expr.Expr.{Expr}
use Rattle.pql_model.specs.declared.expr.Path.{Path}
use Rattle.pql_model.specs.declared.mark.Role.TheVariants as role
use Rattle.pql_model.specs.declared.statement.FromClause.{FromClause}
use Rattle.pql_model.specs.declared.statement.Source.{Source}
use Rattle.pql_model.specs.declared.statement.SourceKind.{SourceKind}
use Rattle.pql_model.specs.declared.statement.Statement.{Statement}
use Rattle.pql_model.specs.Words.{is_word, is_symbol}
use Rattle.pql_model.specs.Productions.{Production, give, past, choose, optional, word, symbol, with_name, name, marked, ◌>>=◌}
use Rattle.pql_model.specs.Expressions.{expression, free_path}
use Rattle.pql_model.specs.Grammar.{alias, bounds, conditioned, create, delete, drop_table, filter_of, from, id_name, is_variable, of_one, redact, source, source_kind, source_of, update}
use Rattle.pql_parse.specs.declared.sources.Earlier.{Earlier}

-- The set holds the variables of the sources.
abbrev pub Knows : Earlier → Type 0
Knows e = (text : List ℕ) → contains_text e.variables text ≡ is_variable e.sources text

-- a BY name without a mark
abbrev pub plain_id_name : Production (Option (List ℕ))
plain_id_name = optional (is_word (codes "BY")) (word "BY" name)

-- a path with a mark at its first name
abbrev pub rooted_path : Production Path
rooted_path = with_name (λ first. marked (role.Root first) (past (free_path first)))

-- a history behind its word
abbrev pub history_of : Production SourceKind
history_of = symbol "(" (name >>= bounds)

-- a source with its AS and BY names
abbrev pub source_there : List Source → Production Source
source_there earlier =
    source_kind earlier >>= (λ from. alias >>= (λ variable. id_name >>= (λ id. give (source_of from variable id))))

-- a source with its condition, from JOIN on
abbrev pub conditioned_source : List Source → Production Source
conditioned_source so_far =
    word "JOIN" (source so_far >>= (λ s. word "ON" (expression >>= (λ e. give (conditioned s e)))))

abbrev pub some_source : Production Source → Production (Option Source)
some_source p = p >>= (λ s. give (Some s))

-- a source on a condition behind INNER or alone, where one follows
abbrev pub inner_joined : List Source → Production (Option Source)
inner_joined so_far =
    choose (is_word (codes "INNER")) (past (some_source (conditioned_source so_far)))
    (choose (is_word (codes "JOIN")) (some_source (conditioned_source so_far))
    (give None))

-- the sources so far, or one more after CROSS JOIN
abbrev pub joined : List Source → Production (Option Source)
joined so_far =
    choose (is_word (codes "CROSS")) (past (word "JOIN" (some_source (source so_far)))) (inner_joined so_far)

-- the source that follows these, where one does
abbrev pub another : List Source → Production (Option Source)
another so_far = choose (is_symbol (codes ",")) (past (some_source (source so_far))) (joined so_far)

-- a redaction, or a table's drop
abbrev pub redact_or_drop : Production Statement
redact_or_drop = choose (is_word (codes "EXEC")) (past redact) (word "DROP" drop_table)

-- a DELETE, a redaction, or a statement on tables themselves
abbrev pub data_or_table : Production Statement
data_or_table =
    choose (is_word (codes "DELETE")) (past delete)
    (choose (is_word (codes "CREATE")) (past create) redact_or_drop)

-- an UPDATE or a FROM, or one of these
abbrev pub change_or_table : Production Statement
change_or_table =
    choose (is_word (codes "UPDATE")) (past update) (choose (is_word (codes "FROM")) (past from) data_or_table)

-- the value of an INSERT, with VALUE before it or not
abbrev pub inserted : Production Expr
inserted = choose (is_word (codes "VALUE")) (past expression) expression

-- one source, and the WHERE in front
abbrev pub filtered : Source → Production FromClause
filtered s = filter_of >>= (λ f. give (of_one s f))
