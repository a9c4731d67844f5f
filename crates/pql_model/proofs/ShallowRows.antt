-- Statements with how deep they are.
use Rattle.std.proofs.Common.{◌≡◌, ℕ, pos, [], ◌∷◌, Option, Some, None, codes, refl, rules}
use Rattle.ion_values.specs.declared.value.Body.TheFolds as values
use Rattle.ion_values.specs.declared.value.Body.TheVariants as body
use Rattle.ion_values.specs.declared.value.Value.{Value}
use Rattle.pql_model.specs.declared.expr.Expr.{Expr}
use Rattle.pql_model.specs.declared.expr.Expr.TheFolds.{the_lemmas}
use Rattle.pql_model.specs.declared.expr.Expr.TheVariants as expr
use Rattle.pql_model.specs.declared.expr.Path.{Path}
use Rattle.pql_model.specs.declared.expr.PathStep.TheVariants as step
use Rattle.pql_model.specs.declared.statement.FromClause.{FromClause}
use Rattle.pql_model.specs.declared.statement.Select.TheVariants as select
use Rattle.pql_model.specs.declared.statement.SourceKind.{SourceKind}
use Rattle.pql_model.specs.declared.statement.SourceKind.TheVariants as source
use Rattle.pql_model.specs.declared.statement.Statement.TheVariants as statement
use Rattle.pql_model.specs.Shallow.{statement_depth}
use Rattle.pql_model.specs.Tokens.{plain}

abbrev int : ℕ → Value
int n = plain (body.Int (pos n))

-- the literal `[1]`
abbrev literal : Expr
literal = expr.Value (plain (body.List (int 1 ∷ [])))

-- the constructor of a list of one
abbrev listed : Expr → Expr
listed e = expr.List (e ∷ [])

abbrev from_of : SourceKind → Option Expr → Option Expr → FromClause
from_of kind on filter = record { sources = record { from = kind; variable = codes "t"; id_name = None; on = on } ∷ []; filter = filter }

abbrev table : SourceKind
table = source.Table (codes "t")

-- the path t[e]
abbrev indexed : Expr → Path
indexed e = record { first = codes "t"; steps = step.Index e ∷ [] }

-- constructors and literals count apart
item : statement_depth (statement.Select (select.Items (record { value = listed (listed literal); name = None } ∷ [])) (from_of table None None)) ≡ 2
item = search (rules, the_lemmas, values.the_lemmas)

condition : statement_depth (statement.Select select.Star (from_of table (Some (listed (expr.Missing))) (Some literal))) ≡ 1
condition = search (rules, the_lemmas, values.the_lemmas)

index : statement_depth (statement.Select select.Star (from_of (source.Path (indexed (listed (listed expr.CountAll)))) None None)) ≡ 2
index = search (rules, the_lemmas, values.the_lemmas)

insert : statement_depth (statement.Insert (codes "t") (listed literal)) ≡ 0
insert = refl
