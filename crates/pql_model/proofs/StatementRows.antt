-- Texts with their statements, which touch each production of the grammar.
use Rattle.std.proofs.Common.{◌≡◌, ℕ, pos, neg_ℤ, Bool, true, List, [], ◌∷◌, Option, Some, None, Ok, codes, refl}
use Rattle.std.specs.Char.{encode_utf8}
use Rattle.std.specs.Str.{chars, is_utf8}
use Rattle.ion_model.specs.Lex as ion_lex
use Rattle.ion_model.specs.Read.{read_text}
use Rattle.ion_values.specs.declared.value.Body.TheVariants as body
use Rattle.ion_values.specs.declared.value.Kind.TheVariants as ion
use Rattle.pql_model.specs.declared.expr.Expr.{Expr, out-Expr}
use Rattle.pql_model.specs.declared.expr.Expr.TheVariants as expr
use Rattle.pql_model.specs.declared.expr.Member.{Member}
use Rattle.pql_model.specs.declared.expr.Operator.TheVariants as op
use Rattle.pql_model.specs.declared.expr.Path.{Path}
use Rattle.pql_model.specs.declared.expr.PathStep.{PathStep, out-PathStep}
use Rattle.pql_model.specs.declared.expr.PathStep.TheVariants as step
use Rattle.pql_model.specs.declared.statement.Statement.TheVariants as statement
use Rattle.pql_model.specs.declared.statement.Select.TheVariants as select
use Rattle.pql_model.specs.declared.statement.SelectItem.{SelectItem}
use Rattle.pql_model.specs.declared.statement.FromClause.{FromClause}
use Rattle.pql_model.specs.declared.statement.Source.{Source}
use Rattle.pql_model.specs.declared.statement.SourceKind.{SourceKind}
use Rattle.pql_model.specs.declared.statement.SourceKind.TheVariants as source
use Rattle.pql_model.specs.declared.statement.Change.TheVariants as change
use Rattle.pql_model.specs.Expressions.{expression, free_path, layers}
use Rattle.pql_model.specs.Parse.{parsed}
use Rattle.pql_model.specs.Tokens.{lex, plain}
use Rattle.pql_model.specs.Words.{is_reserved}

-- ---- parts

abbrev int : ℕ → Expr
int n = expr.Value (plain (body.Int (pos n)))

abbrev string : List ℕ → Expr
string text = expr.Value (plain (body.String text))

abbrev path : List ℕ → List PathStep → Path
path first steps = record { first = first; steps = steps }

abbrev named : List ℕ → List PathStep → Expr
named first steps = expr.Path (path first steps)

abbrev field : List ℕ → List PathStep
field name = step.Field name ∷ []

abbrev item : Expr → Option (List ℕ) → SelectItem
item e name = record { value = e; name = name }

abbrev member : List ℕ → Expr → Member
member name e = record { name = name; value = e }

abbrev source_of : SourceKind → List ℕ → Option (List ℕ) → Option Expr → Source
source_of from variable id on = record { from = from; variable = variable; id_name = id; on = on }

abbrev table : List ℕ → Source
table name = source_of (source.Table name) name None None

abbrev from : List Source → Option Expr → FromClause
from sources filter = record { sources = sources; filter = filter }

-- ---- statements

star : parsed (codes "select * from t") ≡ Ok (statement.Select select.Star (from (table (codes "t") ∷ []) None))
unfolding parsed lex is_reserved layers expression free_path
star = refl

items :
    parsed (codes "SELECT t.Select AS a, 'x''y', \"FROM\" FROM t -- all\n;")
    ≡ Ok (statement.Select
    (select.Items (item (named (codes "t") (field (codes "Select"))) (Some (codes "a")) ∷ item (string (codes "x'y")) None ∷ item (named (codes "FROM") []) None ∷ []))
    (from (table (codes "t") ∷ []) None))
unfolding parsed lex is_reserved out-Expr denote.Hole.Carrier.out layers expression free_path is_utf8 chars encode_utf8
items = refl

aggregates :
    parsed (codes "SELECT (COUNT(*)), SUM(a) FROM t")
    ≡ Ok (statement.Select (select.Items (item expr.CountAll None ∷ item (expr.Sum (named (codes "a") [])) None ∷ [])) (from (table (codes "t") ∷ []) None))
unfolding parsed lex is_reserved out-Expr denote.Hole.Carrier.out layers expression free_path
aggregates = refl

binding :
    parsed (codes "SELECT VALUE a OR b AND NOT c = 1 + 2 * -3 || d FROM t")
    ≡ Ok (statement.Select
    (select.Value (expr.Binary op.Or (named (codes "a") [])
    (expr.Binary op.And (named (codes "b") [])
    (expr.Not (expr.Binary op.Equal (named (codes "c") [])
    (expr.Binary op.Concat (expr.Binary op.Plus (int 1) (expr.Binary op.Times (int 2) (expr.Negate (int 3)))) (named (codes "d") [])))))))
    (from (table (codes "t") ∷ []) None))
unfolding parsed lex is_reserved layers expression free_path
binding = refl

grouping :
    parsed (codes "SELECT VALUE a - 1 - (b - 2.50) FROM t")
    ≡ Ok (statement.Select
    (select.Value (expr.Binary op.Minus (expr.Binary op.Minus (named (codes "a") []) (int 1))
    (expr.Binary op.Minus (named (codes "b") [])
    (expr.Value (plain (body.Decimal (record { coefficient = pos 250; exponent = neg_ℤ (pos 2); negative_zero = Bool.false })))))))
    (from (table (codes "t") ∷ []) None))
unfolding parsed lex is_reserved layers expression free_path
grouping = refl

predicates :
    parsed (codes "DELETE FROM t AS x BY i WHERE x.a NOT IN <<1,2>> AND x.b BETWEEN 1 AND 2 AND i IS NOT NULL AND x.c LIKE '%'")
    ≡ Ok (statement.Delete (from (source_of (source.Table (codes "t")) (codes "x") (Some (codes "i")) None ∷ [])
    (Some (expr.Binary op.And
    (expr.Binary op.And
    (expr.Binary op.And
    (expr.Not (expr.IsIn (named (codes "x") (field (codes "a"))) (expr.List (int 1 ∷ int 2 ∷ []))))
    (expr.Between (named (codes "x") (field (codes "b"))) (int 1) (int 2)))
    (expr.Not (expr.IsNull (named (codes "i") []))))
    (expr.Like (named (codes "x") (field (codes "c"))) (string (codes "%")))))))
unfolding parsed lex is_reserved layers expression free_path is_utf8 chars encode_utf8
predicates = refl

parameters :
    parsed (codes "INSERT INTO t VALUE {'a': ?, 'b': [?, {}, []], 'c': `x`}")
    ≡ Ok (statement.Insert (codes "t") (expr.Struct
    (member (codes "a") (expr.Parameter 0)
    ∷ member (codes "b") (expr.List (expr.Parameter 1 ∷ expr.Struct [] ∷ expr.List [] ∷ []))
    ∷ member (codes "c") (expr.Value (plain (body.Symbol (codes "x"))))
    ∷ [])))
unfolding parsed lex is_reserved read_text is_utf8 chars encode_utf8 ion_lex.lex layers expression free_path
parameters = refl

functions :
    parsed (codes "SELECT VALUE COALESCE(a, SIZE(b), CHAR_LENGTH(c), NULL, MISSING, TRUE) FROM t")
    ≡ Ok (statement.Select
    (select.Value (expr.Coalesce (named (codes "a") [] ∷ expr.Size (named (codes "b") []) ∷ expr.CharLength (named (codes "c") [])
    ∷ expr.Value (plain (body.Null ion.Null)) ∷ expr.Missing ∷ expr.Value (plain (body.Bool true)) ∷ [])))
    (from (table (codes "t") ∷ []) None))
unfolding parsed lex is_reserved layers expression free_path
functions = refl

joined :
    parsed (codes "SELECT * FROM t, t.a[0].b[1], @t AS u CROSS JOIN v INNER JOIN history(w, ?, 2) BY i ON i = w.x")
    ≡ Ok (statement.Select select.Star (from
    (table (codes "t")
    ∷ source_of (source.Path (path (codes "t") (step.Field (codes "a") ∷ step.Index (int 0) ∷ step.Field (codes "b") ∷ step.Index (int 1) ∷ []))) (codes "b") None None
    ∷ source_of (source.Path (path (codes "t") [])) (codes "u") None None
    ∷ table (codes "v")
    ∷ source_of (source.History (codes "w") (Some (expr.Parameter 0)) (Some (int 2))) (codes "w") (Some (codes "i"))
    (Some (expr.Binary op.Equal (named (codes "i") []) (named (codes "w") (field (codes "x")))))
    ∷ []) None))
unfolding parsed lex is_reserved out-PathStep denote.Hole.Carrier.out layers expression free_path
joined = refl

path_of_earlier :
    parsed (codes "SELECT * FROM t AS history, history, history")
    ≡ Ok (statement.Select select.Star (from
    (source_of (source.Table (codes "t")) (codes "history") None None
    ∷ source_of (source.Path (path (codes "history") [])) (codes "history") None None
    ∷ source_of (source.Path (path (codes "history") [])) (codes "history") None None
    ∷ []) None))
unfolding parsed lex is_reserved layers expression free_path
path_of_earlier = refl

-- ON sees the later sources too, and a variable of an earlier source is a root, also where a BY name is spelt alike.
later_source :
    parsed (codes "SELECT * FROM t AS i BY i, i JOIN u ON v = 1, v")
    ≡ Ok (statement.Select select.Star (from
    (source_of (source.Table (codes "t")) (codes "i") (Some (codes "i")) None
    ∷ source_of (source.Path (path (codes "i") [])) (codes "i") None None
    ∷ source_of (source.Table (codes "u")) (codes "u") None (Some (expr.Binary op.Equal (named (codes "v") []) (int 1)))
    ∷ table (codes "v")
    ∷ []) None))
unfolding parsed lex is_reserved layers expression free_path
later_source = refl

changes :
    parsed (codes "UPDATE t SET a = 1, t.b[0] = 2 WHERE c")
    ≡ Ok (statement.Update (from (table (codes "t") ∷ []) (Some (named (codes "c") [])))
    (change.Set
    (record { target = path (codes "a") []; value = int 1 }
    ∷ record { target = path (codes "t") (step.Field (codes "b") ∷ step.Index (int 0) ∷ []); value = int 2 }
    ∷ [])))
unfolding parsed lex is_reserved layers expression free_path
changes = refl

insertion :
    parsed (codes "FROM t, u WHERE t.a = u.a INSERT INTO u.b VALUE t.c AT 0")
    ≡ Ok (statement.From
    (from (table (codes "t") ∷ table (codes "u") ∷ [])
    (Some (expr.Binary op.Equal (named (codes "t") (field (codes "a"))) (named (codes "u") (field (codes "a"))))))
    (change.Insert (path (codes "u") (field (codes "b"))) (named (codes "t") (field (codes "c"))) (Some (int 0))))
unfolding parsed lex is_reserved layers expression free_path
insertion = refl

removal : parsed (codes "FROM t REMOVE t.a;") ≡ Ok (statement.From (from (table (codes "t") ∷ []) None) (change.Remove (path (codes "t") (field (codes "a")))))
unfolding parsed lex is_reserved layers expression free_path
removal = refl

create : parsed (codes "CREATE TABLE \"a \"\" b\"") ≡ Ok (statement.Create (codes "a \" b"))
unfolding parsed lex is_reserved layers expression free_path is_utf8 chars encode_utf8
create = refl

index : parsed (codes "CREATE INDEX ON t (a)") ≡ Ok (statement.Index (codes "t") (codes "a"))
unfolding parsed lex is_reserved layers expression free_path
index = refl

drop : parsed (codes "DROP TABLE t") ≡ Ok (statement.Drop (codes "t"))
unfolding parsed lex is_reserved layers expression free_path
drop = refl

redact : parsed (codes "EXEC REDACT_REVISION ?, ?, ?") ≡ Ok (statement.Redact (expr.Parameter 0) (expr.Parameter 1) (expr.Parameter 2))
unfolding parsed lex is_reserved layers expression free_path
redact = refl
