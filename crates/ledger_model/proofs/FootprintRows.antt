-- Rows of statements with what they read.
use Rattle.std.proofs.Common.{◌≡◌, ℕ, true, List, [], ◌∷◌, codes, refl, rules, Option, None}
use Rattle.ion_values.specs.declared.value.Body.{out-Body}
use Rattle.ion_values.specs.declared.value.Body.TheFolds as values
use Rattle.ion_values.specs.declared.value.Body.TheVariants as body
use Rattle.ion_values.specs.declared.value.Key.TheVariants as key
use Rattle.ion_values.specs.declared.value.Value.{Value, roll-Value}
use Rattle.pql_model.specs.declared.expr.Expr.{Expr}
use Rattle.pql_model.specs.declared.expr.Expr.TheFolds.{the_lemmas}
use Rattle.pql_model.specs.declared.expr.Expr.TheVariants as expr
use Rattle.pql_model.specs.declared.expr.Operator.TheVariants as op
use Rattle.pql_model.specs.declared.expr.Path.{roll-Path}
use Rattle.pql_model.specs.declared.expr.PathStep.{PathStep}
use Rattle.pql_model.specs.declared.expr.PathStep.TheVariants as step
use Rattle.pql_model.specs.declared.statement.Source.{Source}
use Rattle.pql_model.specs.declared.statement.SourceKind.{SourceKind}
use Rattle.pql_model.specs.declared.statement.SourceKind.TheVariants as source
use Rattle.pql_model.specs.declared.statement.Statement.TheVariants as statement
use Rattle.pql_model.specs.From.{Viewed}
use Rattle.ql_types.specs.declared.TableId.{TableId}
use Rattle.ledger_model.specs.declared.outcome.Item.{Item}
use Rattle.ledger_model.specs.declared.outcome.Item.TheVariants as item
use Rattle.ledger_model.specs.Conditions.{Part, all_asked, among, condition_of, constant, constants, equation, names, other}
use Rattle.ledger_model.specs.Footprints.{Schemas, all_read, footprint_of, items_read, read_of}

abbrev table : ℕ → TableId
table raw = record { raw = raw }

-- the tables t and u, and indexes on the fields `a` and `b` of t
abbrev now : Schemas
now = record {
  tables =
      record { name = codes "t"; id = table 5; active = true }
      ∷ record { name = codes "u"; id = table 6; active = true } ∷ [];
  indexes = record { table = table 5; field = codes "a" } ∷ record { table = table 5; field = codes "b" } ∷ [];
}

-- no table has rows
abbrev no_rows : Viewed
no_rows name view = []

created : footprint_of now no_rows [] (statement.Create (codes "v"))
    ≡ item.TableName (codes "v") ∷ item.TableList ∷ []
created = refl

inserted : footprint_of now no_rows [] (statement.Insert (codes "t") (expr.Parameter 0))
    ≡ item.TableName (codes "t") ∷ []
inserted = refl

-- ---- the parts of conditions

abbrev text : List ℕ → Value
text t = roll-Value (record { annotations = []; body = body.String t })

abbrev literal : List ℕ → Expr
literal t = expr.Value (text t)

abbrev path : List ℕ → List PathStep → Expr
path first steps = expr.Path (roll-Path (record { first = first; steps = steps }))

-- t.a = ? AND ('y' = b AND x < 'z'), with the parameter 'x'
parts :
    (condition_of (text (codes "x") ∷ []) (expr.Binary op.And
    (expr.Binary op.Equal (path (codes "t") (step.Field (codes "a") ∷ [])) (expr.Parameter 0))
    (expr.Binary op.And (expr.Binary op.Equal (literal (codes "y")) (path (codes "b") []))
    (expr.Binary op.Less (path (codes "x") []) (literal (codes "z")))))).parts
    ≡ equation (names (codes "t") (codes "a" ∷ [])) (constant (text (codes "x")))
    ∷ equation (constant (text (codes "y"))) (names (codes "b") []) ∷ []
parts = search (rules, the_lemmas)

-- a = 'x' OR a = 'y'
no_parts :
    (condition_of [] (expr.Binary op.Or (expr.Binary op.Equal (path (codes "a") []) (literal (codes "x")))
    (expr.Binary op.Equal (path (codes "a") []) (literal (codes "y"))))).parts
    ≡ []
no_parts = search (rules, the_lemmas)

-- t['a'] = 'x'
by_index :
    (condition_of [] (expr.Binary op.Equal (path (codes "t") (step.Index (literal (codes "a")) ∷ []))
    (literal (codes "x")))).parts
    ≡ equation other (constant (text (codes "x"))) ∷ []
by_index = search (rules, the_lemmas)

-- a IN [?, MISSING, 'y'], with the parameter 'x'
in_list :
    (condition_of (text (codes "x") ∷ []) (expr.IsIn (path (codes "a") [])
    (expr.List (expr.Parameter 0 ∷ expr.Missing ∷ literal (codes "y") ∷ [])))).parts
    ≡ among (names (codes "a") []) (constants (text (codes "x") ∷ text (codes "y") ∷ [])) ∷ []
in_list = search (rules, the_lemmas)

-- a NOT IN ['x']
not_in :
    (condition_of [] (expr.Not (expr.IsIn (path (codes "a") []) (expr.List (literal (codes "x") ∷ []))))).parts ≡ []
not_in = search (rules, the_lemmas)

-- a IN ['x', b]
in_no_constants :
    (condition_of [] (expr.IsIn (path (codes "a") [])
    (expr.List (literal (codes "x") ∷ path (codes "b") [] ∷ [])))).parts
    ≡ among (names (codes "a") []) other ∷ []
in_no_constants = search (rules, the_lemmas)

-- ---- what they ask for

abbrev of : SourceKind → List ℕ → Option (List ℕ) → Source
of from variable by = record { from = from; variable = variable; id_name = by; on = None }

abbrev t : Source
t = of (source.Table (codes "t")) (codes "t") None

-- what is read of the sources by these parts of their condition
abbrev read : Viewed → List Part → List Source → List Item
read views parts sources =
    items_read sources (all_read (read_of now views [] (all_asked sources parts)) [] sources)

-- FROM t, FROM t.a
no_condition :
    read no_rows [] (t ∷ of (source.Path (record { first = codes "t"; steps = step.Field (codes "a") ∷ [] }))
    (codes "a") None ∷ [])
    ≡ item.TableName (codes "t") ∷ item.Table (table 5) ∷ []
no_condition = refl

-- WHERE c = 'x' AND b = 'y' AND t.a = 'z': the first with an index counts, and the only source may be left out
by_key :
    read no_rows (
    equation (names (codes "c") []) (constant (text (codes "x")))
    ∷ equation (constant (text (codes "y"))) (names (codes "b") [])
    ∷ equation (names (codes "t") (codes "a" ∷ [])) (constant (text (codes "z"))) ∷ []) (t ∷ [])
    ≡ item.TableName (codes "t") ∷ item.IndexValue (table 5) (codes "b") (key.Text (codes "y")) ∷ []
unfolding out-Body denote.Hole.Carrier.out
by_key = refl

-- FROM u AS x JOIN t AS y ON y.a = 'z': the other source has no index on the field
by_source :
    read no_rows (equation (names (codes "y") (codes "a" ∷ [])) (constant (text (codes "z"))) ∷ [])
    (of (source.Table (codes "u")) (codes "x") None ∷ of (source.Table (codes "t")) (codes "y") None ∷ [])
    ≡ item.TableName (codes "u") ∷ item.TableName (codes "t") ∷ item.Table (table 6)
    ∷ item.IndexValue (table 5) (codes "a") (key.Text (codes "z")) ∷ []
unfolding out-Body denote.Hole.Carrier.out
by_source = refl

-- WHERE a IN ['x', 'y', 'x']: each key once
by_list :
    read no_rows (among (names (codes "a") [])
    (constants (text (codes "x") ∷ text (codes "y") ∷ text (codes "x") ∷ [])) ∷ []) (t ∷ [])
    ≡ item.TableName (codes "t") ∷ item.IndexValue (table 5) (codes "a") (key.Text (codes "x"))
    ∷ item.IndexValue (table 5) (codes "a") (key.Text (codes "y")) ∷ []
unfolding out-Body denote.Hole.Carrier.out
by_list = refl

-- ---- joins

abbrev struct_of : List ℕ → Value → Value
struct_of name v =
    roll-Value (record { annotations = []; body = body.Struct (record { name = name; value = v } ∷ []) })

-- every table has one row, a struct with the one field `g`
abbrev one_row : Value → Viewed
one_row v name view = record { id = record { raw = 9 }; value = struct_of (codes "g") v } ∷ []

abbrev u_and_t : List Source
u_and_t = of (source.Table (codes "u")) (codes "u") None ∷ of (source.Table (codes "t")) (codes "x") None ∷ []

-- x.a = u.g
abbrev joined : List Part
joined = equation (names (codes "x") (codes "a" ∷ [])) (names (codes "u") (codes "g" ∷ [])) ∷ []

by_join :
    read (one_row (text (codes "y"))) joined u_and_t
    ≡ item.TableName (codes "u") ∷ item.TableName (codes "t") ∷ item.Table (table 6)
    ∷ item.IndexValue (table 5) (codes "a") (key.Text (codes "y")) ∷ []
by_join = search (rules, values.the_lemmas)

-- a list may equal another, and has no key
by_container :
    read (one_row (roll-Value (record { annotations = []; body = body.List [] }))) joined u_and_t
    ≡ item.TableName (codes "u") ∷ item.TableName (codes "t") ∷ item.Table (table 6) ∷ item.Table (table 5) ∷ []
by_container = search (rules, values.the_lemmas)
