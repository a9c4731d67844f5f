-- Rows of statements with what they ask for, and with what they do to a transaction.
use Rattle.std.proofs.Common.{◌≡◌, ◌∙◌, ◌+◌, ℕ, zero, suc, pos, true, false, List, [], ◌∷◌, codes, ap, refl, rules, Some, None, Ok, Err}
use Rattle.std.specs.Fmt.{digits}
use Rattle.ion_values.specs.Depth.{depth_of}
use Rattle.ion_values.specs.declared.value.Value.{Value, roll-Value}
use Rattle.ion_values.specs.declared.value.Field.{Field, roll-Field}
use Rattle.ion_values.specs.declared.value.Body.{Body}
use Rattle.ion_values.specs.declared.value.Body.TheFolds.{the_lemmas}
use Rattle.ion_values.specs.declared.value.Body.TheVariants as body
use Rattle.ion_values.specs.declared.value.Kind.TheVariants as ion
use Rattle.pql_model.specs.declared.ParseKind.TheVariants.{Unexpected}
use Rattle.pql_model.specs.declared.expr.Expr.TheFolds as expressions
use Rattle.pql_model.specs.declared.expr.Expr.TheVariants as expr
use Rattle.pql_model.specs.declared.scope.Evaluated.TheVariants.{Missing, Found}
use Rattle.pql_model.specs.declared.statement.FromClause.{FromClause}
use Rattle.pql_model.specs.declared.statement.Select.TheVariants as select
use Rattle.pql_model.specs.declared.statement.SourceKind.TheVariants as source
use Rattle.pql_model.specs.declared.statement.Statement.TheVariants as statement
use Rattle.pql_model.specs.Expressions.{expression, free_path, layers}
use Rattle.pql_model.specs.Parse.{parsed}
use Rattle.pql_model.specs.Tokens.{lex}
use Rattle.pql_model.specs.Words.{is_reserved}
use Rattle.ledger_model.specs.declared.block.Content.TheVariants.{Kept}
use Rattle.ledger_model.specs.declared.block.Draft.{Draft}
use Rattle.ledger_model.specs.declared.block.Schema.{Schema}
use Rattle.ledger_model.specs.declared.block.Schema.TheVariants.{Create}
use Rattle.ledger_model.specs.declared.outcome.Refusal.TheVariants.{ParseFault, NoSuchTable, TableExists, ReservedName, TooManyTables, NotADocument, ParameterCount}
use Rattle.ledger_model.specs.declared.script.Request.{Request}
use Rattle.ql_types.specs.declared.TableId.{TableId}
use Rattle.ledger_model.specs.Values.{named_id}
use Rattle.ledger_model.specs.State.{State, empty}
use Rattle.ledger_model.specs.Statements.{statement_of, with_parameters}
use Rattle.ledger_model.specs.Run.{Begun, created, documents_in, first_deep, has_room, inserted, new_table, no_table_more, nothing, selected, start, stored}

-- ---- texts

abbrev asks : List ℕ → List Value → Request
asks text params = record { text = text; params = params }

abbrev plain : Body → Value
plain b = roll-Value (record { annotations = []; body = b })

abbrev int : ℕ → Value
int n = plain (body.Int (pos n))

creates : statement_of (asks (codes "CREATE TABLE t") []) ≡ Ok (statement.Create (codes "t"))
unfolding parsed lex is_reserved layers expression free_path
creates = refl

abbrev table_as : List ℕ → List ℕ → FromClause
table_as name variable = record {
  sources = record { from = source.Table name; variable = variable; id_name = None; on = None } ∷ [];
  filter = None;
}

selects :
    statement_of (asks (codes "SELECT * FROM t AS x") [])
    ≡ Ok (statement.Select select.Star (table_as (codes "t") (codes "x")))
unfolding parsed lex is_reserved layers expression free_path
selects = refl

insert_read : parsed (codes "INSERT INTO t ?") ≡ Ok (statement.Insert (codes "t") (expr.Parameter 0))
unfolding parsed lex is_reserved layers expression free_path
insert_read = refl

inserts :
    statement_of (asks (codes "INSERT INTO t ?") (int 5 ∷ [])) ≡ Ok (statement.Insert (codes "t") (expr.Parameter 0))
inserts = ap (λ x. with_parameters x (int 5 ∷ [])) insert_read ∙ search (rules, expressions.the_lemmas)

no_parameter : statement_of (asks (codes "INSERT INTO t ?") []) ≡ Err (ParameterCount 1 0)
no_parameter = ap (λ x. with_parameters x []) insert_read ∙ search (rules, expressions.the_lemmas)

no_statement : statement_of (asks (codes "SELECT * FORM t") []) ≡ Err (ParseFault 9 Unexpected)
unfolding parsed lex is_reserved layers expression free_path
no_statement = refl

drops : statement_of (asks (codes "DROP TABLE t") []) ≡ Ok (statement.Drop (codes "t"))
unfolding parsed lex is_reserved layers expression free_path
drops = refl

abbrev table_by : List ℕ → List ℕ → FromClause
table_by name id_name = record {
  sources = record { from = source.Table name; variable = name; id_name = Some id_name; on = None } ∷ [];
  filter = None;
}

deletes_by :
    statement_of (asks (codes "DELETE FROM t BY x") []) ≡ Ok (statement.Delete (table_by (codes "t") (codes "x")))
unfolding parsed lex is_reserved layers expression free_path
deletes_by = refl

-- ---- tables

-- the transaction 1 of the mask 0, whose first id has the number 2^24 + 1
abbrev first : Begun
first = record { mask = 0; number = 1 }

abbrev table : ℕ → TableId
table raw = record { raw = raw }

-- the table t is active
abbrev with_table : State
with_table = record empty { tables = record { name = codes "t"; id = table 5; active = true } ∷ [] }

new_one : created first empty start (codes "t") ≡ Ok (new_table 16777217 (codes "t"))
new_one = refl

there_is_one : created first with_table start (codes "t") ≡ Err (TableExists (codes "t"))
there_is_one = refl

-- a name that is the ledger's own is refused first
own_name : created first empty start (codes "_ql_x") ≡ Err (ReservedName (codes "_ql_x"))
own_name = refl

own_insert : inserted first empty start [] (codes "_ql_x") (expr.Missing) ≡ Err (ReservedName (codes "_ql_x"))
own_insert = refl

none_there : inserted first empty start [] (codes "t") (expr.Missing) ≡ Err (NoSuchTable (codes "t"))
none_there = refl

none_read : selected empty start [] select.Star (table_as (codes "t") (codes "x")) ≡ Err (NoSuchTable (codes "t"))
none_read = refl

-- four changes in front of these
abbrev four_more : List Schema → List Schema
four_more cs =
    Create (codes "t") (table 1) ∷ Create (codes "u") (table 2) ∷ Create (codes "v") (table 3)
    ∷ Create (codes "w") (table 4) ∷ cs

-- a transaction creates 20 tables
nineteen :
    no_table_more [] (four_more (four_more
    (four_more (four_more (Create (codes "a") (table 1) ∷ Create (codes "b") (table 2) ∷ Create (codes "c") (table 3)
    ∷ [])))))
    ≡ None
nineteen = refl

twenty : no_table_more [] (four_more (four_more (four_more (four_more (four_more []))))) ≡ Some (TooManyTables 20)
twenty = refl

-- ---- documents and their limits

abbrev structure : List Field → Value
structure fs = plain (body.Struct fs)

-- `{a:5}`
abbrev document : Value
document = structure (roll-Field (record { name = codes "a"; value = int 5 }) ∷ [])

each_member : documents_in (Found (plain (body.List (document ∷ int 5 ∷ [])))) ≡ Ok (document ∷ int 5 ∷ [])
each_member = search (rules, the_lemmas)

alone : documents_in (Found document) ≡ Ok (document ∷ [])
alone = search (rules, the_lemmas)

missing : documents_in Missing ≡ Err (NotADocument ion.Null)
missing = refl

no_struct : stored first (table 5) start (int 5 ∷ []) ≡ Err (NotADocument ion.Int)
no_struct = search (rules, the_lemmas)

-- a struct that is null is none
no_null : stored first (table 5) start (plain (body.Null ion.Struct) ∷ []) ≡ Err (NotADocument ion.Null)
no_null = search (rules, the_lemmas)

none_stored : stored first (table 5) start [] ≡ Ok nothing
none_stored = refl

abbrev drafted : ℕ → Draft
drafted id = record { table = table 5; id = record { raw = id }; version = 0; content = Kept document }

-- each document has an id of its own
two_stored :
    stored first (table 5) start (document ∷ document ∷ [])
    ≡ Ok (record {
      rows = named_id (codes "documentId") 16777217 ∷ named_id (codes "documentId") 16777218 ∷ [];
      schema = [];
      log = drafted 16777217 ∷ drafted 16777218 ∷ [];
      made = 2;
      footprint = [];
    })
unfolding digits
two_stored = search (rules, the_lemmas)

numbered : ℕ → List Draft
numbered zero = []
numbered (suc n) = drafted n ∷ numbered n

-- a transaction has 40 documents
room_for_one : has_room (record start { log = numbered 39 }) ≡ true
unfolding numbered
room_for_one = refl

no_room : has_room (record start { log = numbered 40 }) ≡ false
unfolding numbered
no_room = refl

-- nested lists around a list
nested : ℕ → Value
nested zero = plain (body.List [])
nested (suc n) = plain (body.List (nested n ∷ []))

depth_of_nested : (n : ℕ) → depth_of (nested n) ≡ n + 1
unfolding nested
depth_of_nested zero = search (rules, the_lemmas)
depth_of_nested (suc n) = search (rules, the_lemmas, depth_of_nested n)

shallow : first_deep (nested 63 ∷ []) ≡ None
shallow = search (rules, depth_of_nested)

deep : first_deep (nested 63 ∷ nested 64 ∷ nested 65 ∷ []) ≡ Some 65
deep = search (rules, depth_of_nested)
