-- The statement that a request asks for: its text by the grammar, with as many parameters as it has question marks
-- (PartiQL).
use Rattle.std.specs.Prelude.{ℕ, ◌==◌, ◌-◌, ◌^◌, min, Bool, List, length, codes, Option, Some, None, Result, Ok, Err, if◌then◌else◌}
use Rattle.ion_values.specs.declared.value.Value.{Value}
use Rattle.ion_model.specs.Blanks.{begins}
use Rattle.pql_model.specs.declared.statement.SourceKind.{SourceKind}
use Rattle.pql_model.specs.declared.statement.SourceKind.TheVariants as source
use Rattle.pql_model.specs.declared.statement.Statement.{Statement}
use Rattle.pql_model.specs.Parameters.{in_statement}
use Rattle.pql_model.specs.Parse.{parsed}
use Rattle.pql_model.specs.Productions.{Fault}
use Rattle.pql_model.specs.Tables.{table_named}
use Rattle.ledger_model.specs.declared.script.Request.{Request}
use Rattle.ledger_model.specs.declared.outcome.Refusal.{Refusal}
use Rattle.ledger_model.specs.declared.outcome.Refusal.TheVariants.{ParseFault, ParameterCount}

-- ---- names

-- a name that is the ledger's own
abbrev pub is_reserved : List ℕ → Bool
is_reserved name = begins (codes "_ql_") name

-- the table that a source names, its views' prefix left out
abbrev pub table_in : SourceKind → Option (List ℕ)
table_in (source.Table name) = Some (table_named name)
table_in (source.History table _ _) = Some table
table_in (source.Path path) = None

-- ---- the text and its parameters

-- how many parameters a statement wants, 2^32 - 1 where it is more
abbrev pub wanted : Statement → ℕ
wanted s = min (in_statement s) (2 ^ 32 - 1)

-- with as many parameters as it wants
abbrev pub counted : Statement → List Value → Result Statement Refusal
counted s params = if wanted s == length params then Ok s else Err (ParameterCount (wanted s) (length params))

abbrev pub with_parameters : Result Statement Fault → List Value → Result Statement Refusal
with_parameters (Ok s) params = counted s params
with_parameters (Err fault) params = Err (ParseFault fault.at fault.kind)

abbrev pub statement_of : Request → Result Statement Refusal
statement_of r = with_parameters (parsed r.text) r.params
