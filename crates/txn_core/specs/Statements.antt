-- Why a text is no statement, which changes create a table, and why a value isn't stored behind a transaction's
-- revisions so far.
use Rattle.std.specs.Prelude.{Bool, true, false, List, [], Option, Result, Ok, Err}
use Rattle.ion_values.specs.declared.value.Value.{Value}
use Rattle.pql_model.specs.declared.statement.Statement.{Statement}
use Rattle.pql_model.specs.Productions.{Fault}
use Rattle.ledger_model.specs.declared.block.Draft.{Draft}
use Rattle.ledger_model.specs.declared.block.Schema.{Schema}
use Rattle.ledger_model.specs.declared.block.Schema.TheVariants.{Create}
use Rattle.ledger_model.specs.declared.outcome.Refusal.{Refusal}
use Rattle.ledger_model.specs.declared.outcome.Refusal.TheVariants.{ParseFault}
use Rattle.ledger_model.specs.Run.{not_stored}

-- a fault of a text, as why the statement is refused
abbrev pub read_of : Result Statement Fault → Result Statement Refusal
read_of (Ok s) = Ok s
read_of (Err fault) = Err (ParseFault fault.at fault.kind)

abbrev pub creates : Schema → Bool
creates (Create name id) = true
creates _ = false

abbrev pub cause_for : List Draft → Value → Option Refusal
cause_for log v = not_stored (record { said = []; schema = []; log = log; made = 0; footprint = [] }) v
