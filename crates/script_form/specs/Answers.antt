-- What the reader of scripts answers, in the words of the definitions.
use Rattle.std.specs.Prelude.{◌≡◌, ◌<◌, ◌^◌, List, [], length, Result, Ok, Err}
use Rattle.std.specs.Option.{unwrap_or}
use Rattle.ion_values.specs.declared.value.Value.{Value}
use Rattle.ledger_model.specs.declared.script.ScriptFault.{ScriptFault}
use Rattle.ledger_model.specs.declared.script.ScriptKind.{ScriptKind}
use Rattle.ledger_model.specs.Values.{list_in}
use Rattle.ledger_model.specs.ReadScript.{fault_at}
use Rattle.script_form.specs.declared.scripts.ScriptAnswer.{ScriptAnswer}
use Rattle.script_form.specs.declared.scripts.ScriptAnswer.TheVariants as answer
use Rattle.script_form.specs.declared.scripts.jobs.JobFault.{JobFault}
use Rattle.script_form.specs.declared.scripts.jobs.JobFault.TheVariants as stop

-- what is read or the fault with its place is that of the definition, unless memory runs out
abbrev pub Gives : {A : Type 0} → Result A ScriptAnswer → Result A ScriptFault → Type 0
Gives (Ok x) read = read ≡ Ok x
Gives (Err (answer.Fault session transaction kind)) read = read ≡ Err (fault_at session transaction kind)
Gives (Err answer.OutOfMemory) read = Unit {0}

-- the same of a fault's kind
abbrev pub GivesKind : {A : Type 0} → Result A JobFault → Result A ScriptKind → Type 0
GivesKind (Ok x) read = read ≡ Ok x
GivesKind (Err (stop.Kind kind)) read = read ≡ Err kind
GivesKind (Err stop.OutOfMemory) read = Unit {0}

-- the members of an unannotated list, and none of any other value
abbrev pub members_in : Value → List Value
members_in v = unwrap_or (list_in v) []

-- the transactions can be counted in 32 bits
abbrev pub IsCountable : Value → Type 0
IsCountable v = length (members_in v) < 2 ^ 32
