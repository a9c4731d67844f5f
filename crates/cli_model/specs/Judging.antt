-- How an input is judged: which is too long, no Ion text, no rules, or no script, or a script under rules.
use Rattle.std.specs.Prelude.{ℕ, nat_le, List, [], ◌∷◌, length, Option, Some, None, Result, Ok, Err, if◌then◌else◌}
use Rattle.ion_values.specs.declared.fault.IonFault.{IonFault}
use Rattle.ion_values.specs.declared.value.Value.{Value}
use Rattle.ion_model.specs.Read.{read_text}
use Rattle.ledger_model.specs.declared.script.Job.{Job}
use Rattle.ledger_model.specs.declared.script.ScriptFault.{ScriptFault}
use Rattle.ledger_model.specs.ReadScript.{read_script}
use Rattle.access_rules.specs.declared.rule.Rule.{Rule}
use Rattle.access_rules.specs.declared.rule.RulesAnswer.{RulesAnswer}
use Rattle.access_rules.specs.declared.rule.RulesAnswer.TheVariants as answer
use Rattle.access_rules.specs.ReadRules.{read_rules}
use Rattle.access_rules.specs.Scripts.{script_under}

pub data Judged : Type 0 where
  too_long : Judged
  faulty : IonFault → Judged
  bad_rules : Judged
  no_such_rules : Judged
  misspelt : ScriptFault → Judged
  scripted : List (List Job) → Judged

abbrev pub judged_script : Result (List (List Job)) ScriptFault → Judged
judged_script (Ok script) = scripted script
judged_script (Err fault) = misspelt fault

-- ---- under rules

-- each job with what the rules deny of it
abbrev pub judged_under : List Rule → Result (List (List Job)) ScriptFault → Judged
judged_under rules (Ok script) = scripted (script_under rules script)
judged_under rules (Err fault) = misspelt fault

-- the rules are judged before the script; out of memory is none of their faults
abbrev pub judged_by : Result (List Rule) RulesAnswer → Result (List (List Job)) ScriptFault → Judged
judged_by (Ok rules) script = judged_under rules script
judged_by (Err answer.BadRules) script = bad_rules
judged_by (Err answer.NoSuchRules) script = no_such_rules
judged_by (Err answer.OutOfMemory) script = bad_rules

-- the first value holds the rules of that name, and the others are the script
abbrev pub judged_behind : List ℕ → List Value → Judged
judged_behind name [] = bad_rules
judged_behind name (v ∷ values) = judged_by (read_rules name v) (read_script values)

-- ---- an input

-- by the name of the rules, if one is given
abbrev pub judged_values : Option (List ℕ) → List Value → Judged
judged_values None values = judged_script (read_script values)
judged_values (Some name) values = judged_behind name values

-- by the values that the text gives, or its first fault
abbrev pub judged_text : Option (List ℕ) → Result (List Value) IonFault → Judged
judged_text rules (Ok values) = judged_values rules values
judged_text rules (Err fault) = faulty fault

-- an input of at most 16,777,216 bytes, which nests at most 80 deep
abbrev pub judged : Option (List ℕ) → List ℕ → Judged
judged rules input = if nat_le (length input) 16777216 then judged_text rules (read_text 80 input) else too_long
