-- What an input in memory is judged.
use Rattle.std.specs.Prelude.{◌≡◌, ℕ, List, [], ◌∷◌, Result, Ok, Err}
use Rattle.ion_values.specs.declared.value.Value.{Value}
use Rattle.ledger_model.specs.declared.script.Job.{Job}
use Rattle.access_rules.specs.declared.rule.Rule.{Rule}
use Rattle.access_rules.specs.declared.rule.RulesAnswer.{RulesAnswer}
use Rattle.access_rules.specs.declared.rule.RulesAnswer.TheVariants as answer
use Rattle.access_rules.specs.ReadRules.{read_rules}
use Rattle.cli_model.specs.Judging.{Judged, bad_rules, faulty, misspelt, no_such_rules, scripted, too_long}
use Rattle.cli_model.specs.Lines.{BadInput}
use Rattle.cli_model.specs.Lines as bad
use Rattle.ledger_cli.specs.declared.lines.BadInput as held
use Rattle.ledger_cli.specs.declared.lines.BadInput.TheVariants as cause
use Rattle.ledger_cli.specs.declared.command_fault.CommandFault.{CommandFault}
use Rattle.ledger_cli.specs.declared.command_fault.CommandFault.TheVariants as stop

-- an input that is to be a script is judged so for this cause
abbrev pub IsJudgedFor : held.BadInput → Judged → Type 0
IsJudgedFor cause.TooLong judgement = judgement ≡ too_long
IsJudgedFor (cause.Faulty fault) judgement = judgement ≡ faulty fault
IsJudgedFor cause.BadRules judgement = judgement ≡ bad_rules
IsJudgedFor cause.NoSuchRules judgement = judgement ≡ no_such_rules
IsJudgedFor (cause.Misspelt fault) judgement = judgement ≡ misspelt fault
IsJudgedFor (cause.NotARecord at) judgement = ⊥
IsJudgedFor (cause.RecordDiffers at sequence) judgement = ⊥

abbrev pub cause_of : held.BadInput → BadInput
cause_of cause.TooLong = bad.too_long
cause_of (cause.Faulty fault) = bad.faulty fault
cause_of cause.BadRules = bad.bad_rules
cause_of cause.NoSuchRules = bad.no_such_rules
cause_of (cause.Misspelt fault) = bad.misspelt fault
cause_of (cause.NotARecord at) = bad.not_a_record at
cause_of (cause.RecordDiffers at sequence) = bad.record_differs at sequence

-- the rules of that name that the first value holds, or why there are none
abbrev pub rules_in_front : List ℕ → List Value → Result (List Rule) RulesAnswer
rules_in_front name [] = Err answer.BadRules
rules_in_front name (v ∷ values) = read_rules name v

-- what an input is judged is told by its script, or by why it is refused; nothing is said if memory ran out
abbrev pub JudgesTo : Result (List (List Job)) CommandFault → Judged → Type 0
JudgesTo (Ok script) judgement = judgement ≡ scripted script
JudgesTo (Err stop.BadWords) judgement = ⊥
JudgesTo (Err (stop.BadInput cause)) judgement = IsJudgedFor cause judgement
JudgesTo (Err (stop.NoSuch why)) judgement = ⊥
JudgesTo (Err (stop.Damaged sequence kind)) judgement = ⊥
JudgesTo (Err stop.SourceFailed) judgement = ⊥
JudgesTo (Err stop.StoreFailed) judgement = ⊥
JudgesTo (Err (stop.NotEmpty blocks)) judgement = ⊥
JudgesTo (Err (stop.BadRange from to)) judgement = ⊥
JudgesTo (Err (stop.NotAccepted fault)) judgement = ⊥
JudgesTo (Err stop.NotPublished) judgement = ⊥
JudgesTo (Err stop.OutOfMemory) judgement = Unit {0}
