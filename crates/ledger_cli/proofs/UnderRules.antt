-- Scripts that are judged under rules.
use Rattle.std.proofs.Common.{◌≡◌, ◌∙◌, ◌+◌, ◌<◌, ◌^◌, ℕ, suc, List, [], ◌∷◌, drop, length, map, Result, Ok, Err, refl, sym, ap, subst, arith}
use Rattle.std.specs.List.{All, AllByRecursion}
use Rattle.std.proofs.lemmas.List.Elements.{All-tail}
use Rattle.std.proofs.lemmas.List.{length-map}
use Rattle.ion_values.specs.declared.value.Value.{Value}
use Rattle.ledger_model.specs.declared.script.Job.{Job}
use Rattle.ledger_model.specs.declared.script.ScriptFault.{ScriptFault}
use Rattle.ledger_model.specs.ReadScript.{read_script}
use Rattle.access_rules.specs.declared.rule.Rule.{Rule}
use Rattle.access_rules.specs.declared.rule.RulesAnswer.{RulesAnswer}
use Rattle.access_rules.specs.declared.rule.RulesAnswer.TheVariants as answer
use Rattle.access_rules.specs.Answers.{Gives}
use Rattle.access_rules.specs.ReadRules.{read_rules}
use Rattle.access_rules.specs.Scripts.{job_under, script_under, sessions_under}
use Rattle.cli_model.specs.Judging.{Judged, bad_rules, judged_behind, judged_by, judged_script, judged_under, no_such_rules, scripted}
use Rattle.ledger_shared.specs.Sessions.{AreNumbered}
use Rattle.ledger_cli.specs.declared.command_fault.CommandFault.{CommandFault}
use Rattle.ledger_cli.specs.declared.command_fault.CommandFault.TheVariants as stop
use Rattle.ledger_cli.specs.declared.lines.BadInput.TheVariants as cause
use Rattle.ledger_cli.specs.Judgements.{JudgesTo, rules_in_front}
use Rattle.ledger_cli.specs.Stops.{rules_stop}

-- ---- values

pub all_behind : (P : Value → Type 0) (values : List Value) → All P values → All P (drop 1 values)
all_behind P [] all = all
all_behind P (v ∷ values) all = All-tail P v values all

-- ---- sessions are as many and as long as without rules

abbrev IsShort : List Job → Type 0
IsShort jobs = length jobs < 2 ^ 32

as_many : (rules : List Rule) (number : ℕ) (sessions : List (List Job)) → length (sessions_under rules number sessions) ≡ length sessions
as_many rules number [] = refl
as_many rules number (jobs ∷ sessions) = ap (λ n. suc n) (as_many rules (number + 1) sessions)

as_short : (rules : List Rule) (number : ℕ) (sessions : List (List Job)) → AllByRecursion IsShort sessions
    → AllByRecursion IsShort (sessions_under rules number sessions)
as_short rules number [] h = tt
as_short rules number (jobs ∷ sessions) h =
    let same : length (map (job_under rules number) jobs) ≡ length jobs = length-map jobs (job_under rules number) in
    let one : length jobs < 2 ^ 32 = h.0 in
    (omega (arith, same, one), as_short rules (number + 1) sessions h.1)

pub numbered_under : (rules : List Rule) (script : List (List Job)) → AreNumbered script → AreNumbered (script_under rules script)
numbered_under rules script is =
    let same = as_many rules 1 script in
    record { sessions = as_short rules 1 script is.sessions; few = omega (arith, same, is.few) }

-- ---- what is judged

-- a script that is read without rules is read under them
pub script_under_is : (rules : List Rule) (r : Result (List (List Job)) ScriptFault) (script : List (List Job)) → JudgesTo (Ok script) (judged_script r)
    → judged_under rules r ≡ scripted (script_under rules script)
script_under_is rules (Ok other) script is = let same : other ≡ script = cc in ap (λ (s : List (List Job)). scripted (script_under rules s)) same
script_under_is rules (Err fault) script is = let bad : ⊥ = cc in absurd bad

-- why there is no script is the same with rules
pub fault_under : (rules : List Rule) (r : Result (List (List Job)) ScriptFault) (why : CommandFault) → JudgesTo (Err why) (judged_script r)
    → JudgesTo (Err why) (judged_under rules r)
fault_under rules (Err fault) why is = is
fault_under rules (Ok script) stop.BadWords is = is
fault_under rules (Ok script) (stop.BadInput cause.TooLong) is = let bad : ⊥ = cc in absurd bad
fault_under rules (Ok script) (stop.BadInput (cause.Faulty fault)) is = let bad : ⊥ = cc in absurd bad
fault_under rules (Ok script) (stop.BadInput cause.BadRules) is = let bad : ⊥ = cc in absurd bad
fault_under rules (Ok script) (stop.BadInput cause.NoSuchRules) is = let bad : ⊥ = cc in absurd bad
fault_under rules (Ok script) (stop.BadInput (cause.Misspelt fault)) is = let bad : ⊥ = cc in absurd bad
fault_under rules (Ok script) (stop.BadInput (cause.NotARecord at)) is = absurd is
fault_under rules (Ok script) (stop.BadInput (cause.RecordDiffers at sequence)) is = absurd is
fault_under rules (Ok script) (stop.NoSuch why) is = is
fault_under rules (Ok script) (stop.Damaged sequence kind) is = is
fault_under rules (Ok script) stop.SourceFailed is = is
fault_under rules (Ok script) stop.StoreFailed is = is
fault_under rules (Ok script) (stop.NotEmpty blocks) is = is
fault_under rules (Ok script) (stop.BadRange from to) is = is
fault_under rules (Ok script) (stop.NotAccepted fault) is = is
fault_under rules (Ok script) stop.NotPublished is = is
fault_under rules (Ok script) stop.OutOfMemory is = is

-- ---- by the first value

pub under_front : (name : List ℕ) (values : List Value) (rules : List Rule) → rules_in_front name values ≡ Ok rules
    → judged_behind name values ≡ judged_under rules (read_script (drop 1 values))
under_front name [] rules is = let bad : ⊥ = cc in absurd bad
under_front name (v ∷ values) rules is = ap (λ r. judged_by r (read_script values)) is

bad_front : (name : List ℕ) (values : List Value) → rules_in_front name values ≡ Err answer.BadRules
    → judged_behind name values ≡ bad_rules
bad_front name [] is = refl
bad_front name (v ∷ values) is = ap (λ r. judged_by r (read_script values)) is

none_in_front : (name : List ℕ) (values : List Value) → rules_in_front name values ≡ Err answer.NoSuchRules
    → judged_behind name values ≡ no_such_rules
none_in_front name [] is = let bad : ⊥ = cc in absurd bad
none_in_front name (v ∷ values) is = ap (λ r. judged_by r (read_script values)) is

-- why there are no rules
pub fault_in_front : (name : List ℕ) (values : List Value) (why : RulesAnswer)
    → Gives {A = List Rule} (Err why) (rules_in_front name values) → JudgesTo (Err (rules_stop why)) (judged_behind name values)
fault_in_front name values answer.BadRules is = bad_front name values is
fault_in_front name values answer.NoSuchRules is = none_in_front name values is
fault_in_front name values answer.OutOfMemory is = tt
