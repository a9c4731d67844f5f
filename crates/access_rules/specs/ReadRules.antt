-- Named sets of rules read from a value, by the ledger's own form: `{NAME:[RULE,..],..}`, in which no name stands
-- twice. A rule is `{rule:"r1",effect:allow,actions:[PartiQLSelect],tables:["t"],sessions:[1]}`. Of its fields only
-- `sessions` may be left out, none stands twice, and there are no others. Annotations are refused.
use Rattle.std.specs.Prelude.{ℕ, ◌&&◌, ◌||◌, not, Bool, true, false, List, codes, ℤ, pos, int_le, unsigned_abs, Option, Some, None, option_map, is_some, Result, Err, if◌then◌else◌}
use Rattle.std.specs.List.{list_all, list_any}
use Rattle.std.specs.Option.{ok_or}
use Rattle.std.specs.Str.{bytes_eq}
use Rattle.ion_values.specs.declared.value.Field.{Field}
use Rattle.ion_values.specs.declared.value.Value.{Value}
use Rattle.ledger_model.specs.ReadScript.{named, repeats}
use Rattle.ledger_model.specs.Script.{and_then, each}
use Rattle.ledger_model.specs.Values.{fields_in, int_in, list_in, string_in, symbol_in}
use Rattle.access_rules.specs.declared.rule.Action.{Action}
use Rattle.access_rules.specs.declared.rule.Rule.{Rule}
use Rattle.access_rules.specs.declared.rule.RulesAnswer.{RulesAnswer}
use Rattle.access_rules.specs.declared.rule.RulesAnswer.TheVariants as answer
use Rattle.access_rules.specs.Actions.{action_of}

-- ---- the fields of a rule

abbrev pub is_known : List ℕ → Bool
is_known name =
    bytes_eq name (codes "rule") || bytes_eq name (codes "effect") || bytes_eq name (codes "actions")
    || bytes_eq name (codes "tables") || bytes_eq name (codes "sessions")

abbrev pub is_unknown : Field → Bool
is_unknown f = not (is_known f.name)

-- whether the rule allows
abbrev pub effect_of : List ℕ → Option Bool
effect_of name =
    if bytes_eq name (codes "allow") then Some true else
    (if bytes_eq name (codes "deny") then Some false else None)

abbrev pub effect_in : Value → Option Bool
effect_in v = and_then (symbol_in v) effect_of

abbrev pub action_in : Value → Option Action
action_in v = and_then (symbol_in v) action_of

abbrev pub actions_in : Value → Option (List Action)
actions_in v = and_then (list_in v) (each action_in)

abbrev pub tables_in : Value → Option (List (List ℕ))
tables_in v = and_then (list_in v) (each string_in)

-- an int from 1 to 1,024
abbrev pub session_of : ℤ → Option ℕ
session_of n = if int_le (pos 1) n && int_le n (pos 1024) then Some (unsigned_abs n) else None

abbrev pub session_in : Value → Option ℕ
session_in v = and_then (int_in v) session_of

abbrev pub sessions_in : Value → Option (List ℕ)
sessions_in v = and_then (list_in v) (each session_in)

-- ---- a rule

-- what the field of that name is read as
abbrev pub said : {A : Type 0} → (Value → Option A) → List ℕ → List Field → Option A
said read name fields = and_then (named name fields) read

-- all sessions, if the field is left out
abbrev pub sessions_said : Option Value → Option (Option (List ℕ))
sessions_said None = Some None
sessions_said (Some v) = option_map (λ sessions. Some sessions) (sessions_in v)

abbrev pub rule_said : List Field → Option Rule
rule_said fields =
    and_then (said string_in (codes "rule") fields) (λ rule.
    and_then (said effect_in (codes "effect") fields) (λ allow.
    and_then (said actions_in (codes "actions") fields) (λ actions.
    and_then (said tables_in (codes "tables") fields) (λ tables.
    and_then (sessions_said (named (codes "sessions") fields)) (λ sessions.
    Some (record { rule = rule; allow = allow; actions = actions; tables = tables; sessions = sessions }))))))

abbrev pub rule_of_fields : List Field → Option Rule
rule_of_fields fields = if repeats fields || list_any is_unknown fields then None else rule_said fields

abbrev pub rule_in : Value → Option Rule
rule_in v = and_then (fields_in v) rule_of_fields

-- ---- sets of rules

abbrev pub rules_in : Value → Option (List Rule)
rules_in v = and_then (list_in v) (each rule_in)

abbrev pub is_set : Field → Bool
is_set f = is_some (rules_in f.value)

-- the set of that name, if there is one
abbrev pub chosen : List ℕ → List Field → Result (List Rule) RulesAnswer
chosen name fields = ok_or (said rules_in name fields) answer.NoSuchRules

abbrev pub read_sets : List ℕ → List Field → Result (List Rule) RulesAnswer
read_sets name fields =
    if not (repeats fields) && list_all is_set fields then chosen name fields else Err answer.BadRules

abbrev pub read_value : List ℕ → Option (List Field) → Result (List Rule) RulesAnswer
read_value name None = Err answer.BadRules
read_value name (Some fields) = read_sets name fields

-- the rules of the set of that name, or why there are none
abbrev pub read_rules : List ℕ → Value → Result (List Rule) RulesAnswer
read_rules name v = read_value name (fields_in v)
