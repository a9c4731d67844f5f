-- What rules allow (a deny rule goes before every allow rule, and what no rule allows is denied, as in AWS Identity and
-- Access Management, "Policy evaluation logic"; rules for sessions are the ledger's own).
use Rattle.std.specs.Prelude.{ℕ, ◌+◌, ◌==◌, ◌&&◌, ◌||◌, not, Bool, true, List, [], ◌∷◌, codes, Option, Some, None, if◌then◌else◌}
use Rattle.std.specs.List.{find, list_any}
use Rattle.std.specs.Str.{bytes_eq}
use denote.Enum.Bare.{sameb}
use Rattle.ledger_model.specs.declared.script.Denial.{Denial}
use Rattle.ledger_model.specs.declared.script.Request.{Request}
use Rattle.access_rules.specs.contracts.rule.Action.{the_type as actions}
use Rattle.access_rules.specs.declared.demand.Demand.{Demand}
use Rattle.access_rules.specs.declared.demand.Verdict.{Verdict}
use Rattle.access_rules.specs.declared.demand.Verdict.TheVariants.{Allowed, Denied}
use Rattle.access_rules.specs.declared.rule.Action.{Action}
use Rattle.access_rules.specs.declared.rule.Rule.{Rule}
use Rattle.access_rules.specs.Actions.{action_name}
use Rattle.access_rules.specs.Demands.{demanded_by}

-- ---- a rule meets a demand of a session

abbrev pub names_action : List Action → Action → Bool
names_action named a = list_any (λ other. sameb actions other a) named

-- `*` means every table
abbrev pub names_table : List (List ℕ) → List ℕ → Bool
names_table named table = list_any (λ other. bytes_eq other table || bytes_eq other (codes "*")) named

-- None means every session
abbrev pub names_session : Option (List ℕ) → ℕ → Bool
names_session None session = true
names_session (Some named) session = list_any (λ other. other == session) named

abbrev pub meets : ℕ → Demand → Rule → Bool
meets session d r = names_action r.actions d.action && names_table r.tables d.table && names_session r.sessions session

abbrev pub denies : ℕ → Demand → Rule → Bool
denies session d r = not r.allow && meets session d r

abbrev pub allows : ℕ → Demand → Rule → Bool
allows session d r = r.allow && meets session d r

-- ---- one demand

-- by the first deny rule that meets it; if none does, by whether an allow rule meets it
abbrev pub judged_by : Demand → Option Rule → Bool → Verdict
judged_by d (Some r) allowed = Denied d (Some r.rule)
judged_by d None allowed = if allowed then Allowed else Denied d None

abbrev pub judged : List Rule → ℕ → Demand → Verdict
judged rules session d = judged_by d (find (denies session d) rules) (list_any (allows session d) rules)

-- ---- the demands of a statement

abbrev pub or_next : Verdict → Verdict → Verdict
or_next Allowed next = next
or_next (Denied d rule) next = Denied d rule

-- the first demand that is denied
abbrev pub verdict : List Rule → ℕ → List Demand → Verdict
verdict rules session [] = Allowed
verdict rules session (d ∷ ds) = or_next (judged rules session d) (verdict rules session ds)

-- ---- the statements of a job

abbrev pub denial : ℕ → Demand → Option (List ℕ) → Denial
denial number d rule =
    record { statement = number; action = action_name d.action; table = d.table; rule = rule }

abbrev pub denial_or : ℕ → Verdict → Option Denial → Option Denial
denial_or number Allowed next = next
denial_or number (Denied d rule) next = Some (denial number d rule)

-- of the statements, of which the first has this number, the first that is denied
abbrev pub denied_from : List Rule → ℕ → ℕ → List Request → Option Denial
denied_from rules session number [] = None
denied_from rules session number (r ∷ rs) =
    denial_or number (verdict rules session (demanded_by r)) (denied_from rules session (number + 1) rs)

-- they are counted from 1
abbrev pub denied : List Rule → ℕ → List Request → Option Denial
denied rules session asked = denied_from rules session 1 asked
