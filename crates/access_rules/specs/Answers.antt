-- What the readers of rules return, in the words of the definitions. Out of memory alone says nothing of what is read.
use Rattle.std.specs.Prelude.{◌≡◌, Option, Some, None, Result, Ok, Err}
use Rattle.access_rules.specs.declared.rule.RulesAnswer.{RulesAnswer}
use Rattle.access_rules.specs.declared.rule.RulesAnswer.TheVariants as answer

-- a part of a rule, and BadRules if there is none
abbrev pub Reads : {A : Type 0} → Result A RulesAnswer → Option A → Type 0
Reads (Ok x) read = read ≡ Some x
Reads (Err answer.BadRules) read = read ≡ None
Reads (Err answer.NoSuchRules) read = ⊥
Reads (Err answer.OutOfMemory) read = Unit {0}

-- a set of rules, or why there is none
abbrev pub Gives : {A : Type 0} → Result A RulesAnswer → Result A RulesAnswer → Type 0
Gives (Ok x) read = read ≡ Ok x
Gives (Err answer.BadRules) read = read ≡ Err answer.BadRules
Gives (Err answer.NoSuchRules) read = read ≡ Err answer.NoSuchRules
Gives (Err answer.OutOfMemory) read = Unit {0}
