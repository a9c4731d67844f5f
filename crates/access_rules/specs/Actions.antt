-- The actions of Amazon QLDB's permissions in PartiQL, by their names (Amazon QLDB Developer Guide, "Getting started
-- with the standard permissions mode").
use Rattle.std.specs.Prelude.{ℕ, List, [], ◌∷◌, codes, Option}
use Rattle.std.specs.List.{find}
use Rattle.std.specs.Str.{bytes_eq}
use Rattle.access_rules.specs.declared.rule.Action.{Action}
use Rattle.access_rules.specs.declared.rule.Action.TheVariants as action

abbrev pub action_name : Action → List ℕ
action_name action.PartiQLSelect = codes "PartiQLSelect"
action_name action.PartiQLInsert = codes "PartiQLInsert"
action_name action.PartiQLUpdate = codes "PartiQLUpdate"
action_name action.PartiQLDelete = codes "PartiQLDelete"
action_name action.PartiQLCreateTable = codes "PartiQLCreateTable"
action_name action.PartiQLCreateIndex = codes "PartiQLCreateIndex"
action_name action.PartiQLDropTable = codes "PartiQLDropTable"
action_name action.PartiQLHistoryFunction = codes "PartiQLHistoryFunction"
action_name action.PartiQLRedact = codes "PartiQLRedact"

abbrev pub all_actions : List Action
all_actions =
    action.PartiQLSelect ∷ action.PartiQLInsert ∷ action.PartiQLUpdate ∷ action.PartiQLDelete
    ∷ action.PartiQLCreateTable ∷ action.PartiQLCreateIndex ∷ action.PartiQLDropTable
    ∷ action.PartiQLHistoryFunction ∷ action.PartiQLRedact ∷ []

-- the action that has this name
abbrev pub action_of : List ℕ → Option Action
action_of name = find (λ a. bytes_eq (action_name a) name) all_actions
