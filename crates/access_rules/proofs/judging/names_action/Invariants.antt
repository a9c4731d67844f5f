use Rattle.std.proofs.Common.{◌≡◌, drop}
use Rattle.access_rules.specs.Permission.{names_action}
use Rattle.access_rules.proofs.judging.names_action.Given as goal

-- those in front are others
abbrev pub invariant-actions : goal.invariant-actions
invariant-actions l = names_action (drop l.other-index l.named) l.action ≡ names_action l.named l.action
