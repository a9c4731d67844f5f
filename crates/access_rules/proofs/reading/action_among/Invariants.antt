use Rattle.std.proofs.Common.{◌≡◌, drop}
use Rattle.std.specs.List.{find}
use Rattle.std.specs.Str.{bytes_eq}
use Rattle.access_rules.specs.Actions.{action_name}
use Rattle.access_rules.proofs.reading.action_among.Given as goal

-- those in front have other names
abbrev pub invariant-actions : goal.invariant-actions
invariant-actions l = find (λ a. bytes_eq (action_name a) l.name) (drop l.action-index l.actions) ≡ find (λ a. bytes_eq (action_name a) l.name) l.actions
