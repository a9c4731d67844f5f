use Rattle.std.proofs.Common.{◌≡◌, drop}
use Rattle.std.specs.List.{list_any}
use Rattle.access_rules.specs.Permission.{allows}
use Rattle.access_rules.proofs.judging.any_allows.Given as goal

-- none in front allows
abbrev pub invariant-rules : goal.invariant-rules
invariant-rules l = list_any (allows l.session l.demand) (drop l.rule-index l.rules) ≡ list_any (allows l.session l.demand) l.rules
