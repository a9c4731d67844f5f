use Rattle.std.proofs.Common.{◌≡◌, drop}
use Rattle.std.specs.List.{find}
use Rattle.access_rules.specs.Permission.{denies}
use Rattle.access_rules.proofs.judging.first_denying.Given as goal

-- none in front denies
abbrev pub invariant-rules : goal.invariant-rules
invariant-rules l = find (denies l.session l.demand) (drop l.rule-index l.rules) ≡ find (denies l.session l.demand) l.rules
