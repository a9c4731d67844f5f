use Rattle.std.proofs.Common.{◌≡◌, drop}
use Rattle.access_rules.specs.Permission.{verdict}
use Rattle.access_rules.proofs.judging.judge.Given as goal

-- those in front are allowed
abbrev pub invariant-demands : goal.invariant-demands
invariant-demands l = verdict l.rules l.session (drop l.demand-index l.fn.demands) ≡ verdict l.rules l.session l.fn.demands
