use Rattle.std.proofs.Common.{◌≡◌, eqb, drop}
use Rattle.std.specs.List.{list_any}
use Rattle.access_rules.proofs.judging.is_among.Given as goal

-- those in front are others
abbrev pub invariant-sessions : goal.invariant-sessions
invariant-sessions l = list_any (λ other. eqb other l.session) (drop l.other-index l.sessions) ≡ list_any (λ other. eqb other l.session) l.sessions
