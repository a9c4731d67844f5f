use Rattle.std.proofs.Common.{◌≡◌, ◌+◌, drop}
use Rattle.access_rules.specs.Permission.{denied, denied_from}
use Rattle.access_rules.proofs.requests.denied.Given as goal

-- those in front are allowed
abbrev pub invariant-requests : goal.invariant-requests
invariant-requests l =
    denied_from l.rules l.session (l.statement + 1) (drop l.request-index l.asked) ≡ denied l.rules l.session l.asked
