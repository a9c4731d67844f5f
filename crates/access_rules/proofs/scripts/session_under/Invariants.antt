use Rattle.std.proofs.Common.{◌≡◌}
use Rattle.access_rules.specs.Scripts.{session_under}
use Rattle.access_rules.proofs.scripts.session_under.Given as goal

abbrev pub invariant-jobs : goal.invariant-jobs
invariant-jobs l = l.under ≡ session_under l.rules l.number l.yielded
