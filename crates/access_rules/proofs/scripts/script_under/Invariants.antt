use Rattle.std.proofs.Common.{◌≡◌, length}
use Rattle.access_rules.specs.Scripts.{script_under}
use Rattle.access_rules.proofs.scripts.script_under.Given as goal

abbrev pub invariant-sessions : goal.invariant-sessions
invariant-sessions l = record {
  under : l.under ≡ script_under l.rules l.yielded;
  counted : l.number ≡ length l.yielded;
}
