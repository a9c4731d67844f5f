use Rattle.std.proofs.Common.{◌≡◌, ◌++◌, drop}
use Rattle.access_rules.specs.Demands.{changing_from}
use Rattle.access_rules.proofs.statements.all_changing.Given as goal

-- the demands so far and those of the rest are all
abbrev pub invariant-sources : goal.invariant-sources
invariant-sources l = l.all ++ changing_from l.roots l.place (drop l.place l.sources) ≡ changing_from l.roots 0 l.sources
