use Rattle.std.proofs.Common.{◌≡◌, ◌++◌, drop}
use Rattle.footprints.specs.Lent.{values_lent}
use Rattle.footprints.proofs.asked.all_lent.Given as goal

-- the values so far and the rest are all values
abbrev pub invariant-values : goal.invariant-values
invariant-values l = values_lent l.all ++ drop l.value-index l.values ≡ l.values
