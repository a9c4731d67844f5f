use Rattle.std.proofs.Common.{◌≡◌, ◌++◌, drop}
use Rattle.footprints.specs.Lent.{texts}
use Rattle.footprints.proofs.asked.copied_names.Given as goal

-- the names so far and the rest are all names
abbrev pub invariant-names : goal.invariant-names
invariant-names l = texts l.all ++ texts (drop l.name-index l.names) ≡ texts l.names
