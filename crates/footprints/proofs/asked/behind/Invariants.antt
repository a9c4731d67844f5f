use Rattle.std.proofs.Common.{◌≡◌, ◌∷◌, ◌++◌, drop}
use Rattle.footprints.specs.Lent.{texts}
use Rattle.footprints.proofs.asked.behind.Given as goal

-- the names so far and the rest are all names
abbrev pub invariant-fields : goal.invariant-fields
invariant-fields l = texts l.all ++ texts (drop l.field-index l.fields) ≡ l.first ∷ texts l.fields
