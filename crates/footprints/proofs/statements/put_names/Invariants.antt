use Rattle.std.proofs.Common.{◌≡◌, ◌++◌, drop}
use Rattle.ledger_model.specs.Footprints.{names_read}
use Rattle.footprints.proofs.statements.put_names.Given as goal

-- the names so far and those of the rest are all names
abbrev pub invariant-sources : goal.invariant-sources
invariant-sources l =
    l.items.items ++ names_read (drop l.source-index l.sources) ≡ l.initial.items.items ++ names_read l.sources
