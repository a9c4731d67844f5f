use Rattle.std.proofs.Common.{◌≡◌, drop, map}
use Rattle.versions.specs.Held.{table_of}
use Rattle.txn_core.specs.Selects.{first_absent_in}
use Rattle.txn_core.proofs.sources.first_absent.Given as goal

-- the tables in front are active
abbrev pub invariant-sources : goal.invariant-sources
invariant-sources l =
    first_absent_in (map table_of l.tables) (drop l.source-index l.sources) ≡ first_absent_in (map table_of l.tables) l.sources
