use Rattle.std.proofs.Common.{◌++◌, List, take}
use Rattle.ledger_model.specs.declared.block.Schema.{Schema}
use Rattle.stream_out.specs.Named.{NamesStand}
use Rattle.stream_out.proofs.names.Names.record_all.Given as goal

-- the names of the changes so far
abbrev pub invariant-changes : goal.invariant-changes
invariant-changes l = (before : List Schema) → NamesStand before l.initial.self → NamesStand (before ++ take l.change-index l.schema) l.self
