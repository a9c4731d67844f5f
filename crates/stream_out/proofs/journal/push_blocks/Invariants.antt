use Rattle.std.proofs.Common.{◌≡◌, ◌++◌, List, drop, take}
use Rattle.ledger_model.specs.declared.block.Schema.{Schema}
use Rattle.stream_out.specs.Named.{NamesStand}
use Rattle.stream_out.specs.Streams.{changes_in, records_behind}
use Rattle.stream_out.proofs.journal.push_blocks.Given as goal

-- the names of the blocks so far, and the records so far and those of the blocks that are left are all
abbrev pub invariant-streamed : goal.invariant-streamed
invariant-streamed l = (changes : List Schema) → NamesStand changes l.initial.names
    → NamesStand (changes ++ changes_in (take l.block-index l.blocks)) l.names
    × (l.records ++ records_behind (changes ++ changes_in (take l.block-index l.blocks)) (drop l.block-index l.blocks)
    ≡ l.initial.records ++ records_behind changes l.blocks)
