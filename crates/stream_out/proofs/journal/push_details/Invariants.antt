use Rattle.std.proofs.Common.{◌≡◌, ◌++◌, List, drop, map}
use Rattle.ledger_model.specs.declared.block.Schema.{Schema}
use Rattle.stream_out.specs.declared.record.Record.TheVariants as kind
use Rattle.stream_out.specs.Named.{NamesStand}
use Rattle.stream_out.specs.Streams.{details_of}
use Rattle.stream_out.proofs.journal.push_details.Given as goal

-- the records so far and those of the revisions that are left are all
abbrev pub invariant-revisions : goal.invariant-revisions
invariant-revisions l = (changes : List Schema) → NamesStand changes l.names
    → l.records ++ map kind.Details (details_of changes (drop l.at l.tables) (drop l.at l.revisions))
    ≡ l.initial.records ++ map kind.Details (details_of changes l.tables l.revisions)
