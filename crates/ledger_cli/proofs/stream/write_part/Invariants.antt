use Rattle.std.proofs.Common.{take}
use Rattle.ledger_model.specs.Compaction.{compacted}
use Rattle.stream_out.specs.Named.{NamesStand}
use Rattle.stream_out.specs.Streams.{changes_in, records_of}
use Rattle.cli_model.specs.Streams.{records_text}
use Rattle.ledger_cli.proofs.Written.{IsBegun}
use Rattle.ledger_cli.proofs.stream.write_part.Given as goal

-- the names are those of the blocks so far, and the lines of the others are left
abbrev pub invariant-each : goal.invariant-each
invariant-each g l = record {
  named : NamesStand (changes_in (take l.at (compacted l.shown.blocks.list))) l.names;
  so_far : IsBegun (g.Si.Sink.told l.initial.sink) (g.Si.Sink.told l.sink)
      (records_text (records_of (compacted l.shown.blocks.list) l.at l.fn.part.to))
      (records_text (records_of (compacted l.shown.blocks.list) l.fn.part.from l.fn.part.to));
}
