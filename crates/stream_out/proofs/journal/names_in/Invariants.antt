use Rattle.std.proofs.Common.{take}
use Rattle.stream_out.specs.Named.{NamesStand}
use Rattle.stream_out.specs.Streams.{changes_in}
use Rattle.stream_out.proofs.journal.names_in.Given as goal

-- the names of the blocks so far
abbrev pub invariant-changes : goal.invariant-changes
invariant-changes l = NamesStand (changes_in (take l.block-index l.blocks)) l.names
