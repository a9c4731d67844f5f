use Rattle.std.proofs.Common.{◌≡◌, ◌+◌, ◌-◌, ◌^◌, List, length}
use Rattle.stream_out.specs.declared.record.Record.{Record}
use Rattle.stream_out.specs.Replays.{Holds}
use Rattle.stream_out.proofs.replay.Replay.settle.Given as goal

-- what is kept stays, and the blocks that stand are of what is kept
abbrev pub invariant-rebuilt : goal.invariant-rebuilt
invariant-rebuilt l = record {
  from : l.self.from ≡ l.initial.self.from;
  holds : (told : List Record) → Holds told l.initial.self → Holds told l.self;
}

abbrev pub decreases-rebuilt : goal.decreases-rebuilt
decreases-rebuilt l = 2 ^ 64 - (l.self.from + length l.self.blocks.list)
