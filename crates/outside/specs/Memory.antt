-- What the source and the sink in memory hold, and what a call answers and leaves.
use Rattle.std.specs.Prelude.{ℕ, List, ◌++◌, Result, Ok, Err, is_some, min, length, take, drop, if◌then◌else◌}
use Rattle.outside.specs.declared.traits.OutFault.{OutFault}
use Rattle.outside.specs.declared.traits.OutFault.TheVariants.{Failed}
use Rattle.outside.specs.FailPlan.{FailPlan, due, after_call}

pub record SourceHeld : Type 0 where
  pub left : List ℕ
  pub plan : FailPlan

-- how many bytes a read into a piece of this length gives
abbrev pub read_count : SourceHeld → ℕ → ℕ
read_count source room = min room (length source.left)

abbrev pub read_answer : SourceHeld → ℕ → Result ℕ OutFault
read_answer source room = if is_some (due source.plan) then Err Failed else Ok (read_count source room)

-- the piece after a read into it
abbrev pub piece_after : SourceHeld → List ℕ → List ℕ
piece_after source piece =
    if is_some (due source.plan) then piece
    else (take (read_count source (length piece)) source.left ++ drop (read_count source (length piece)) piece)

abbrev pub source_after : SourceHeld → ℕ → SourceHeld
source_after source room = record {
  left = if is_some (due source.plan) then source.left else drop (read_count source room) source.left;
  plan = after_call source.plan;
}

pub record SinkHeld : Type 0 where
  pub written : List ℕ
  pub plan : FailPlan

abbrev pub write_answer : SinkHeld → List ℕ → Result ℕ OutFault
write_answer sink piece = if is_some (due sink.plan) then Err Failed else Ok (length piece)

abbrev pub sink_after : SinkHeld → List ℕ → SinkHeld
sink_after sink piece = record {
  written = if is_some (due sink.plan) then sink.written else (sink.written ++ piece);
  plan = after_call sink.plan;
}
