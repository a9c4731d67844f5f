use Rattle.std.proofs.Common.{◌≡◌, ◌≤◌, ◌-◌, drop, length}
use Rattle.ion_model.specs.Read.{run, read_utf8}
use Rattle.ion_text.specs.Stream.{open_of}
use Rattle.ion_text.proofs.stream.read_utf8.Given as goal

-- what is left gives what the whole gives
abbrev pub invariant-loop-at : goal.invariant-loop-at
invariant-loop-at l = record {
  within : l.at ≤ length l.bytes;
  same : run l.depth 0 l.at (open_of l.reader) (drop l.at l.bytes) ≡ read_utf8 l.depth l.bytes;
}

abbrev pub decreases-loop-at : goal.decreases-loop-at
decreases-loop-at l = length l.bytes - l.at
