use Rattle.std.proofs.Common.{◌≡◌, ◌≤◌, ◌-◌, ◌+◌, ℕ, true, List, ◌++◌, drop, length}
use Rattle.ion_model.specs.Read.{run}
use Rattle.ion_text.specs.Stream.{open_of}
use Rattle.ion_pieces.specs.Fronts.{MayFollow}
use Rattle.ion_pieces.specs.Frames.{frames_within}
use Rattle.ion_pieces.proofs.tokens.read_tokens.Given as goal

-- what is left gives what the whole gives
abbrev pub invariant-tokens : goal.invariant-tokens
invariant-tokens l = record {
  room : l.at ≤ length l.bytes;
  fine : frames_within (open_of l.reader) ≡ true;
  same : (at : ℕ) (more : List ℕ) → MayFollow l.whole more →
      run l.depth 0 at (open_of l.fn.frames.reader) (l.bytes ++ more) ≡ run l.depth 0 (at + l.at) (open_of l.reader) (drop l.at l.bytes ++ more);
}

abbrev pub decreases-tokens : goal.decreases-tokens
decreases-tokens l = length l.bytes - l.at
