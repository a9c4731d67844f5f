use Rattle.std.proofs.Common.{◌≡◌, drop, length}
use Rattle.std.specs.Cmp.Lexicographic.{pointwise}
use Rattle.ion_model.specs.Timestamps.{stands_for}
use Rattle.ion_lexer.proofs.number.timestamp.has_shape.Given as goal

-- what is left gives what the whole gives
abbrev pub invariant-loop-at : goal.invariant-loop-at
invariant-loop-at l = record {
  long : length l.text ≡ length l.shape;
  same : pointwise stands_for (drop l.at l.text) (drop l.at l.shape) ≡ pointwise stands_for l.text l.shape;
}
