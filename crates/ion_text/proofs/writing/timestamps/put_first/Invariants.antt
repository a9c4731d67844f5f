use Rattle.std.proofs.Common.{◌≡◌}
use Rattle.std.specs.List.{fold}
use Rattle.ion_model.specs.Timestamp.{first_digits}
use Rattle.ion_text.proofs.writing.timestamps.put_first.Given as goal

abbrev pub invariant-loop-left : goal.invariant-loop-left
invariant-loop-left g l = fold g.S.TextSink.with_byte l.out (first_digits l.left l.rest)
    ≡ fold g.S.TextSink.with_byte l.initial.out (first_digits l.initial.left l.initial.rest)

abbrev pub decreases-loop-left : goal.decreases-loop-left
decreases-loop-left g l = l.left
