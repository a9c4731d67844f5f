use Rattle.std.proofs.Common.{sym, subst, ◌≡◌, true}
use Rattle.ion_pieces.specs.Frames.{frames_within}
use Rattle.ion_pieces.proofs.FramesWithin.{start_within}
use Rattle.ion_pieces.proofs.frames.Frames.new.Goals as goal

pub invariant_of-result : goal.invariant_of-result
invariant_of-result c = record { within = subst (λ fs. frames_within fs ≡ true) (sym c.new.ensures) start_within }
