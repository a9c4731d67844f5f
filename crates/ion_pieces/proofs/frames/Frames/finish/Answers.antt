use Rattle.ion_text.specs.Stream.{open_of}
use Rattle.ion_pieces.proofs.FramesWithin.{values_at_end}
use Rattle.ion_pieces.proofs.frames.Frames.finish.Goals as goal

pub returns-clause-within : goal.returns-clause-within
returns-clause-within c = values_at_end c.args.end (open_of c.args.self.reader) c.in_ok-values.values c.args.self.within c.in_ok-values.ensures
