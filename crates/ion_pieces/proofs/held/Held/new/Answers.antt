use Rattle.ion_text.specs.Stream.{open_of}
use Rattle.ion_pieces.proofs.Holding.{new_gives}
use Rattle.ion_pieces.proofs.held.Held.new.Goals as goal

pub returns : goal.returns
returns c = λ depth text. new_gives depth c.new-2.result.items text (open_of c.new.result.reader) c.new-2.ensures.items c.new.ensures
