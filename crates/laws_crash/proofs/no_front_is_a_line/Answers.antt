use Rattle.laws_crash.proofs.Lines.{no_front_is_a_line}
use Rattle.laws_crash.proofs.no_front_is_a_line.Goals as goal

pub returns : goal.returns
returns c = no_front_is_a_line c.written_on_one_line.ensures
