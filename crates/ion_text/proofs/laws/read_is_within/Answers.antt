use Rattle.ion_text.proofs.ReadWithin.{read_within}
use Rattle.ion_text.proofs.laws.read_is_within.Goals as goal

pub returns : goal.returns
returns c = read_within
