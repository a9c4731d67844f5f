use Rattle.journal_text.proofs.Written.{written}
use Rattle.journal_text.proofs.laws.written_on_one_line.Goals as goal

pub returns : goal.returns
returns c = written
