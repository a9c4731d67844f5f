use Rattle.journal_text.proofs.Readings.{journals_tell}
use Rattle.journal_text.proofs.laws.journals_tell.Goals as goal

pub returns : goal.returns
returns c = journals_tell (record { back = c.written_is_read.ensures; tells = c.values_tell_blocks.ensures })
