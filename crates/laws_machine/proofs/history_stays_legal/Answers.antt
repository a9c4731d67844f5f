use Rattle.laws_machine.proofs.Histories.{history_stays_legal}
use Rattle.laws_machine.proofs.history_stays_legal.Goals as goal

pub returns : goal.returns
returns c = history_stays_legal
