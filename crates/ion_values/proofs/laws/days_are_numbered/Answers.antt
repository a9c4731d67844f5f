use Rattle.ion_values.proofs.Days.{days_are_numbered}
use Rattle.ion_values.proofs.laws.days_are_numbered.Goals as goal

pub returns : goal.returns
returns c = days_are_numbered
