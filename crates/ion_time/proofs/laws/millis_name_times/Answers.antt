use Rattle.ion_time.proofs.Names.{millis_name_times}
use Rattle.ion_time.proofs.laws.millis_name_times.Goals as goal

pub returns : goal.returns
returns c = millis_name_times
