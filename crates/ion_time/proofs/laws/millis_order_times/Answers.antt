use Rattle.ion_time.proofs.Names.{millis_order_times}
use Rattle.ion_time.proofs.laws.millis_order_times.Goals as goal

pub returns : goal.returns
returns c = millis_order_times
