use Rattle.laws_history.proofs.Serial.{machines_leave_right}
use Rattle.laws_history.proofs.machines_leave_right.Goals as goal

pub returns : goal.returns
returns c = machines_leave_right
