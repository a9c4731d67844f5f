use Rattle.ion_pieces.proofs.Holding.{handed_out}
use Rattle.ion_pieces.proofs.held.Known.hand_out.Goals as goal

pub returns-in-Open-clause-led : goal.returns-in-Open-clause-led
returns-in-Open-clause-led c = λ depth at held z. rw c.in-Open.is (handed_out depth c.hand_out-values.result.0 c.in-Open.frames c.hand_out-values.result.1 c.hand_out-values.ensures.led at held z)
