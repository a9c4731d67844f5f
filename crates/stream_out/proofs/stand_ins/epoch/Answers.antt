use Rattle.stream_out.proofs.Ranges.{epoch_is_time}
use Rattle.stream_out.proofs.stand_ins.epoch.Goals as goal

pub made-requires : goal.made-requires
made-requires c = epoch_is_time
