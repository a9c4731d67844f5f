use Rattle.stream_out.proofs.OfRecords.{values-tell}
use Rattle.stream_out.proofs.read_records.values_tell_records.Goals as goal

pub returns : goal.returns
returns c = values-tell
