use Rattle.stream_out.proofs.Rebuilding.{deliveries-rebuild}
use Rattle.stream_out.proofs.replay.deliveries_rebuild.Goals as goal

pub returns : goal.returns
returns c = deliveries-rebuild
