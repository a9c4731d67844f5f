use denote.Param.Send.{sendable}
use Rattle.std.proofs.Crossing.{crosses}
use Rattle.journal_text.proofs.LinesCross.{line_send}
use Rattle.journal_text.proofs.shares.read_shares.Goals as goal

pub map_indices-requires-send-X : goal.map_indices-requires-send-X
map_indices-requires-send-X g c κs within = let l = line_send in search (sendable, crosses) depth 20
