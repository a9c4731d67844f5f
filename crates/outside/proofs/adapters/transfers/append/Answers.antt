-- Each write takes the front of what is left.
use Rattle.std.proofs.Common.{arith}
use Rattle.outside.proofs.Kept.{appends_more}
use Rattle.outside.proofs.adapters.transfers.append.Goals as goal

pub pieces-preserved : goal.pieces-preserved
pieces-preserved g c = record {
  within = omega (arith, c.in-Ok.ensures.bound);
  taken = appends_more _ _ _ c.args.piece.now c.pieces.at c.in-Ok.taken c.pieces.invariant.taken c.in-Ok.ensures.bytes;
}
