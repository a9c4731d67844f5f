use Rattle.std.proofs.Common.{◌∙◌, refl, arith}
use Rattle.ledger_cli.proofs.Pieces.{appended}
use Rattle.ledger_cli.proofs.output.write_all.Goals as goal

pub pieces-preserved : goal.pieces-preserved
pieces-preserved g c = record {
  within = omega (arith, c.in_ok-at.ensures.bound);
  fine = c.in_ok-at.ensures.cause.fine refl ∙ c.pieces.invariant.fine;
  so_far = appended (g.Si.Sink.told c.args.sink.now).written (g.Si.Sink.told c.pieces.sink).written (g.Si.Sink.told c.write.new.self).written c.args.text.now c.pieces.at c.in_ok-at.field-0 c.pieces.invariant.so_far c.in_ok-at.ensures.bytes;
}
