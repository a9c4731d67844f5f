use Rattle.std.proofs.Common.{◌++◌, ◌≤◌, length, take, length-append, arith}
use Rattle.std.proofs.KnownBytes.{Consumes-trans}
use Rattle.ledger_cli.proofs.Pieces.{length-taken}
use Rattle.ledger_cli.proofs.input.read_all.Goals as goal

pub returns-then-is_err-clause-few : goal.returns-then-is_err-clause-few
returns-then-is_err-clause-few g c =
    let last = take c.in-Ok.count c.read.new.out in
    let short : length last ≤ c.in-Ok.count = length-taken c.read.new.out c.in-Ok.count in
    let room : length (take c.min-room.result c.pieces.piece) ≤ c.min-room.result = length-taken c.pieces.piece c.min-room.result in (
      c.pieces.all.items ++ last,
      record {
        consumed = Consumes-trans _ _ _ c.pieces.all.items last c.pieces.invariant.so_far c.in-Ok.ensures.bytes.0;
        few = omega (arith, length-append c.pieces.all.items last, c.in-Ok.ensures.bound, c.read.auto.out, short, room);
      },
    )
