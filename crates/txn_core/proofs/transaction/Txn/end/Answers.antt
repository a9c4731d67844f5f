use Rattle.std.proofs.Common.{◌≡◌, true, false, arith}
use Rattle.txn_core.proofs.Touched.{none_held, some_held}
use Rattle.txn_core.proofs.transaction.Txn.end.Goals as goal

pub returns-then-not-has_room_for : goal.returns-then-not-has_room_for
returns-then-not-has_room_for c =
    let none : c.has_room_for.result ≡ false = grind (arith, c.if-not-has_room_for.true) in
    none_held c.args.self.now c.args.id c.args.touching.now c.has_room_for.result c.requires c.has_room_for.ensures none

pub returns : goal.returns
returns c =
    let some : c.has_room_for.result ≡ true = grind (arith, c.if-not-has_room_for.false) in
    (some_held c.args.self.now c.args.id c.args.touching.now c.has_room_for.result c.requires c.has_room_for.ensures some, c.in_ok-touch.ensures)
