use Rattle.std.proofs.Common.{sym, ap, ◌∙◌}
use Rattle.ledger_model.specs.Progress.{not_kept}
use Rattle.txn_core.proofs.Touched.{room_held}
use Rattle.txn_core.proofs.transaction.Txn.keep.Goals as goal

pub returns-in-Some : goal.returns-in-Some
returns-in-Some c =
    let room = room_held c.args.self.now c.args.document.id c.args.touching.now c.has_room_for-has_room.result c.requires c.has_room_for-has_room.ensures in
    ap (λ b. not_kept b c.args.document.value) (sym room) ∙ sym c.in_ok-cause.ensures ∙ c.in-Some.is

pub returns : goal.returns
returns c =
    let room = room_held c.args.self.now c.args.document.id c.args.touching.now c.has_room_for-has_room.result c.requires c.has_room_for-has_room.ensures in
    (ap (λ b. not_kept b c.args.document.value) (sym room) ∙ sym c.in_ok-cause.ensures ∙ c.in_default.is, c.in_ok-touch.ensures)
