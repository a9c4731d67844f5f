use Rattle.std.proofs.Common.{◌∙◌}
use Rattle.txn_core.proofs.Narrowing.{by_id, by_ids, by_key, by_keys}
use Rattle.txn_core.proofs.narrow.meeting.Goals as goal

pub returns-in_ok-ids-in-Id : goal.returns-in_ok-ids-in-Id
returns-in_ok-ids-in-Id c =
    by_id c.args.base.now c.args.table c.in-Id.id c.args.probe.now c.in_ok-ids-in-Id.ids c.in-Id.is (c.in_ok-ids-in-Id.ensures ∙ c.from_ref.ensures.value)

pub returns-in_ok-ids-in-Ids : goal.returns-in_ok-ids-in-Ids
returns-in_ok-ids-in-Ids c =
    by_ids c.args.base.now c.args.table c.in-Ids.ids c.args.probe.now c.in_ok-ids-in-Ids.ids c.in-Ids.is (c.in_ok-ids-in-Ids.ensures ∙ c.as_slice.ensures)

pub returns-in_ok-ids-in-Key : goal.returns-in_ok-ids-in-Key
returns-in_ok-ids-in-Key c =
    by_key c.args.base.now c.args.table c.in-Key.field c.in-Key.key c.from_ref-in-Key.result.now c.args.probe.now c.in_ok-ids-in-Key.ids c.in-Key.is
    c.from_ref-in-Key.ensures.value c.in_ok-ids-in-Key.ensures

pub returns-in_ok-ids-in-Keys : goal.returns-in_ok-ids-in-Keys
returns-in_ok-ids-in-Keys c =
    by_keys c.args.base.now c.args.table c.in-Keys.field c.in-Keys.keys c.as_slice-in-Keys.result.now c.args.probe.now c.in_ok-ids-in-Keys.ids c.in-Keys.is
    c.as_slice-in-Keys.ensures c.in_ok-ids-in-Keys.ensures
