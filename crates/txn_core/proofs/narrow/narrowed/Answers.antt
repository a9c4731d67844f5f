use Rattle.std.proofs.Common.{Option, subst, List}
use Rattle.std.specs.Option.{IfSome}
use Rattle.ql_types.specs.declared.DocId.{DocId}
use Rattle.txn_core.specs.Narrow.{MeetAlone}
use Rattle.txn_core.proofs.Narrowing.{narrow_is}
use Rattle.txn_core.proofs.narrow.narrowed.Goals as goal

pub returns-in_ok-all-in-Some : goal.returns-in_ok-all-in-Some
returns-in_ok-all-in-Some c =
    let alone : MeetAlone c.args.base.now c.args.table c.args.probe.now c.in-Some.ids =
    subst (λ (o : Option (List DocId)). IfSome o (MeetAlone c.args.base.now c.args.table c.args.probe.now)) c.in-Some.is c.in_ok-meeting.ensures in
    narrow_is c.args.base.now c.args.log.now c.args.table c.args.probe.now c.in-Some.ids c.in_ok-all-in-Some.all alone c.in_ok-all-in-Some.ensures
