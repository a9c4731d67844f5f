use denote.Param.Send.{sendable}
use Rattle.ledger_shared.proofs.DesksCross.{desk_send}
use Rattle.ledger_shared.proofs.workers.run_workers.Goals as goal

pub for_each_mut-requires-send-T : goal.for_each_mut-requires-send-T
for_each_mut-requires-send-T g c κs within =
    let d = desk_send _ _ g.S.JournalStore g.C.Clock c.type_bounds.send-S c.type_bounds.send-C _ c.type_bounds.sync-G in
    search sendable depth 10
