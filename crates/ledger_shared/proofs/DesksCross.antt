-- A ledger may be shared by threads, and a desk sent to another one, where the store and the clock may be sent and the gate
-- may be shared.
use denote.RattleType.{RattleType}
use denote.Param.Send.{IsSend, IsSync, sendable, view_send}
use denote.Param.SendFields.{declared_send, declared_sync}
use denote.Ref.{NamedLft}
use Rattle.std.proofs.Crossing.{crosses}
use Rattle.atomic_table.proofs.shared.Seat.TheSendSync as seat
use Rattle.turn_lock.proofs.turns.Turns.TheSendSync as turns
use Rattle.pad_tree.proofs.grow.Grow.TheSendSync as grow
use Rattle.outside.specs.declared.traits.JournalStore as store
use Rattle.outside.specs.declared.traits.Clock as clock
use Rattle.journal_reader.specs.contracts.chain.Chain as Chain
use Rattle.ledger_core.specs.contracts.tail.Tail as Tail
use Rattle.ledger_model.proofs.outcome.PlacedOutcome.TheSendSync as outcome
use Rattle.ledger_shared.specs.contracts.entry.Entry as Entry
use Rattle.ledger_shared.specs.contracts.entry.Entries as Entries
use Rattle.ledger_shared.specs.contracts.shared.Shared as Shared
use Rattle.ledger_shared.specs.contracts.shared.Shared.TheInside as SharedInside
use Rattle.ledger_shared.specs.contracts.ledger.Ledger as Ledger
use Rattle.ledger_shared.specs.contracts.runner.Runner as Runner
use Rattle.ledger_shared.specs.contracts.worker.Worker as Worker
use Rattle.ledger_shared.specs.contracts.worker.Worker.TheInside as WorkerInside
use Rattle.ledger_shared.specs.contracts.workers.Desk as Desk
use Rattle.journal_text.proofs.BlocksCross.{blocks_send}
use Rattle.ledger_shared.proofs.StatesCross.{versions_send}
use Rattle.ledger_shared.proofs.StatementsCross.{statements_send}

entry_send : IsSend Entry.the_row
entry_send = search (sendable, crosses) depth 14

entries_send : IsSend Entries.the_row
entries_send = let e = entry_send in search (sendable, crosses) depth 14

-- the blocks of a tail, and the tree over them
chain_send : IsSend Chain.the_row
chain_send = let b = blocks_send in search (sendable, crosses, grow.the_send) depth 20

module _ (S C : RattleType) (g : store.Ghosts S.Denot) (h : clock.Ghosts C.Denot) (s : IsSend S) (c : IsSend C) where
  tail_send : IsSend (Tail.the_row S C g)
  tail_send =
      let b = chain_send in let v = versions_send in
      search sendable depth 14

  shared_send : IsSend (Shared.the_row S C g h)
  shared_send =
      let t = tail_send in
      view_send _ _ _ _ _
      (declared_send (SharedInside.the_type S C g h) (t, (entries_send, (search (sendable, crosses) depth 10, tt))))

  ledger_sync : IsSync (Ledger.the_row S C g h)
  ledger_sync = declared_sync (Ledger.the_type S C g h) (turns.the_sync _ _ _ _ shared_send, tt)

  module _ (G : RattleType) (y : IsSync G) (κ : NamedLft) where
    runner_send : IsSend (Runner.the_row κ G)
    runner_send = declared_send (Runner.the_type κ G)
        (search (sendable, crosses) depth 8, (search (sendable, crosses) depth 8, (statements_send, tt)))

    worker_send : IsSend (Worker.the_row κ S C G g h)
    worker_send =
        let s = shared_send in let l = ledger_sync in
        view_send _ _ _ _ _ (declared_send (WorkerInside.the_type κ S C G g h)
        (search (sendable, crosses) depth 10, (search (sendable, crosses, seat.the_send) depth 14, (runner_send, tt))))

    pub desk_send : IsSend (Desk.the_row κ S C G g h)
    desk_send =
        let w = worker_send in
        declared_send (Desk.the_type κ S C G g h) (w, (search (sendable, crosses, outcome.the_send) depth 10, tt))
