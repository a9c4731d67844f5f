use Rattle.ledger_core.proofs.Imaging.{reload_tail}
use Rattle.ledger_core.proofs.tail.Tail.reload_by.Goals as goal

pub returns-in-Ok-clause-images : goal.returns-in-Ok-clause-images
returns-in-Ok-clause-images g c =
    reload_tail g.S.JournalStore.told (g.S.JournalStore.told c.args.store) _ _ _ _ c.tail_of.result c.tail_of.ensures c.in-Ok.ensures.journal c.load_by.ensures.content
