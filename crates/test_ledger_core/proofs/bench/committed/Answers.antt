use Rattle.test_ledger_core.proofs.bench.committed.Goals as goal

pub commit-requires : goal.commit-requires
commit-requires c = c.ask_all.ensures c.begin.new.self.standing c.in-Ok.ensures.opens
