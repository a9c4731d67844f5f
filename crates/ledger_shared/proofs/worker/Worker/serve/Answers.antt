use Rattle.ledger_shared.specs.Behind.{opening_of}
use Rattle.ledger_shared.proofs.Chains.{retried_knows, stays}
use Rattle.ledger_shared.proofs.Serving.{serves_one}
use Rattle.ledger_shared.proofs.worker.Worker.serve.Goals as goal

pub returns-clause-table : goal.returns-clause-table
returns-clause-table g c =
    (stays g.S.JournalStore.told c.args.job.now c.args.place c.args.self.now c.run_job-outcome.new.link c.run_job-outcome.result c.run_job-outcome.ensures).table

pub returns-clause-opened : goal.returns-clause-opened
returns-clause-opened g c =
    (stays g.S.JournalStore.told c.args.job.now c.args.place c.args.self.now c.run_job-outcome.new.link c.run_job-outcome.result c.run_job-outcome.ensures).opened

pub returns-clause-serves : goal.returns-clause-serves
returns-clause-serves g c =
    let told = g.S.JournalStore.told in
    serves_one (opening_of told c.args.self.now.opened) (record { place = c.args.place; job = c.args.job.now }) c.run_job-outcome.result
    c.args.outcomes.now.items c.put.new.list.items c.args.self.now.known c.run_job-outcome.new.link.known
    (retried_knows told c.args.job.now c.args.place c.args.self.now c.run_job-outcome.new.link c.run_job-outcome.result c.run_job-outcome.ensures)
    c.put.ensures.items
