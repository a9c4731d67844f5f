use Rattle.txn_core.proofs.candidates.plan_for.Goals as goal

pub returns-in_default : goal.returns-in_default
returns-in_default c = c.plan_documents.ensures c.args.base.now
