use Rattle.ledger_shared.proofs.Recovering.{images_recover}
use Rattle.ledger_shared.proofs.laws.images_recover.Goals as goal

pub returns : goal.returns
returns c = images_recover c.safe_recovers.ensures
