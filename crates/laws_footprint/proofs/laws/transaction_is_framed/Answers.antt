use Rattle.laws_footprint.proofs.Transactions.{transaction_is_framed}
use Rattle.laws_footprint.proofs.laws.transaction_is_framed.Goals as goal

pub returns : goal.returns
returns c = transaction_is_framed
