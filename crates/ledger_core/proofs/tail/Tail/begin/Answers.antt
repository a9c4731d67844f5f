use Rattle.std.proofs.Common.{rules}
use Rattle.ledger_core.proofs.Drawn.{opens_now, still_open}
use Rattle.ledger_core.proofs.tail.Tail.begin.Goals as goal

pub returns-clause-opens : goal.returns-clause-opens
returns-clause-opens g c =
    opens_now c.args.self.now c.draw.new.self c.start_txn.result c.args.place c.blocks-2.ensures.standing (search rules) (search rules)

pub returns-clause-still : goal.returns-clause-still
returns-clause-still g c = λ other o. still_open c.args.self.now c.draw.new.self (search rules) other o
