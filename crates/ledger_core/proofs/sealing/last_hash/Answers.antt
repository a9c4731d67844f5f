use Rattle.std.proofs.Common.{sym}
use Rattle.ledger_core.proofs.LastBlock.{last_hash-is}
use Rattle.ledger_core.proofs.sealing.last_hash.Goals as goal

pub returns-in-Some : goal.returns-in-Some
returns-in-Some c = sym (last_hash-is c.args.mask.bits c.args.before.now c.in-Some.last.now (sym c.in-Some.ensures.value))
