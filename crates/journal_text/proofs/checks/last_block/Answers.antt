use Rattle.std.proofs.Common.{◌-◌, length, sym, arith}
use Rattle.journal_text.proofs.Lasts.{last_block-at}
use Rattle.journal_text.proofs.checks.last_block.Goals as goal

pub returns-in-len1-up : goal.returns-in-len1-up
returns-in-len1-up c = sym (last_block-at c.args.before.now (length c.args.before.now - 1) c.last-item.result (omega arith) c.last-item.is)
