use Rattle.std.proofs.Common.{sym, arith}
use Rattle.block_form.proofs.Tables.{none_unequal}
use Rattle.block_form.proofs.read_info.tables_of.Goals as goal

pub returns-then-values-revisions : goal.returns-then-values-revisions
returns-then-values-revisions c = sym (none_unequal c.args.values.now c.args.revisions.now (omega arith))
