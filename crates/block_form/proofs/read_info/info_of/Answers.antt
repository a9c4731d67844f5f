use Rattle.std.proofs.Common.{sym}
use Rattle.block_form.proofs.Counted.{no_info}
use Rattle.block_form.proofs.read_info.info_of.Goals as goal

pub returns-in_default : goal.returns-in_default
returns-in_default c = sym (no_info c.args.revisions.now c.args.fields c.in_default.ensures)
