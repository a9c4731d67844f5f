use Rattle.block_form.proofs.Wholes.{values-tell}
use Rattle.block_form.proofs.read_blocks.values_tell_blocks.Goals as goal

pub returns : goal.returns
returns c = values-tell
