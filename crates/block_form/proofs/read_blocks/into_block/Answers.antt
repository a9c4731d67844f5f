use Rattle.std.proofs.Common.{sym, subst}
use Rattle.block_form.specs.ReadBack.{IsReadAs}
use Rattle.block_form.proofs.Wholes.{whole_in-is}
use Rattle.block_form.proofs.read_blocks.into_block.Goals as goal

pub returns : goal.returns
returns c = subst (λ x. IsReadAs c.args.v x) (sym c.in_ok-block.ensures) (whole_in-is c.args.v)
