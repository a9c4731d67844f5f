use Rattle.std.proofs.Common.{◌∙◌, ap, sym, subst}
use Rattle.block_form.specs.ReadBack.{whole_in, IsReadAs}
use Rattle.block_form.proofs.Wholes.{whole_in-is}
use Rattle.block_form.proofs.read_blocks.from_ion.Goals as goal

pub returns : goal.returns
returns c = subst (λ x. IsReadAs c.args.v.now x) (sym (c.in_ok-block.ensures ∙ ap whole_in c.in_ok-copy.ensures)) (whole_in-is c.args.v.now)
