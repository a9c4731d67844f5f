use Rattle.proof_extract.proofs.Chain.{entries_from}
use Rattle.proof_extract.proofs.forms.entries_of.Goals as goal

pub returns : goal.returns
returns c = entries_from c.args.block.now c.in-Full.said c.in-Full.header c.requires (cc) (cc)
