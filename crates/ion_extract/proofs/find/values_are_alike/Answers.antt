use Rattle.std.proofs.Common.{◌∙◌, sym}
use Rattle.ion_extract.proofs.Walks.{one_value}
use Rattle.ion_extract.proofs.find.values_are_alike.Goals as goal

pub returns : goal.returns
returns c =
    one_value c.args.f.now c.args.g.now (sym c.requires.left ∙ c.requires.same ∙ c.requires.right)
