use Rattle.ion_extract.proofs.Levels.{body_told, inside}
use Rattle.ion_extract.proofs.find.bodies_are_alike.Goals as goal

pub returns : goal.returns
returns c = (
  (body_told c.args.v.now c.args.w.now c.requires).1,
  inside c.args.v.now c.is_within.ensures,
  inside c.args.w.now c.is_within-2.ensures,
)
