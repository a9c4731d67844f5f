use Rattle.pvec.proofs.Places.{looked_up}
use Rattle.pvec.proofs.rows.member.Goals as goal

pub returns : goal.returns
returns g c = looked_up c.args.row.now c.args.at c.get.result c.get.ensures.lookup.3
