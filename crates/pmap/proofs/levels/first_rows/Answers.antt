use Rattle.pmap.proofs.InRows.{first_rows_are}
use Rattle.pmap.proofs.levels.first_rows.Goals as goal

pub returns : goal.returns
returns g c =
    let met = g.met.K.Keyed in
    first_rows_are g.K.Keyed.order met.total met.same c.args.key.now c.args.put.now c.in_ok-leaf.leaf c.in_ok-leaves.leaves c.in_ok-rows.rows c.requires
    c.in_ok-leaf.ensures c.in_ok-leaves.ensures c.in_ok-rows.ensures
