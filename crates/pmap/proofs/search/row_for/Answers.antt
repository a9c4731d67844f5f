use Rattle.std.proofs.Common.{sym, subst}
use Rattle.pmap.specs.Pairs.{IsRowFor}
use Rattle.pmap.proofs.Cuts.{row_for_place}
use Rattle.pmap.proofs.search.row_for.Goals as goal

pub returns-clause-row : goal.returns-clause-row
returns-clause-row g c =
    let order = g.K.Keyed.order in
    let met = g.met.K.Keyed in
    let row = row_for_place order met.total met.same c.args.key.now c.args.rows.now c.find-place.result.at c.find-place.result.is_there
    c.requires.ascending c.requires.some c.find-place.ensures.place in
    subst (IsRowFor order c.args.key.now c.args.rows.now) (sym c.row_of.ensures) row
