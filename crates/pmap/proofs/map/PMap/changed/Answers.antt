use Rattle.std.proofs.Common.{sym, ap, ◌∙◌, subst}
use Rattle.pmap.specs.Pairs.{with_put}
use Rattle.pmap.specs.Levels.{pairs_of, AreRowsOf}
use Rattle.pmap.proofs.Counts.{counted_rows}
use Rattle.pmap.proofs.map.PMap.changed.Goals as goal

pub invariant_of-result : goal.invariant_of-result
invariant_of-result g c =
    let order = g.K.Keyed.order in
    let met = g.met.K.Keyed in
    let key = c.args.key.now in
    let put = c.args.put.now in
    let rows = subst (λ pairs. AreRowsOf order (with_put order key put pairs) c.in_ok-rows.rows) c.upper_rows.ensures.pairs c.in_ok-rows.ensures in
    counted_rows order met.total met.same key put c.args.self.now c.in_ok-upper.upper c.args.len
    (subst (AreRowsOf order (with_put order key put c.args.self.now)) (sym c.in_ok-upper.ensures) rows) c.requires.counted

pub returns : goal.returns
returns g c =
    let order = g.K.Keyed.order in
    let key = c.args.key.now in
    let put = c.args.put.now in
    ap pairs_of c.in_ok-upper.ensures ∙ c.in_ok-rows.ensures.holds ∙ ap (with_put order key put) c.upper_rows.ensures.pairs
