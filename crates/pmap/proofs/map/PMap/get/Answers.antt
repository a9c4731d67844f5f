use Rattle.std.proofs.Common.{sym, ap, ◌∙◌, length, arith}
use Rattle.pmap.specs.Pairs.{cut_at}
use Rattle.pmap.proofs.Cuts.{found}
use Rattle.pmap.proofs.map.PMap.get.Goals as goal

pub returns-clause-value : goal.returns-clause-value
returns-clause-value g c =
    let order = g.K.Keyed.order in
    let met = g.met.K.Keyed in
    c.value_of.ensures.value ∙ ap (λ pairs. (cut_at order c.args.key.now pairs).1) c.upper_rows.ensures.pairs
    ∙ sym (found order met.total met.same c.args.key.now c.args.self.now c.upper_rows.ensures.ascending)

pub returns-clause-counted : goal.returns-clause-counted
returns-clause-counted g c digits few = c.value_of.ensures.counted digits (omega (arith, ap length c.upper_rows.ensures.pairs, few))
