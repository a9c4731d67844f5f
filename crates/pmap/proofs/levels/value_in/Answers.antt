use Rattle.std.proofs.Common.{◌+◌, cond, ◌∙◌, refl}
use Rattle.pmap.proofs.Cuts.{value_of_place}
use Rattle.pmap.proofs.levels.value_in.Goals as goal

pub returns-clause-value : goal.returns-clause-value
returns-clause-value g c =
    let met = g.met.K.Keyed in
    c.value_at.ensures ∙ value_of_place g.K.Keyed.order met.total met.same c.args.key.now c.args.leaf.now c.find-place.result.at
    (c.find-place.result.at + cond c.find-place.result.is_there 1 0) c.find-place.result.is_there
    c.find-place.ensures.place refl
