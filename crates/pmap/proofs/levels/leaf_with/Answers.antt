use Rattle.std.proofs.Common.{◌∙◌, arith}
use Rattle.std.proofs.Common.{[]}
use Rattle.pmap.proofs.Cuts.{end_within, length_parts, spliced_place, start_within}
use Rattle.pmap.proofs.InRows.{leaf_changed, leaf_is_short}
use Rattle.pmap.proofs.levels.leaf_with.Goals as goal

pub end_of-end-requires : goal.end_of-end-requires
end_of-end-requires g c =
    let met = g.met.K.Keyed in
    omega (arith, c.find-place.ensures.place.lesser, length_parts g.K.Keyed.order met.total met.same c.args.key.now c.args.leaf.now, c.requires.size)

pub spliced-requires-clause-ordered : goal.spliced-requires-clause-ordered
spliced-requires-clause-ordered g c =
    let met = g.met.K.Keyed in
    start_within g.K.Keyed.order met.total met.same c.args.key.now c.args.leaf.now c.find-place.result.at c.end_of-end.result c.find-place.result.is_there
    c.find-place.ensures.place c.end_of-end.ensures

pub spliced-requires-clause-within : goal.spliced-requires-clause-within
spliced-requires-clause-within g c =
    let met = g.met.K.Keyed in
    end_within g.K.Keyed.order met.total met.same c.args.key.now c.args.leaf.now c.find-place.result.at c.end_of-end.result c.find-place.result.is_there
    c.find-place.ensures.place c.end_of-end.ensures

pub parted-requires : goal.parted-requires
parted-requires g c =
    let met = g.met.K.Keyed in
    let all = spliced_place g.K.Keyed.order met.total met.same c.args.key.now c.args.leaf.now c.find-place.result.at c.end_of-end.result c.find-place.result.is_there
    c.find-place.ensures.place c.end_of-end.ensures c.args.put.now in
    leaf_is_short g.K.Keyed.order met.total met.same c.args.key.now c.args.put.now c.args.leaf.now c.in_ok-new.new [] c.requires.put c.requires.size (c.in_ok-new.ensures ∙ all)

pub returns : goal.returns
returns g c =
    let met = g.met.K.Keyed in
    let all = spliced_place g.K.Keyed.order met.total met.same c.args.key.now c.args.leaf.now c.find-place.result.at c.end_of-end.result c.find-place.result.is_there
    c.find-place.ensures.place c.end_of-end.ensures c.args.put.now in
    leaf_changed g.K.Keyed.order met.total met.same c.args.key.now c.args.put.now c.args.leaf.now c.in_ok-new.new c.in_ok-rows.rows (c.in_ok-new.ensures ∙ all) c.in_ok-rows.ensures
