use Rattle.std.proofs.Common.{◌∙◌, [], length, sym, ap, subst, arith}
use Rattle.std.specs.Prelude.{slice_get}
use Rattle.pmap.specs.Pairs.{Ascends}
use Rattle.pmap.specs.Levels.{pairs_in}
use Rattle.pmap.proofs.Cuts.{length_parts}
use Rattle.pmap.proofs.InRows.{ascends_in, begin_leaves, begin_middles, leaves_of, rows_ascend, size_of}
use Rattle.pmap.proofs.Spans.{started_by}
use Rattle.pmap.proofs.range.started.Goals as goal

pub row_for-up-requires-clause-ascending : goal.row_for-up-requires-clause-ascending
row_for-up-requires-clause-ascending g c =
    let order = g.K.Keyed.order in
    let met = g.met.K.Keyed in
    rows_ascend order met.total met.same pairs_in c.args.upper.now (begin_middles order met.total met.same c.args.upper.now c.requires.middles c.requires.leaves) c.requires.ascending

pub row_for-across-requires-clause-ascending : goal.row_for-across-requires-clause-ascending
row_for-across-requires-clause-ascending g c =
    let order = g.K.Keyed.order in
    let met = g.met.K.Keyed in
    let row = c.row_and_rest.result.0.now in
    let leaves = leaves_of order met.total met.same c.args.low.now [] c.args.upper.now c.row_for-up.result row [] [] c.requires c.row_and_rest.ensures.row in
    subst (Ascends order) (sym (c.as_slice-middle.ensures ∙ c.value.ensures))
    (rows_ascend order met.total met.same (λ leaf. leaf) row.1 (begin_leaves order met.total met.same row.1 leaves.sizes) leaves.ascending)

pub row_for-across-requires-clause-some : goal.row_for-across-requires-clause-some
row_for-across-requires-clause-some g c =
    let order = g.K.Keyed.order in
    let met = g.met.K.Keyed in
    let size = size_of order met.total met.same c.args.low.now [] c.args.upper.now c.row_for-up.result c.row_and_rest.result.0.now [] [] c.requires c.row_and_rest.ensures.row in
    omega (arith, ap length (c.as_slice-middle.ensures ∙ c.value.ensures), size.0)

pub find-place-requires : goal.find-place-requires
find-place-requires g c =
    let order = g.K.Keyed.order in
    let met = g.met.K.Keyed in
    let above = c.row_and_rest.result.0.now in
    let row = c.row_and_rest-2.result.0.now in
    let leaves = leaves_of order met.total met.same c.args.low.now [] c.args.upper.now c.row_for-up.result above [] [] c.requires c.row_and_rest.ensures.row in
    let at = sym (ap (λ rows. slice_get rows c.row_for-across.result) (c.as_slice-middle.ensures ∙ c.value.ensures)) ∙ c.row_and_rest-2.ensures.row in
    subst (Ascends order) (sym (c.as_slice-leaf.ensures ∙ c.value-2.ensures))
    (ascends_in order met.total met.same (λ leaf. leaf) above.1 c.row_for-across.result row leaves.ascending at)

pub split_at-requires : goal.split_at-requires
split_at-requires g c =
    let met = g.met.K.Keyed in
    omega (arith, c.find-place.ensures.place.lesser, length_parts g.K.Keyed.order met.total met.same c.args.low.now c.as_slice-leaf.result.now)

pub returns : goal.returns
returns g c =
    let order = g.K.Keyed.order in
    let met = g.met.K.Keyed in
    started_by order met.total met.same c.args.low.now c.args.upper.now c.row_and_rest.result.1.now c.row_for-up.result c.row_and_rest.result.0.now
    c.as_slice-middle.result.now c.row_and_rest-2.result.1.now c.row_for-across.result c.row_and_rest-2.result.0.now c.as_slice-leaf.result.now
    c.split_at.result.1.now c.find-place.result.at c.find-place.result.is_there c.requires c.row_and_rest.ensures.row c.row_and_rest.ensures.rest
    c.row_for-up.ensures.row (c.as_slice-middle.ensures ∙ c.value.ensures) c.row_and_rest-2.ensures.row c.row_and_rest-2.ensures.rest
    c.row_for-across.ensures.row (c.as_slice-leaf.ensures ∙ c.value-2.ensures) c.find-place.ensures.place c.split_at.ensures.back
