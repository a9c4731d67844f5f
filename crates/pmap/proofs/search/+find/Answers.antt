use Rattle.std.proofs.Common.{◌+◌, length, refl, sym, ap, ◌∙◌, arith, length-append}
use Rattle.pmap.proofs.Cuts.{place_before, place_at, place_behind, ascends_front, ascends_back, length_parts, counted_more}
use Rattle.pmap.proofs.search.+find.Goals as goal

pub find-requires : goal.find-requires
find-requires g t c κs within =
    let order = g.K.Keyed.order in
    let met = g.met.K.Keyed in
    let whole = c.split_at.ensures.by_index.0 in
    let rest = c.in-Some.ensures.cases.0 in
    let halves = ap length whole ∙ length-append c.split_at.result.0.now c.split_at.result.1.now in
    (omega (arith, halves, ap length rest), (within.0, (within.1, ascends_front order met.total met.same c.args.row.now c.split_at.result.0.now c.split_at.result.1.now whole c.requires)))

pub find-place-requires : goal.find-place-requires
find-place-requires g t c κs within =
    let order = g.K.Keyed.order in
    let met = g.met.K.Keyed in
    let whole = c.split_at.ensures.by_index.0 in
    let rest = c.in-Some.ensures.cases.0 in
    let halves = ap length whole ∙ length-append c.split_at.result.0.now c.split_at.result.1.now in
    (omega (arith, halves, ap length rest), (within.0, (within.1, ascends_back order met.total met.same c.args.row.now c.split_at.result.0.now c.split_at.result.1.now c.in-Some.middle.now c.in-Some.back.now whole rest c.requires)))

pub overflow_add-result-in-Greater : goal.overflow_add-result-in-Greater
overflow_add-result-in-Greater g t c =
    let met = g.met.K.Keyed in
    omega (arith, c.find-place.ensures.place.lesser, length_parts g.K.Keyed.order met.total met.same c.args.key.now c.in-Some.back.now, ap length c.in-Some.ensures.cases.0)

pub returns-in-Less-clause-place : goal.returns-in-Less-clause-place
returns-in-Less-clause-place g t c =
    let order = g.K.Keyed.order in
    let met = g.met.K.Keyed in
    let first = c.key.ensures ∙ ap (λ p. p.0) c.get.ensures in
    place_before order met.total met.same c.args.key.now c.args.row.now c.split_at.result.0.now c.split_at.result.1.now c.in-Some.middle.now c.in-Some.back.now
    c.find.result.at c.find.result.is_there c.split_at.ensures.by_index.0 c.in-Some.ensures.cases.0
    (ap (order c.args.key.now) (sym first) ∙ sym c.in-Less.ensures.answer) c.find.ensures.place

pub returns-in-Less-clause-counted : goal.returns-in-Less-clause-counted
returns-in-Less-clause-counted g t c d few =
    let halves = ap length c.split_at.ensures.by_index.0 ∙ length-append c.split_at.result.0.now c.split_at.result.1.now in
    counted_more c.args.steps.now.taken c.against.new.steps.taken c.find.new.steps.taken (length c.args.row.now) (length c.split_at.result.0.now) d
    (omega (arith, c.against.ensures.counted)) (λ e. c.find.ensures.counted e) (omega (arith, halves, ap length c.in-Some.ensures.cases.0))
    (omega (arith, c.split_at.ensures.front_len)) few

pub returns-in-Equal-clause-place : goal.returns-in-Equal-clause-place
returns-in-Equal-clause-place g t c =
    let order = g.K.Keyed.order in
    let met = g.met.K.Keyed in
    let first = c.key.ensures ∙ ap (λ p. p.0) c.get.ensures in
    place_at order met.total met.same c.args.key.now c.args.row.now c.split_at.result.0.now c.split_at.result.1.now c.in-Some.middle.now c.in-Some.back.now
    (length c.split_at.result.0.now) c.split_at.ensures.by_index.0 c.in-Some.ensures.cases.0
    (ap (order c.args.key.now) (sym first) ∙ sym c.in-Equal.ensures.answer) c.requires refl

pub returns-in-Greater-clause-place : goal.returns-in-Greater-clause-place
returns-in-Greater-clause-place g t c =
    let order = g.K.Keyed.order in
    let met = g.met.K.Keyed in
    let first = c.key.ensures ∙ ap (λ p. p.0) c.get.ensures in
    place_behind order met.total met.same c.args.key.now c.args.row.now c.split_at.result.0.now c.split_at.result.1.now c.in-Some.middle.now c.in-Some.back.now
    c.find-place.result.at (length c.split_at.result.0.now + 1 + c.find-place.result.at) c.find-place.result.is_there c.split_at.ensures.by_index.0
    c.in-Some.ensures.cases.0 (ap (order c.args.key.now) (sym first) ∙ sym c.in-Greater.ensures.answer) c.requires c.find-place.ensures.place refl

pub returns-in-Greater-clause-counted : goal.returns-in-Greater-clause-counted
returns-in-Greater-clause-counted g t c d few =
    let halves = ap length c.split_at.ensures.by_index.0 ∙ length-append c.split_at.result.0.now c.split_at.result.1.now in
    counted_more c.args.steps.now.taken c.against.new.steps.taken c.find-place.new.steps.taken (length c.args.row.now) (length c.in-Some.back.now) d
    (omega (arith, c.against.ensures.counted)) (λ e. c.find-place.ensures.counted e) (omega (arith, halves, ap length c.in-Some.ensures.cases.0))
    (omega (arith, c.split_at.ensures.front_len, halves, ap length c.in-Some.ensures.cases.0)) few
