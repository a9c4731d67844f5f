use Rattle.std.proofs.Common.{[], length, sym, ap, ◌∙◌, subst, arith}
use Rattle.std.specs.Option.{option_copied}
use Rattle.std.proofs.lemmas.Option.{none-some}
use Rattle.pmap.specs.Pairs.{cut_at}
use Rattle.pmap.specs.Levels.{pairs_in, AreLeaves}
use Rattle.pmap.proofs.InRows.{begin_middles, cut_row, get_of, leaves_of, members_few, rows_ascend, rows_few, size_of}
use Rattle.pmap.proofs.levels.value_of.Goals as goal

pub unreachable-requires : goal.unreachable-requires
unreachable-requires g c =
    let row = get_of c.args.upper.now c.row_for-at.result c.row_for-at.ensures.row.within in
    none-some row.0 (sym (ap option_copied c.in_default.is) ∙ c.member.ensures ∙ row.1)

pub value_under-requires-clause-leaves : goal.value_under-requires-clause-leaves
value_under-requires-clause-leaves g c =
    let met = g.met.K.Keyed in
    let middle = c.as_slice.ensures ∙ c.value.ensures ∙ ap (λ r. r.1) c.get.ensures in
    subst (AreLeaves g.K.Keyed.order) (sym middle)
    (leaves_of g.K.Keyed.order met.total met.same c.args.key.now [] c.args.upper.now c.row_for-at.result c.in-Some.row.now [] [] c.requires (sym c.in-Some.ensures))

pub value_under-requires-clause-some : goal.value_under-requires-clause-some
value_under-requires-clause-some g c =
    let met = g.met.K.Keyed in
    let middle = c.as_slice.ensures ∙ c.value.ensures ∙ ap (λ r. r.1) c.get.ensures in
    let size = size_of g.K.Keyed.order met.total met.same c.args.key.now [] c.args.upper.now c.row_for-at.result c.in-Some.row.now [] [] c.requires (sym c.in-Some.ensures) in
    omega (arith, ap length middle, size.0)

pub returns-clause-value : goal.returns-clause-value
returns-clause-value g c =
    let order = g.K.Keyed.order in
    let met = g.met.K.Keyed in
    let row = c.row_for-at.ensures.row in
    let found = sym c.in-Some.ensures in
    let middle = c.as_slice.ensures ∙ c.value.ensures ∙ ap (λ r. r.1) c.get.ensures in
    c.value_under.ensures.value ∙ ap (λ m. (cut_at order c.args.key.now (pairs_in m)).1) middle
    ∙ sym (ap (λ cut. cut.1) (cut_row order met.total met.same pairs_in c.args.key.now c.args.upper.now c.row_for-at.result c.in-Some.row.now
    (begin_middles order met.total met.same c.args.upper.now c.requires.middles c.requires.leaves) c.requires.ascending found (row.begins c.in-Some.row.now found) row.next))

pub returns-clause-counted : goal.returns-clause-counted
returns-clause-counted g c d few =
    let order = g.K.Keyed.order in
    let met = g.met.K.Keyed in
    let middle = c.as_slice.ensures ∙ c.value.ensures ∙ ap (λ r. r.1) c.get.ensures in
    let rows = rows_few order met.total met.same pairs_in c.args.upper.now (begin_middles order met.total met.same c.args.upper.now c.requires.middles c.requires.leaves) in
    let members = members_few order met.total met.same pairs_in c.args.upper.now c.row_for-at.result c.in-Some.row.now (sym c.in-Some.ensures) in
    omega (arith, c.row_for-at.ensures.counted d (omega (arith, rows, few)), c.value_under.ensures.counted d (omega (arith, members, ap (λ m. length (pairs_in m)) middle, few)))

pub row_for-at-requires-clause-ascending : goal.row_for-at-requires-clause-ascending
row_for-at-requires-clause-ascending g c =
    let order = g.K.Keyed.order in
    let met = g.met.K.Keyed in
    rows_ascend order met.total met.same pairs_in c.args.upper.now (begin_middles order met.total met.same c.args.upper.now c.requires.middles c.requires.leaves) c.requires.ascending
