use Rattle.std.proofs.Common.{sym, ap, ◌∙◌, subst, arith}
use Rattle.std.specs.Option.{option_copied}
use Rattle.std.proofs.lemmas.Option.{none-some}
use Rattle.pmap.specs.Pairs.{Ascends, cut_at}
use Rattle.std.proofs.Common.{length}
use Rattle.pmap.proofs.InRows.{ascends_in, begin_leaves, cut_row, get_of, members_few, rows_ascend, rows_few}
use Rattle.pmap.proofs.levels.value_under.Goals as goal

pub unreachable-requires : goal.unreachable-requires
unreachable-requires g c =
    let row = get_of c.args.middle.now c.row_for-at.result c.row_for-at.ensures.row.within in
    none-some row.0 (sym (ap option_copied c.in_default.is) ∙ c.member.ensures ∙ row.1)

pub value_in-requires : goal.value_in-requires
value_in-requires g c =
    let met = g.met.K.Keyed in
    let leaf = c.as_slice.ensures ∙ c.value.ensures ∙ ap (λ r. r.1) c.get.ensures in
    subst (Ascends g.K.Keyed.order) (sym leaf)
    (ascends_in g.K.Keyed.order met.total met.same (λ leaf. leaf) c.args.middle.now c.row_for-at.result c.in-Some.row.now c.requires.leaves.ascending (sym c.in-Some.ensures))

pub returns-clause-value : goal.returns-clause-value
returns-clause-value g c =
    let order = g.K.Keyed.order in
    let met = g.met.K.Keyed in
    let row = c.row_for-at.ensures.row in
    let found = sym c.in-Some.ensures in
    let leaf = c.as_slice.ensures ∙ c.value.ensures ∙ ap (λ r. r.1) c.get.ensures in
    c.value_in.ensures.value ∙ ap (λ l. (cut_at order c.args.key.now l).1) leaf
    ∙ sym (ap (λ cut. cut.1) (cut_row order met.total met.same (λ leaf. leaf) c.args.key.now c.args.middle.now c.row_for-at.result c.in-Some.row.now
    (begin_leaves order met.total met.same c.args.middle.now c.requires.leaves.sizes) c.requires.leaves.ascending found (row.begins c.in-Some.row.now found) row.next))

pub returns-clause-counted : goal.returns-clause-counted
returns-clause-counted g c d few =
    let order = g.K.Keyed.order in
    let met = g.met.K.Keyed in
    let leaf = c.as_slice.ensures ∙ c.value.ensures ∙ ap (λ r. r.1) c.get.ensures in
    let rows = rows_few order met.total met.same (λ leaf. leaf) c.args.middle.now (begin_leaves order met.total met.same c.args.middle.now c.requires.leaves.sizes) in
    let members = members_few order met.total met.same (λ leaf. leaf) c.args.middle.now c.row_for-at.result c.in-Some.row.now (sym c.in-Some.ensures) in
    omega (arith, c.row_for-at.ensures.counted d (omega (arith, rows, few)), c.value_in.ensures.counted d (omega (arith, members, ap length leaf, few)))

pub row_for-at-requires-clause-ascending : goal.row_for-at-requires-clause-ascending
row_for-at-requires-clause-ascending g c =
    let order = g.K.Keyed.order in
    let met = g.met.K.Keyed in
    rows_ascend order met.total met.same (λ leaf. leaf) c.args.middle.now (begin_leaves order met.total met.same c.args.middle.now c.requires.leaves.sizes) c.requires.leaves.ascending
