use Rattle.std.proofs.Common.{◌≡◌, suc, ◌+◌, [], ◌++◌, take, drop, length, sym, ap, ◌∙◌, subst, arith}
use Rattle.std.specs.Option.{option_copied}
use Rattle.std.proofs.lemmas.Option.{none-some}
use Rattle.pmap.specs.Levels.{pairs_in, AreLeaves, IsChangedMiddle}
use Rattle.pmap.proofs.InRows.{begin_middles, get_of, leaves_of, rows_ascend, size_of, upper_changed}
use Rattle.pmap.proofs.levels.rows_with.Goals as goal

pub row_for-at-requires-clause-ascending : goal.row_for-at-requires-clause-ascending
row_for-at-requires-clause-ascending g c =
    let order = g.K.Keyed.order in
    let met = g.met.K.Keyed in
    let levels = c.requires.levels in
    rows_ascend order met.total met.same pairs_in c.args.upper.now (begin_middles order met.total met.same c.args.upper.now levels.middles levels.leaves) levels.ascending

pub unreachable-requires : goal.unreachable-requires
unreachable-requires g c =
    let row = get_of c.args.upper.now c.row_for-at.result c.row_for-at.ensures.row.within in
    none-some row.0 (sym (ap option_copied c.in_default.is) ∙ c.member.ensures ∙ row.1)

pub middle_with-requires-clause-leaves : goal.middle_with-requires-clause-leaves
middle_with-requires-clause-leaves g c =
    let met = g.met.K.Keyed in
    let middle = c.as_slice.ensures ∙ c.value.ensures ∙ ap (λ r. r.1) c.get.ensures in
    subst (AreLeaves g.K.Keyed.order) (sym middle)
    (leaves_of g.K.Keyed.order met.total met.same c.args.key.now [] c.args.upper.now c.row_for-at.result c.in-Some.row.now [] [] c.requires.levels (sym c.in-Some.ensures))

pub middle_with-requires-clause-some : goal.middle_with-requires-clause-some
middle_with-requires-clause-some g c =
    let met = g.met.K.Keyed in
    let middle = c.as_slice.ensures ∙ c.value.ensures ∙ ap (λ r. r.1) c.get.ensures in
    let size = size_of g.K.Keyed.order met.total met.same c.args.key.now [] c.args.upper.now c.row_for-at.result c.in-Some.row.now [] [] c.requires.levels (sym c.in-Some.ensures) in
    omega (arith, ap length middle, size.0)

pub middle_with-requires-clause-size : goal.middle_with-requires-clause-size
middle_with-requires-clause-size g c =
    let met = g.met.K.Keyed in
    let middle = c.as_slice.ensures ∙ c.value.ensures ∙ ap (λ r. r.1) c.get.ensures in
    let size = size_of g.K.Keyed.order met.total met.same c.args.key.now [] c.args.upper.now c.row_for-at.result c.in-Some.row.now [] [] c.requires.levels (sym c.in-Some.ensures) in
    omega (arith, ap length middle, size.1)

pub returns : goal.returns
returns g c =
    let order = g.K.Keyed.order in
    let met = g.met.K.Keyed in
    let at = c.row_for-at.result in
    let upper = c.args.upper.now in
    let middle = c.as_slice.ensures ∙ c.value.ensures ∙ ap (λ r. r.1) c.get.ensures in
    let changed = subst (λ m. IsChangedMiddle order c.args.key.now c.args.put.now m c.in_ok-middles.middles) middle c.in_ok-middles.ensures in
    let next : at + 1 ≡ suc at = omega arith in
    let spliced = c.in_ok-new.ensures ∙ (λ i. (take at upper ++ c.as_slice-2.ensures i) ++ drop (next i) upper) in
    upper_changed order met.total met.same c.args.key.now c.args.put.now upper at c.in-Some.row.now
    c.in_ok-middles.middles c.in_ok-new.new c.requires.levels (sym c.in-Some.ensures) c.requires.put c.row_for-at.ensures.row changed spliced
