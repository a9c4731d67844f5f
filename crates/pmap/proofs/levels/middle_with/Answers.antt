use Rattle.std.proofs.Common.{◌≡◌, suc, ◌+◌, ◌≤◌, ◌++◌, take, drop, length, sym, ap, ◌∙◌, subst, arith}
use Rattle.std.specs.Option.{option_copied}
use Rattle.std.proofs.lemmas.Option.{none-some}
use Rattle.pmap.specs.Pairs.{Ascends}
use Rattle.pmap.specs.Levels.{BeginsWith, IsChangedLeaf}
use Rattle.pmap.proofs.InRows.{ascends_in, begin_leaves, each_get, get_of, middle_changed, middle_is_short, rows_ascend}
use Rattle.pmap.proofs.levels.middle_with.Goals as goal

pub row_for-at-requires-clause-ascending : goal.row_for-at-requires-clause-ascending
row_for-at-requires-clause-ascending g c =
    let order = g.K.Keyed.order in
    let met = g.met.K.Keyed in
    rows_ascend order met.total met.same (λ leaf. leaf) c.args.middle.now (begin_leaves order met.total met.same c.args.middle.now c.requires.leaves.sizes) c.requires.leaves.ascending

pub unreachable-requires : goal.unreachable-requires
unreachable-requires g c =
    let row = get_of c.args.middle.now c.row_for-at.result c.row_for-at.ensures.row.within in
    none-some row.0 (sym (ap option_copied c.in_default.is) ∙ c.member.ensures ∙ row.1)

pub leaf_with-requires-clause-ascending : goal.leaf_with-requires-clause-ascending
leaf_with-requires-clause-ascending g c =
    let met = g.met.K.Keyed in
    let leaf = c.as_slice.ensures ∙ c.value.ensures ∙ ap (λ r. r.1) c.get.ensures in
    subst (Ascends g.K.Keyed.order) (sym leaf)
    (ascends_in g.K.Keyed.order met.total met.same (λ leaf. leaf) c.args.middle.now c.row_for-at.result c.in-Some.row.now c.requires.leaves.ascending (sym c.in-Some.ensures))

pub leaf_with-requires-clause-size : goal.leaf_with-requires-clause-size
leaf_with-requires-clause-size g c =
    let leaf = c.as_slice.ensures ∙ c.value.ensures ∙ ap (λ r. r.1) c.get.ensures in
    let size = each_get (λ row. BeginsWith row.0 row.1 × (length row.1 ≤ 64)) c.args.middle.now c.row_for-at.result c.in-Some.row.now c.requires.leaves.sizes (sym c.in-Some.ensures) in
    omega (arith, ap length leaf, size.1)

pub parted-requires : goal.parted-requires
parted-requires g c =
    let order = g.K.Keyed.order in
    let met = g.met.K.Keyed in
    let at = c.row_for-at.result in
    let middle = c.args.middle.now in
    let leaf = c.as_slice.ensures ∙ c.value.ensures ∙ ap (λ r. r.1) c.get.ensures in
    let changed = subst (λ row. IsChangedLeaf order c.args.key.now c.args.put.now row c.in_ok-leaves.leaves) leaf c.in_ok-leaves.ensures in
    let next : at + 1 ≡ suc at = omega arith in
    let spliced = c.in_ok-new.ensures ∙ (λ i. (take at middle ++ c.as_slice-2.ensures i) ++ drop (next i) middle) in
    middle_is_short order met.total met.same c.args.key.now c.args.put.now middle at c.in-Some.row.now c.in_ok-leaves.leaves c.in_ok-new.new
    c.requires.leaves c.row_for-at.ensures.row (sym c.in-Some.ensures) changed spliced c.requires.size

pub returns : goal.returns
returns g c =
    let order = g.K.Keyed.order in
    let met = g.met.K.Keyed in
    let at = c.row_for-at.result in
    let middle = c.args.middle.now in
    let leaf = c.as_slice.ensures ∙ c.value.ensures ∙ ap (λ r. r.1) c.get.ensures in
    let changed = subst (λ row. IsChangedLeaf order c.args.key.now c.args.put.now row c.in_ok-leaves.leaves) leaf c.in_ok-leaves.ensures in
    let next : at + 1 ≡ suc at = omega arith in
    let spliced = c.in_ok-new.ensures ∙ (λ i. (take at middle ++ c.as_slice-2.ensures i) ++ drop (next i) middle) in
    middle_changed order met.total met.same c.args.key.now c.args.put.now middle at c.in-Some.row.now c.in_ok-leaves.leaves c.in_ok-new.new
    c.requires.leaves c.row_for-at.ensures.row (sym c.in-Some.ensures) changed spliced c.in_ok-rows.rows c.in_ok-rows.ensures
