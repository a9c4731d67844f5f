use Rattle.std.proofs.Common.{◌≡◌, ap, ◌∙◌, refl, sym, subst, arith, rules, List, [], ◌∷◌, Some, IsSome, get_or, false}
use Rattle.std.specs.Mem.Slots.{slots_filled}
use Rattle.turn_lock.proofs.Passes.{taken_out, emptied}
use Rattle.turn_lock.proofs.steps.take_out.Goals as goal

pub take-requires : goal.take-requires
take-requires g c =
    let closed = c.close_with-closed.ensures in
    (omega (arith, closed.counts, c.requires.sized), closed.values.1 0 (omega arith) (omega (arith, closed.counts, c.requires.sized)))

pub unwrap-state-requires : goal.unwrap-state-requires
unwrap-state-requires g c =
    let t = g.T.Counted in
    let pass = c.args.pass in
    let r = taken_out t.opening t.entries t.is_right t.opens t.uses (t.opening c.args.table.shared.key.value) pass.id pass.me.0 pass.me.0.me pass.me.0.kept _ _ c.take.result c.requires.pass.shows c.close_with-closed.ensures.values.2 c.take.ensures.value in
    subst (λ x. IsSome x) (sym r.1) refl

pub free-requires : goal.free-requires
free-requires g c k lt = ap (λ row. get_or row k false) c.take.ensures.others.1 ∙ emptied (slots_filled c.close_with-closed.result.slots) k (omega (arith, lt, c.take.ensures.others.2, c.close_with-closed.ensures.counts, c.requires.sized))

pub returns-clause-opening : goal.returns-clause-opening
returns-clause-opening g c =
    let t = g.T.Counted in
    let pass = c.args.pass in
    let r = taken_out t.opening t.entries t.is_right t.opens t.uses (t.opening c.args.table.shared.key.value) pass.id pass.me.0 pass.me.0.me pass.me.0.kept _ _ c.take.result c.requires.pass.shows c.close_with-closed.ensures.values.2 c.take.ensures.value in
    let same : r.0 ≡ c.unwrap-state.result = cc (r.1, c.unwrap-state.ensures) in
    ap t.opening (sym same) ∙ r.2

pub returns-clause-entries : goal.returns-clause-entries
returns-clause-entries g c =
    let t = g.T.Counted in
    let pass = c.args.pass in
    let r = taken_out t.opening t.entries t.is_right t.opens t.uses (t.opening c.args.table.shared.key.value) pass.id pass.me.0 pass.me.0.me pass.me.0.kept _ _ c.take.result c.requires.pass.shows c.close_with-closed.ensures.values.2 c.take.ensures.value in
    let same : r.0 ≡ c.unwrap-state.result = cc (r.1, c.unwrap-state.ensures) in
    ap t.entries (sym same) ∙ r.3
