use Rattle.std.proofs.Common.{◌≡◌, None, sym, ap, subst, ◌∙◌}
use Rattle.std.specs.Map.{lookup, remove_entry}
use Rattle.std.specs.BTreeMap.{insert_entry, is_at}
use Rattle.index_post.proofs.Sets.{taken_from, taken_last, taken_nowhere}
use Rattle.index_post.proofs.filed.without.Goals as goal

pub returns-in_default : goal.returns-in_default
returns-in_default g c =
    let order = g.K.Keyed.order in
    let met = g.met.K.Keyed in
    taken_nowhere order met.total met.same c.args.position c.args.sets.now c.args.key.value c.in_ok-after.after c.in_ok-after.ensures
    (c.in_default.ensures.value ∙ ap (λ k. lookup (is_at (order k)) c.args.sets.now) c.deref.ensures)

pub returns-then-len-eq0 : goal.returns-then-len-eq0
returns-then-len-eq0 g c =
    let order = g.K.Keyed.order in
    let met = g.met.K.Keyed in
    taken_last order met.total met.same c.args.position c.args.sets.now c.args.key.value c.in_ok-after-2.after c.in_ok-set.set c.in-Some.set.now
    (c.in-Some.ensures.value ∙ ap (λ k. lookup (is_at (order k)) c.args.sets.now) c.deref.ensures)
    c.in_ok-set.ensures.rest (sym c.len.ensures ∙ c.if-len-eq0.true)
    (c.in_ok-after-2.ensures.rest ∙ ap (λ k. remove_entry (is_at (order k)) c.args.sets.now) c.deref-then-len-eq0.ensures)
    (ap (λ k. lookup (is_at (order k)) c.in_ok-after-2.after) (sym c.deref-then-len-eq0.ensures) ∙ c.in_ok-after-2.ensures.gone)

pub returns : goal.returns
returns g c =
    let order = g.K.Keyed.order in
    let met = g.met.K.Keyed in
    taken_from order met.total met.same c.args.position c.args.sets.now c.args.key.value c.in_ok-after-3.after c.in_ok-set.set c.in-Some.set.now
    (c.in-Some.ensures.value ∙ ap (λ k. lookup (is_at (order k)) c.args.sets.now) c.deref.ensures)
    c.in_ok-set.ensures.rest (c.in_ok-after-3.ensures ∙ ap (insert_entry order c.args.sets.now c.args.key.value) c.in_ok-own.ensures.ok)
