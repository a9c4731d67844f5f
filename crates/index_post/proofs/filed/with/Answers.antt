use Rattle.std.proofs.Common.{ap, ◌∙◌}
use Rattle.std.specs.Ordering.{nat_cmp}
use Rattle.std.specs.BTreeMap.{insert_entry}
use Rattle.index_post.specs.Positions.{set_at}
use Rattle.index_post.proofs.Sets.{put_under}
use Rattle.index_post.proofs.filed.with.Goals as goal

pub returns : goal.returns
returns g c =
    let order = g.K.Keyed.order in
    let met = g.met.K.Keyed in
    put_under order met.total met.same c.args.position c.args.sets.now c.in_ok-after.after c.args.key.value c.in_ok-set.set
    (c.in_ok-after.ensures ∙ ap (insert_entry order c.args.sets.now c.args.key.value) c.in_ok-own.ensures.ok)
    (c.in_ok-set.ensures ∙ ap (λ k. insert_entry nat_cmp (set_at order c.args.sets.now k) c.args.position c.args.position) c.deref.ensures)
