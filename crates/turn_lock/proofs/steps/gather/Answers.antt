use Rattle.std.proofs.Common.{◌≡◌, ap, ◌∙◌, refl, sym, map, arith, rules, [], ◌∷◌, ◌++◌}
use Rattle.turn_lock.specs.declared.view.Turn.TheVariants.{Away}
use Rattle.turn_lock.specs.Seats.{Rests, known}
use Rattle.turn_lock.proofs.Lists.{each_front, each_last}
use Rattle.turn_lock.proofs.Growing.{grow_start, grow_step}
use Rattle.turn_lock.proofs.Passes.{at_own}
use Rattle.turn_lock.proofs.steps.gather.Goals as goal

pub passes-init : goal.passes-init
passes-init g c =
    let t = g.T.Counted in
    let o = t.opening c.args.top.now.key.value in
    record {
      each = c.requires.each;
      last = at_own t.is_right c.args.top.now.table_id o [] Away [] c.args.last.now c.requires.last;
      same = refl;
      grown = grow_start (map known c.args.passes.items) c.args.last.now.me.0.kept (ap (λ v. v.kept) c.requires.last.shows);
    }

pub visit-requires-clause-pass : goal.visit-requires-clause-pass
visit-requires-clause-pass g c =
    let t = g.T.Counted in
    let o = t.opening c.args.top.now.key.value in
    each_last (Rests t.is_right c.args.top.now.table_id o) c.pop.new.self.items c.passes.passes.items c.in-Some.pass c.in-Some.ensures.items c.passes.invariant.each

pub passes-preserved : goal.passes-preserved
passes-preserved g c =
    let t = g.T.Counted in
    let o = t.opening c.args.top.now.key.value in
    let inv = c.passes.invariant in
    let kept = c.visit.ensures.kept in
    record {
      each = each_front (Rests t.is_right c.args.top.now.table_id o) c.pop.new.self.items c.passes.passes.items c.in-Some.pass c.in-Some.ensures.items inv.each;
      last = c.visit.ensures.last;
      same = c.visit.ensures.same ∙ inv.same;
      grown = grow_step known (map known c.args.passes.items) c.pop.new.self.items c.passes.passes.items c.in-Some.pass c.passes.last.me.0.kept c.visit.new.last.me.0.kept kept.0 c.in-Some.ensures.items kept.1 kept.2 inv.grown;
    }
