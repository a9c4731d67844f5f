use Rattle.std.proofs.Common.{◌≡◌, [], ◌++◌, map, vec_len}
use Rattle.turn_lock.specs.declared.view.Turn.TheVariants.{Away}
use Rattle.turn_lock.specs.History.{AllGrow}
use Rattle.turn_lock.specs.Rule.{Each}
use Rattle.turn_lock.specs.Seats.{IsSeat, Rests, known}
use Rattle.turn_lock.proofs.steps.gather.Given as goal

abbrev pub invariant-passes : goal.invariant-passes
invariant-passes g l =
    let t = g.T.Counted in
    let o = t.opening l.top.key.value in
    record {
      each : Each (Rests t.is_right l.top.table_id o) l.passes.items;
      last : IsSeat t.is_right l.top.table_id o l.last.me.0.kept Away [] l.last;
      same : known l.last ≡ known l.initial.last;
      grown : AllGrow (map known l.initial.passes.items) (map known l.passes.items ++ l.last.me.0.kept);
    }

abbrev pub decreases-passes : goal.decreases-passes
decreases-passes g l = vec_len l.passes
