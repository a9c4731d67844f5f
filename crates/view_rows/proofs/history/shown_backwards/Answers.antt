use Rattle.std.proofs.Common.{◌≡◌, ◌+◌, ◌-◌, arith}
use Rattle.versions.specs.Held.{recorded_lent, recorded_of}
use Rattle.view_rows.proofs.Shown.{next_ends, next_stands, shown_ends, shown_stands, shown_whole}
use Rattle.view_rows.proofs.history.shown_backwards.Goals as goal

pub revisions-init : goal.revisions-init
revisions-init c = record {
  within = omega (arith, c.revision_count-left.ensures);
  next = next_ends c.args.version.now.revisions c.revision_count-left.result c.new-nexts.result c.revision_count-left.ensures c.new-nexts.ensures.empty;
  shown = shown_ends c.args.table c.args.bounds.start.now c.args.bounds.end.now c.args.version.now.revisions c.revision_count-left.result c.new-shown.result c.revision_count-left.ensures
      c.new-shown.ensures;
}

pub revisions-preserved : goal.revisions-preserved
revisions-preserved c =
    let back : (c.revisions.left - 1) + 1 ≡ c.revisions.left = omega arith in
    record {
      within = omega arith;
      next = next_stands c.args.version.now.revisions c.revisions.left (c.revisions.left - 1) (recorded_of c.in-Some.recorded.now) c.revisions.nexts c.note.new.nexts back c.in-Some.ensures
          c.revisions.invariant.next c.in_ok-note.ensures;
      shown = shown_stands c.args.table c.args.bounds.start.now c.args.bounds.end.now c.args.version.now.revisions c.revisions.left (c.revisions.left - 1) (recorded_of c.in-Some.recorded.now)
          c.revisions.nexts c.next_of-next.result (recorded_lent c.revisions.shown) (recorded_lent c.keep_if.new.shown) c.is_shown-is.result back c.in-Some.ensures
          c.revisions.invariant.next c.next_of-next.ensures c.is_shown-is.ensures c.in_ok-keep_if.ensures c.revisions.invariant.shown;
    }

pub returns : goal.returns
returns c =
    shown_whole c.args.table c.args.bounds.start.now c.args.bounds.end.now c.args.version.now.revisions c.revisions.left (recorded_lent c.revisions.shown) (omega arith) c.revisions.invariant.shown
