use Rattle.std.proofs.Common.{◌≡◌, ◌∙◌, ◌-◌, ◌%◌, ◌<◌, ap, arith, get_or, length, refl, subst, sym, mod-lt}
use Rattle.std.specs.Prelude.{slice_set}
use Rattle.std.proofs.lemmas.List.{get_or_default, length-set, take_all}
use Rattle.ledger_shared.specs.declared.workers.Desk.{Desk}
use Rattle.ledger_shared.specs.Sessions.{job_count}
use Rattle.ledger_shared.proofs.Merged.{Moving, count_step, enough_step, moving_first, moving_last, moving_step, workers_step}
use Rattle.ledger_shared.proofs.merging.merge.Goals as goal

pub sessions-init : goal.sessions-init
sessions-init g c = record {
  low = omega arith;
  long = refl;
  workers = λ i d low. refl;
  room =
      omega (
        arith,
        c.requires.room,
        ap length c.requires.empty,
        ap job_count (take_all (length c.args.script.now) c.args.script.now (omega arith)),
      );
  moving = λ all h. moving_first c.args.script.now c.args.desks.now c.args.outcomes.now.items all c.requires.empty h;
}

pub move_last-requires-clause-count : goal.move_last-requires-clause-count
move_last-requires-clause-count g c =
    let inv = c.sessions.invariant in
    let jobs = c.index-script-left.result in
    let dealt = c.requires.dealt in
    let enough =
    enough_step c.sessions.left c.args.script.now c.sessions.desks jobs c.sessions-test.true inv.low c.index-script-left.is
    (omega (arith, c.requires.some, inv.long)) c.sessions.outcomes.items dealt.0 (inv.moving dealt.0 dealt.1) c.index-desks-at.result in
    let desk = get_or c.sessions.desks ((c.sessions.left - 1) % length c.sessions.desks) c.index-desks-at.result in
    omega (arith, enough, c.len.ensures, desk.outcomes.ok.0)

pub move_last-requires-clause-room : goal.move_last-requires-clause-room
move_last-requires-clause-room g c =
    let inv = c.sessions.invariant in
    let count =
    count_step c.sessions.left c.args.script.now c.sessions.desks c.index-script-left.result c.sessions-test.true inv.low c.index-script-left.is in
    omega (arith, inv.room, count, c.len.ensures)

pub sessions-preserved : goal.sessions-preserved
sessions-preserved g c =
    let inv = c.sessions.invariant in
    let script = c.args.script.now in
    let desks = c.sessions.desks in
    let left = c.sessions.left in
    let jobs = c.index-script-left.result in
    let took = c.move_last.ensures.moved in
    let some : 0 < length desks = omega (arith, c.requires.some, inv.long) in
    let at = (left - 1) % length desks in
    let at_low : at < length desks = mod-lt (left - 1) some in
    let before = c.index-desks-at.result in
    let desk = record (get_or desks at before) { outcomes = c.move_last.new.from } in
    let count = count_step left script desks jobs c.sessions-test.true inv.low c.index-script-left.is in
    record {
      low = omega (arith, inv.low, c.sessions-test.true);
      long = length-set desks at desk ∙ inv.long;
      workers = λ i d low. workers_step desks at desk at_low (λ e. ap (λ (x : Desk _ _ _). x.worker) (get_or_default desks at before e at_low)) i d ∙ inv.workers i d low;
      room = omega (arith, inv.room, count, c.len.ensures, c.move_last.ensures.len, c.move_last.ensures.room);
      moving = λ all h.
          subst (λ l. Moving (left - 1) script (slice_set desks at desk) l all) (sym took.2)
          (moving_step left script desks jobs c.sessions-test.true inv.low c.index-script-left.is some c.sessions.outcomes.items all (inv.moving all h) desk took.0
          (took.1 ∙ c.len.ensures) (λ d. took.3 ∙ ap (λ (x : Desk _ _ _). x.outcomes.items) (get_or_default desks at before d at_low)));
    }

pub returns-clause-merged : goal.returns-clause-merged
returns-clause-merged g c all h =
    let none : c.sessions.left ≡ 0 = omega (arith, c.sessions-test.false) in
    c.reverse.ensures.items
    ∙ moving_last c.args.script.now c.sessions.desks c.sessions.outcomes.items all
    (subst (λ k. Moving k c.args.script.now c.sessions.desks c.sessions.outcomes.items all) none (c.sessions.invariant.moving all h))
