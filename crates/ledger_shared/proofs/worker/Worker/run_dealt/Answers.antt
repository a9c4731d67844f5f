use Rattle.std.proofs.Common.{◌∙◌, ◌+◌, ◌++◌, List, ap, length, drop, subst, refl, arith}
use Rattle.ledger_model.specs.Script.{Placed, all_placed_from, placed_from}
use Rattle.ledger_shared.specs.Behind.{opening_of}
use Rattle.ledger_shared.specs.Sessions.{HasServed, Serves, course, dealt_jobs}
use Rattle.ledger_shared.proofs.Serving.{count_left, sessions_done, sessions_left}
use Rattle.ledger_shared.proofs.worker.Worker.run_dealt.Goals as goal

pub sessions-init : goal.sessions-init
sessions-init g c = record {
  table = refl;
  opened = refl;
  serves = λ all more first h. h;
  room = c.requires.room;
}

pub sessions-preserved : goal.sessions-preserved
sessions-preserved g c =
    let told = g.S.JournalStore.told in
    let o = opening_of told c.args.self.now.opened in
    let now = course c.sessions.outcomes.items c.sessions.self.known in
    let next = course c.run_if_dealt.new.outcomes.items c.run_if_dealt.new.self.known in
    let jobs = c.index-script-at.result in
    let some = dealt_jobs c.args.share.workers c.args.share.rest (placed_from (c.sessions.at + 1) 1 jobs) in
    let lent = dealt_jobs c.args.share.workers c.args.share.rest (placed_from (c.sessions.at + 1) 1 c.as_slice.result.now) in
    let of_lent : Serves o lent now next = subst (λ t. Serves (opening_of told t) lent now next) c.sessions.invariant.opened c.run_if_dealt.ensures.serves in
    let served : Serves o some now next =
    subst (λ js. Serves o (dealt_jobs c.args.share.workers c.args.share.rest (placed_from (c.sessions.at + 1) 1 js)) now next) c.as_slice.ensures of_lent in
    let lent_length = ap (λ js. length (dealt_jobs c.args.share.workers c.args.share.rest (placed_from (c.sessions.at + 1) 1 js))) c.as_slice.ensures in
    record {
      table = c.run_if_dealt.ensures.table ∙ c.sessions.invariant.table;
      opened = c.run_if_dealt.ensures.opened ∙ c.sessions.invariant.opened;
      serves = λ all more first h.
          served all (dealt_jobs c.args.share.workers c.args.share.rest (all_placed_from (1 + (c.sessions.at + 1)) (drop (c.sessions.at + 1) c.args.script.now)) ++ more) first
          (subst (λ (left : List Placed). HasServed o all left first now)
          (sessions_left c.args.share.workers c.args.share.rest c.sessions.at c.args.script.now jobs more c.sessions-test.true c.index-script-at.is)
          (c.sessions.invariant.serves all more first h));
      room = omega (
        arith,
        c.sessions.invariant.room,
        c.run_if_dealt.ensures.all,
        c.run_if_dealt.ensures.room,
        lent_length,
        count_left c.args.share.workers c.args.share.rest c.sessions.at c.args.script.now jobs c.sessions-test.true c.index-script-at.is,
      );
    }

pub run_if_dealt-requires-clause-room : goal.run_if_dealt-requires-clause-room
run_if_dealt-requires-clause-room g c =
    let jobs = c.index-script-at.result in
    omega (
      arith,
      c.sessions.invariant.room,
      ap (λ js. length (dealt_jobs c.args.share.workers c.args.share.rest (placed_from (c.sessions.at + 1) 1 js))) c.as_slice.ensures,
      count_left c.args.share.workers c.args.share.rest c.sessions.at c.args.script.now jobs c.sessions-test.true c.index-script-at.is,
    )

pub returns-clause-serves : goal.returns-clause-serves
returns-clause-serves g c all more first h =
    let o = opening_of g.S.JournalStore.told c.args.self.now.opened in
    let now = course c.sessions.outcomes.items c.sessions.self.known in
    subst (λ (left : List Placed). HasServed o all left first now)
    (sessions_done c.args.share.workers c.args.share.rest c.sessions.at c.args.script.now more c.sessions-test.false)
    (c.sessions.invariant.serves all more first h)
