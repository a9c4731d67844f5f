use Rattle.std.proofs.Common.{◌++◌, List, arith, subst, sym}
use Rattle.ledger_model.specs.Script.{Placed}
use Rattle.ledger_shared.specs.Behind.{opening_of}
use Rattle.ledger_shared.specs.Sessions.{HasServed, Serves, course}
use Rattle.ledger_shared.proofs.Serving.{count_all, count_none, dealt_all, dealt_none}
use Rattle.ledger_shared.proofs.worker.Worker.run_if_dealt.Goals as goal

pub returns-then-session-share-clause-serves : goal.returns-then-session-share-clause-serves
returns-then-session-share-clause-serves g c =
    let o = opening_of g.S.JournalStore.told c.args.self.now.opened in
    let now = course c.args.outcomes.now.items c.args.self.now.known in
    let next = course c.run_session.new.outcomes.items c.run_session.new.self.known in
    subst (λ (ps : List Placed). Serves o ps now next) (sym (dealt_all c.args.share.workers c.args.share.rest c.args.session 1 c.args.jobs.now c.if-session-share.true))
    c.run_session.ensures.serves

pub returns-else-session-share-clause-serves : goal.returns-else-session-share-clause-serves
returns-else-session-share-clause-serves g c all more first h =
    let o = opening_of g.S.JournalStore.told c.args.self.now.opened in
    let now = course c.args.outcomes.now.items c.args.self.now.known in
    subst (λ (ps : List Placed). HasServed o all (ps ++ more) first now) (dealt_none c.args.share.workers c.args.share.rest c.args.session 1 c.args.jobs.now c.if-session-share.false) h

pub run_session-requires-clause-room : goal.run_session-requires-clause-room
run_session-requires-clause-room g c =
    omega (arith, c.requires.room, count_all c.args.share.workers c.args.share.rest c.args.session c.args.jobs.now c.if-session-share.true)

pub returns-then-session-share-clause-all : goal.returns-then-session-share-clause-all
returns-then-session-share-clause-all g c =
    omega (arith, c.run_session.ensures.all, count_all c.args.share.workers c.args.share.rest c.args.session c.args.jobs.now c.if-session-share.true)

pub returns-else-session-share-clause-all : goal.returns-else-session-share-clause-all
returns-else-session-share-clause-all g c =
    omega (arith, count_none c.args.share.workers c.args.share.rest c.args.session c.args.jobs.now c.if-session-share.false)
