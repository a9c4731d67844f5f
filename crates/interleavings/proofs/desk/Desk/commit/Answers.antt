use Rattle.std.proofs.Common.{◌≡◌}
use Rattle.std.proofs.lemmas.Result.{IfOk-weaker}
use Rattle.interleavings.specs.Lines as line
use Rattle.interleavings.specs.Desks.{AreOpen, Commits, named}
use Rattle.interleavings.proofs.Answered.{closes, commits_nothing}
use Rattle.interleavings.proofs.Lists.{committed_open, left_open, named_open}
use Rattle.interleavings.proofs.desk.Desk.commit.Goals as goal

pub commit-committed-requires : goal.commit-committed-requires
commit-committed-requires c =
    let desk = c.args.self.now in
    named_open desk.tail.standing c.args.name.now desk.transactions.items c.in-Some.txn c.in-Some.ensures.found c.requires

pub returns-clause-sound : goal.returns-clause-sound
returns-clause-sound c =
    let desk = c.args.self.now in
    committed_open desk.tail.standing c.commit-committed.new.self.standing c.args.name.now desk.transactions.items c.take_named.new.list.items c.in-Some.txn
    c.in-Some.ensures.found c.take_named.ensures.rest c.commit-committed.ensures.still c.requires

pub returns-clause-answers : goal.returns-clause-answers
returns-clause-answers c =
    let desk = c.args.self.now in
    let done = c.commit-committed in
    closes desk.tail done.new.self desk.transactions.items c.take_named.new.list.items c.args.name.now c.args.digest c.in-Some.txn c.in_ok-digest.digest
    c.in_ok-footprint.footprint c.in_ok-said.said done.result c.in-Some.ensures.found c.take_named.ensures.rest c.in_ok-digest.ensures c.in_ok-footprint.ensures
    done.ensures.commits.ends c.in_ok-said.ensures.served c.in_ok-said.ensures.said

pub returns-in_default-clause-sound : goal.returns-in_default-clause-sound
returns-in_default-clause-sound c =
    let desk = c.args.self.now in
    IfOk-weaker c.nothing_line.result (λ said. said ≡ line.nothing c.args.name.now) (λ said. AreOpen desk.tail.standing c.take_named.new.list.items)
    (λ said says. left_open desk.tail.standing c.args.name.now desk.transactions.items c.take_named.new.list.items c.take_named.ensures.rest c.requires)
    c.nothing_line.ensures

pub returns-in_default-clause-answers : goal.returns-in_default-clause-answers
returns-in_default-clause-answers c =
    let desk = c.args.self.now in
    let xs = desk.transactions.items in
    let left = c.take_named.new.list.items in
    IfOk-weaker c.nothing_line.result (λ said. said ≡ line.nothing c.args.name.now)
    (λ said. Commits (named c.args.name.now xs) desk.tail xs c.args.name.now c.args.digest said desk.tail left)
    (λ said says. commits_nothing desk.tail xs left c.args.name.now c.args.digest said c.in_default.ensures.found c.take_named.ensures.rest says)
    c.nothing_line.ensures
