use Rattle.std.proofs.Common.{◌≡◌}
use Rattle.std.proofs.lemmas.Result.{IfOk-weaker}
use Rattle.interleavings.specs.Lines as line
use Rattle.interleavings.specs.Desks.{Aborts, AreOpen, named}
use Rattle.interleavings.proofs.Answered.{aborts_nothing, drops}
use Rattle.interleavings.proofs.Lists.{left_open}
use Rattle.interleavings.proofs.desk.Desk.abort.Goals as goal

pub returns-clause-sound : goal.returns-clause-sound
returns-clause-sound c =
    let desk = c.args.self.now in
    let left = c.take_named.new.list.items in
    IfOk-weaker c.aborted_line.result (λ said. said ≡ line.aborted c.args.name.now) (λ said. AreOpen desk.tail.standing left)
    (λ said says. left_open desk.tail.standing c.args.name.now desk.transactions.items left c.take_named.ensures.rest c.requires)
    c.aborted_line.ensures

pub returns-clause-answers : goal.returns-clause-answers
returns-clause-answers c =
    let desk = c.args.self.now in
    let xs = desk.transactions.items in
    let left = c.take_named.new.list.items in
    IfOk-weaker c.aborted_line.result (λ said. said ≡ line.aborted c.args.name.now)
    (λ said. Aborts (named c.args.name.now xs) desk.tail xs c.args.name.now said desk.tail left)
    (λ said says. drops desk.tail xs left c.args.name.now _ said c.in-Some.ensures.found c.take_named.ensures.rest says)
    c.aborted_line.ensures

pub returns-in_default-clause-sound : goal.returns-in_default-clause-sound
returns-in_default-clause-sound c =
    let desk = c.args.self.now in
    let left = c.take_named.new.list.items in
    IfOk-weaker c.nothing_line.result (λ said. said ≡ line.nothing c.args.name.now) (λ said. AreOpen desk.tail.standing left)
    (λ said says. left_open desk.tail.standing c.args.name.now desk.transactions.items left c.take_named.ensures.rest c.requires)
    c.nothing_line.ensures

pub returns-in_default-clause-answers : goal.returns-in_default-clause-answers
returns-in_default-clause-answers c =
    let desk = c.args.self.now in
    let xs = desk.transactions.items in
    let left = c.take_named.new.list.items in
    IfOk-weaker c.nothing_line.result (λ said. said ≡ line.nothing c.args.name.now)
    (λ said. Aborts (named c.args.name.now xs) desk.tail xs c.args.name.now said desk.tail left)
    (λ said says. aborts_nothing desk.tail xs left c.args.name.now said c.in_default.ensures.found c.take_named.ensures.rest says)
    c.nothing_line.ensures
