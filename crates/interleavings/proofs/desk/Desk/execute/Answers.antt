use Rattle.std.proofs.Common.{◌≡◌, ℕ, List, subst}
use Rattle.std.proofs.lemmas.Result.{IfOk-weaker}
use Rattle.txn_core.specs.Opened.{Executed, asked}
use Rattle.interleavings.specs.Lines as line
use Rattle.interleavings.specs.Desks.{AreOpen, Executes, named}
use Rattle.interleavings.proofs.Answered.{does, does_nothing}
use Rattle.interleavings.proofs.Lists.{executed_apart, executed_named, left_open}
use Rattle.interleavings.proofs.desk.Desk.execute.Goals as goal

pub keep-requires-clause-sound : goal.keep-requires-clause-sound
keep-requires-clause-sound c =
    let desk = c.args.self.now in
    left_open desk.tail.standing c.args.name desk.transactions.items c.take_named.new.list.items c.take_named.ensures.rest c.requires

pub keep-requires-clause-own : goal.keep-requires-clause-own
keep-requires-clause-own c =
    let desk = c.args.self.now in
    let did = c.execute-answered in
    executed_named desk.tail.standing c.args.name desk.transactions.items c.in-Some.txn did.new.self (asked c.as_str.result.now c.args.params.now) did.result
    c.in-Some.ensures.found did.ensures c.requires

pub keep-requires-clause-another : goal.keep-requires-clause-another
keep-requires-clause-another c =
    let desk = c.args.self.now in
    let did = c.execute-answered in
    executed_apart desk.tail.standing c.args.name desk.transactions.items c.take_named.new.list.items c.in-Some.txn did.new.self
    (asked c.as_str.result.now c.args.params.now) did.result c.in-Some.ensures.found c.take_named.ensures.rest did.ensures c.requires

pub returns-clause-answers : goal.returns-clause-answers
returns-clause-answers c =
    let desk = c.args.self.now in
    let did = c.execute-answered in
    does desk.tail c.keep.new.self.tail desk.transactions.items c.take_named.new.list.items c.keep.new.self.transactions.items c.args.name c.args.text.now
    c.args.params.now c.in-Some.txn did.new.self did.result c.in_ok-said.said c.in-Some.ensures.found c.take_named.ensures.rest
    (subst (λ (text : List ℕ). Executed c.in-Some.txn (asked text c.args.params.now) did.result did.new.self) c.as_str.ensures did.ensures)
    c.in_ok-said.ensures c.in_ok-keep.ensures.tail c.in_ok-keep.ensures.kept

pub returns-in_default-clause-sound : goal.returns-in_default-clause-sound
returns-in_default-clause-sound c =
    let desk = c.args.self.now in
    IfOk-weaker c.nothing_line.result (λ said. said ≡ line.nothing c.args.name) (λ said. AreOpen desk.tail.standing c.take_named.new.list.items)
    (λ said says. left_open desk.tail.standing c.args.name desk.transactions.items c.take_named.new.list.items c.take_named.ensures.rest c.requires)
    c.nothing_line.ensures

pub returns-in_default-clause-answers : goal.returns-in_default-clause-answers
returns-in_default-clause-answers c =
    let desk = c.args.self.now in
    let xs = desk.transactions.items in
    let left = c.take_named.new.list.items in
    IfOk-weaker c.nothing_line.result (λ said. said ≡ line.nothing c.args.name)
    (λ said. Executes (named c.args.name xs) desk.tail xs c.args.name c.args.text.now c.args.params.now said desk.tail left)
    (λ said says. does_nothing desk.tail xs left c.args.name c.args.text.now c.args.params.now said c.in_default.ensures.found c.take_named.ensures.rest says)
    c.nothing_line.ensures
