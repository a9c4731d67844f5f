use Rattle.std.proofs.Common.{◌≡◌, ◌-◌, ◌^◌, ◌∙◌}
use Rattle.std.proofs.lemmas.Result.{IfOk-weaker}
use Rattle.interleavings.specs.Lines as line
use Rattle.interleavings.specs.Desks.{AreOpen, Begins}
use Rattle.interleavings.proofs.Answered.{opens, spent}
use Rattle.interleavings.proofs.Lists.{begun_apart, begun_left}
use Rattle.interleavings.proofs.desk.Desk.begin.Goals as goal

pub keep-requires-clause-sound : goal.keep-requires-clause-sound
keep-requires-clause-sound c =
    let desk = c.args.self.now in
    begun_left desk.tail.standing c.begin.new.self.standing c.args.name desk.transactions.items c.take_named.new.list.items c.take_named.ensures.rest
    c.in-Ok.ensures.still c.requires

pub keep-requires-clause-another : goal.keep-requires-clause-another
keep-requires-clause-another c =
    let desk = c.args.self.now in
    begun_apart desk.tail.standing c.args.place c.args.name desk.transactions.items c.take_named.new.list.items c.in-Ok.txn c.take_named.ensures.rest
    c.in-Ok.ensures.begun c.requires

pub returns-in-Ok-clause-answers : goal.returns-in-Ok-clause-answers
returns-in-Ok-clause-answers c =
    let desk = c.args.self.now in
    opens desk.tail c.keep.new.self.tail desk.transactions.items c.take_named.new.list.items c.keep.new.self.transactions.items c.args.name c.args.place c.in-Ok.txn
    c.in_ok-said-in-Ok.said c.take_named.ensures.rest c.in-Ok.ensures.begun c.in-Ok.ensures.counted (c.in_ok-keep-in-Ok.ensures.tail ∙ c.in-Ok.ensures.drawn) c.in_ok-said-in-Ok.ensures
    c.in_ok-keep-in-Ok.ensures.kept

pub returns-in-Err-IdsSpent-clause-answers : goal.returns-in-Err-IdsSpent-clause-answers
returns-in-Err-IdsSpent-clause-answers c =
    let desk = c.args.self.now in
    let left = c.take_named.new.list.items in
    let none : (desk.tail.standing.last ≡ 2 ^ 64 - 1) × (c.in-Err-IdsSpent.last ≡ 2 ^ 64 - 1) = rw c.in-Err-IdsSpent.field-0-is at c.in-Err-IdsSpent.ensures.fault in
    IfOk-weaker c.spent_line.result (λ said. said ≡ line.ids_spent c.in-Err-IdsSpent.last)
    (λ said. Begins desk.tail desk.transactions.items c.args.name c.args.place said c.begin.new.self left)
    (λ said says.
    spent desk.tail c.begin.new.self desk.transactions.items left c.args.name c.args.place c.in-Err-IdsSpent.last said c.take_named.ensures.rest
    none.0 none.1 c.in-Err-IdsSpent.ensures.same says)
    c.spent_line.ensures

pub returns-in-Err-IdsSpent-clause-sound : goal.returns-in-Err-IdsSpent-clause-sound
returns-in-Err-IdsSpent-clause-sound c =
    let desk = c.args.self.now in
    let left = c.take_named.new.list.items in
    IfOk-weaker c.spent_line.result (λ said. said ≡ line.ids_spent c.in-Err-IdsSpent.last) (λ said. AreOpen c.begin.new.self.standing left)
    (λ said says. begun_left desk.tail.standing c.begin.new.self.standing c.args.name desk.transactions.items left c.take_named.ensures.rest c.in-Err-IdsSpent.ensures.still c.requires)
    c.spent_line.ensures
