use Rattle.std.proofs.Common.{subst}
use Rattle.turn_lock.specs.Seats.{known}
use Rattle.ledger_shared.specs.Behind.{opening_of}
use Rattle.ledger_shared.specs.Calls.{Begins, Extends}
use Rattle.ledger_shared.specs.Ledgers.{opened_of}
use Rattle.ledger_shared.proofs.Passes.{begin_puts, begun_opens, called}
use Rattle.ledger_shared.proofs.ledger.Ledger.begin.Goals as goal

pub put_back-requires-clause-joins : goal.put_back-requires-clause-joins
put_back-requires-clause-joins g c =
    let told = g.S.JournalStore.told in
    let took = c.take-shared in
    let call = c.begin-result in
    let place = c.args.place in
    begin_puts (opening_of told (opened_of c.args.self.now)) (known took.new.pass) took.result.entries call.new.self.entries place call.result
    took.ensures.pass.is_right.run took.ensures.entries
    (subst (λ x. Extends took.result.entries call.new.self.entries (Begins (opening_of told x) took.result.entries place call.result)) took.ensures.opening call.ensures.begins)

pub returns-clause-begins : goal.returns-clause-begins
returns-clause-begins g c =
    let told = g.S.JournalStore.told in
    let took = c.take-shared in
    let call = c.begin-result in
    let place = c.args.place in
    let o = opening_of told (opened_of c.args.self.now) in
    called (known c.args.pass.now) (known took.new.pass) (known c.put_back.new.pass) took.result.entries call.new.self.entries
    (λ front added. Begins o front place call.result added) took.ensures.known took.ensures.longer took.ensures.entries
    (subst (λ x. Extends took.result.entries call.new.self.entries (Begins (opening_of told x) took.result.entries place call.result)) took.ensures.opening call.ensures.begins)
    c.put_back.ensures.known

pub returns-clause-opens : goal.returns-clause-opens
returns-clause-opens g c =
    let told = g.S.JournalStore.told in
    let took = c.take-shared in
    let call = c.begin-result in
    let place = c.args.place in
    begun_opens (opening_of told (opened_of c.args.self.now)) (known took.new.pass) (known c.put_back.new.pass) took.result.entries
    call.new.self.entries place call.result took.ensures.pass.part took.ensures.pass.is_right.run took.ensures.entries
    (subst (λ x. Extends took.result.entries call.new.self.entries (Begins (opening_of told x) took.result.entries place call.result)) took.ensures.opening call.ensures.begins)
    c.put_back.ensures.known
