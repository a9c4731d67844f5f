use Rattle.std.proofs.Common.{◌∙◌, sym, ap}
use Rattle.turn_lock.specs.declared.view.Known.{Known}
use Rattle.turn_lock.specs.Seats.{known, own, seen}
use Rattle.laws_machine.specs.Entries.{Entry}
use Rattle.ledger_shared.proofs.Passes.{joins_none, joins_one, put_none, put_one}
use Rattle.ledger_shared.proofs.ledger.Ledger.put_back.Goals as goal

pub give-requires-clause-entries : goal.give-requires-clause-entries
give-requires-clause-entries g c =
    let pass = c.args.pass.now in
    joins_none (seen pass) c.args.shared.entries (own pass) c.requires.joins (sym c.count.ensures ∙ c.if-count-before.true ∙ c.requires.before)

pub step-requires-clause-entry : goal.step-requires-clause-entry
step-requires-clause-entry g c =
    let pass = c.args.pass.now in
    joins_one (seen pass) c.args.shared.entries (own pass) c.requires.joins
    (λ same. c.if-count-before.false (c.count.ensures ∙ same ∙ sym c.requires.before))

pub give-requires-else-count-before-clause-entries : goal.give-requires-else-count-before-clause-entries
give-requires-else-count-before-clause-entries g c =
    let pass = c.args.pass.now in
    let one =
    joins_one (seen pass) c.args.shared.entries (own pass) c.requires.joins
    (λ same. c.if-count-before.false (c.count.ensures ∙ same ∙ sym c.requires.before)) in
    one.1 ∙ sym (ap (λ (k : Known Entry). k.seen) (c.step.ensures.known one.0 one.1))

pub returns-then-count-before-clause-known : goal.returns-then-count-before-clause-known
returns-then-count-before-clause-known g c added told =
    let pass = c.args.pass.now in
    let same =
    joins_none (seen pass) c.args.shared.entries (own pass) c.requires.joins (sym c.count.ensures ∙ c.if-count-before.true ∙ c.requires.before) in
    put_none (known pass) (known c.give.new.pass) c.args.shared.entries added same c.give.ensures.known told

pub returns-else-count-before-clause-known : goal.returns-else-count-before-clause-known
returns-else-count-before-clause-known g c added told =
    let pass = c.args.pass.now in
    let one =
    joins_one (seen pass) c.args.shared.entries (own pass) c.requires.joins
    (λ same. c.if-count-before.false (c.count.ensures ∙ same ∙ sym c.requires.before)) in
    put_one (known pass) (known c.give-else-count-before.new.pass) c.args.shared.entries added one.0 one.1
    (c.give-else-count-before.ensures.known ∙ c.step.ensures.known one.0 one.1) told
