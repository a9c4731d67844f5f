use Rattle.std.proofs.Common.{◌≡◌, ◌∙◌, [], ◌∷◌, ◌++◌, List, Err, Result, ap, refl, rules, subst, sym}
use Rattle.ledger_shared.specs.declared.entry.Entry as kept
use Rattle.ledger_shared.specs.declared.entry.Entry.TheVariants.{Begun}
use Rattle.ledger_core.specs.declared.begin.BeginFault.{BeginFault}
use Rattle.ledger_core.specs.declared.begin.BeginFault.TheVariants as fault
use Rattle.txn_core.specs.Opened.{Opened}
use Rattle.ledger_shared.specs.Behind.{opening_of}
use Rattle.ledger_shared.specs.Calls.{Begins, Extends}
use Rattle.ledger_shared.specs.Told.{all_told}
use Rattle.ledger_shared.proofs.Tailed.{begin_extends, begin_keeps, begin_nothing, begin_refused, keeps_still}
use Rattle.ledger_shared.proofs.shared.Shared.begin.Goals as goal

pub invariant_of-self-2 : goal.invariant_of-self-2
invariant_of-self-2 g c =
    let e = Begun c.args.place c.tx.result c.since.result in
    begin_keeps g.S.JournalStore.told g.C.Clock.answers g.C.Clock.always c.self.inside.opened.value c.self.inside.tail c.begin.new.self
    c.self.inside.entries.items.items c.add.new.self.items.items c.self.invariant c.args.place c.in_ok-txn.txn c.tx.result c.since.result
    c.in_ok-txn.ensures.drawn (c.add.ensures ∙ ap (λ (l : List kept.Entry). l ++ e ∷ []) c.make_room.ensures.items)
    c.in_ok-txn.ensures.begun c.tx.ensures c.since.ensures c.in_ok-txn.ensures.counted

pub returns-clause-begins : goal.returns-clause-begins
returns-clause-begins g c =
    let e = Begun c.args.place c.tx.result c.since.result in
    rw (← c.self.view_is)
    (begin_extends g.S.JournalStore.told g.C.Clock.answers g.C.Clock.always c.self.inside.opened.value c.self.inside.tail c.begin.new.self
    c.self.inside.entries.items.items c.add.new.self.items.items c.self.invariant c.args.place c.in_ok-txn.txn c.tx.result c.since.result
    c.in_ok-txn.ensures.drawn (c.add.ensures ∙ ap (λ (l : List kept.Entry). l ++ e ∷ []) c.make_room.ensures.items)
    c.in_ok-txn.ensures.begun c.tx.ensures c.since.ensures c.in_ok-txn.ensures.counted)

pub invariant_of-self : goal.invariant_of-self
invariant_of-self g c =
    keeps_still g.S.JournalStore.told g.C.Clock.answers g.C.Clock.always c.self.inside.opened.value c.self.inside.tail c.self.inside.tail
    c.self.inside.entries.items.items c.make_room.new.self.items.items refl c.make_room.ensures.items c.self.invariant

pub invariant_of-self-in_err-txn : goal.invariant_of-self-in_err-txn
invariant_of-self-in_err-txn g c =
    keeps_still g.S.JournalStore.told g.C.Clock.answers g.C.Clock.always c.self.inside.opened.value c.self.inside.tail c.begin.new.self
    c.self.inside.entries.items.items c.make_room.new.self.items.items c.in_err-txn.ensures.same c.make_room.ensures.items c.self.invariant

pub returns-in_err-make_room-clause-begins : goal.returns-in_err-make_room-clause-begins
returns-in_err-make_room-clause-begins g c =
    let told = g.S.JournalStore.told in
    let tail = c.self.inside.tail in
    let items = c.self.inside.entries.items.items in
    let more = c.make_room.new.self.items.items in
    let o = opening_of told c.self.inside.opened.value in
    let es = all_told tail.standing.mask items in
    let is : c.from_residual.result ≡ Err fault.OutOfMemory = search rules in
    rw (← c.self.view_is)
    (subst (λ (r : Result Opened BeginFault). Extends es (all_told tail.standing.mask more) (Begins o es c.args.place r)) (sym is)
    (begin_nothing told g.C.Clock.answers g.C.Clock.always c.self.inside.opened.value tail tail items more refl c.make_room.ensures.items c.args.place
    fault.OutOfMemory refl))

pub returns-in_err-txn-clause-begins : goal.returns-in_err-txn-clause-begins
returns-in_err-txn-clause-begins g c =
    let told = g.S.JournalStore.told in
    let tail = c.self.inside.tail in
    let now = c.begin.new.self in
    let items = c.self.inside.entries.items.items in
    let more = c.make_room.new.self.items.items in
    let o = opening_of told c.self.inside.opened.value in
    let es = all_told tail.standing.mask items in
    let f = c.in_err-txn.field-0.0 in
    let is : c.from_residual-in_err-txn.result ≡ Err f = search rules in
    rw (← c.self.view_is)
    (subst (λ (r : Result Opened BeginFault). Extends es (all_told now.standing.mask more) (Begins o es c.args.place r)) (sym is)
    (begin_nothing told g.C.Clock.answers g.C.Clock.always c.self.inside.opened.value tail now items more c.in_err-txn.ensures.same
    c.make_room.ensures.items c.args.place f
    (begin_refused told g.C.Clock.answers g.C.Clock.always c.self.inside.opened.value tail items c.args.place f c.self.invariant c.in_err-txn.ensures.fault)))
