use Rattle.std.proofs.Common.{◌≡◌, ◌∙◌, ◌∷◌, [], ◌++◌, List, Err, Result, ap, refl, subst, sym}
use Rattle.std.proofs.lemmas.Result.{err_from_is_err_and}
use Rattle.std.specs.Prelude.{option_map}
use Rattle.ledger_shared.specs.declared.entry.Entry as kept
use Rattle.ledger_shared.specs.Behind.{SharedHeld, opening_of}
use Rattle.ledger_core.specs.declared.appending.Receipt.{Receipt}
use Rattle.ledger_core.specs.declared.commit.CommitFault.{CommitFault}
use Rattle.ledger_core.specs.declared.commit.CommitFault.TheVariants as fault
use Rattle.ledger_shared.specs.Calls.{Commits, Extends, IsOpen}
use Rattle.ledger_shared.specs.Told.{all_told}
use Rattle.ledger_shared.proofs.Behind.{open_on}
use Rattle.ledger_shared.proofs.Tailed.{commit_nothing, keeps_still}
use Rattle.ledger_shared.proofs.Tailing.{made_there, refuse_adds, refuse_adds_none, refuse_keeps, refuse_keeps_none, seal_adds, seal_keeps}
use Rattle.ledger_shared.proofs.shared.Shared.commit.Goals as goal

pub try_commit-requires : goal.try_commit-requires
try_commit-requires g c =
    let told = g.S.JournalStore.told in
    let first = c.self.inside in
    let k = subst (λ (s : SharedHeld _ _). IsOpen (opening_of told s.opened) s.entries c.args.txn) (sym c.self.view_is) c.requires in
    open_on (opening_of told first.opened.value) first.opened.value.standing first.tail.standing (told first.tail.store).faults
    (all_told first.tail.standing.mask first.entries.items.items) c.args.txn c.self.invariant.behind k

pub sealed_entry-entry-requires : goal.sealed_entry-entry-requires
sealed_entry-entry-requires g c =
    let r = c.in-Ok.ensures.commits.ends in (
      r.block,
      made_there c.self.inside.tail.standing c.try_commit.new.self.standing c.args.txn c.args.sent _ c.in-Ok.receipt c.blocks-in-Ok.result.now.list r
          c.blocks-in-Ok.ensures.blocks,
    )

pub invariant_of-self-in-Ok : goal.invariant_of-self-in-Ok
invariant_of-self-in-Ok g c =
    let told = g.S.JournalStore.told in
    let first = c.self.inside in
    let k = subst (λ (s : SharedHeld _ _). IsOpen (opening_of told s.opened) s.entries c.args.txn) (sym c.self.view_is) c.requires in
    let r = c.in-Ok.ensures.commits.ends in
    let e = c.sealed_entry-entry.result in
    let there =
    made_there first.tail.standing c.try_commit.new.self.standing c.args.txn c.args.sent _ c.in-Ok.receipt c.blocks-in-Ok.result.now.list r c.blocks-in-Ok.ensures.blocks in
    seal_keeps told g.C.Clock.answers g.C.Clock.always first.opened.value first.tail c.try_commit.new.self first.entries.items.items
    c.add.new.self.items.items c.self.invariant c.args.txn k c.tx-tx.result c.tx-tx.ensures c.args.sent c.try_commit.ensures.commits.asked c.try_commit.ensures.commits.always_is
    c.in-Ok.receipt r e (c.add.ensures ∙ ap (λ (l : List kept.Entry). l ++ e ∷ []) c.make_room.ensures.items)
    (c.sealed_entry-entry.ensures first.tail.standing.mask r.block there) c.in-Ok.ensures.commits.fine c.in-Ok.ensures.commits.holds c.in-Ok.ensures.commits.synced
    c.in-Ok.ensures.images.0 c.in-Ok.ensures.images.1

pub returns-in-Ok-clause-commits : goal.returns-in-Ok-clause-commits
returns-in-Ok-clause-commits g c =
    let told = g.S.JournalStore.told in
    let first = c.self.inside in
    let k = subst (λ (s : SharedHeld _ _). IsOpen (opening_of told s.opened) s.entries c.args.txn) (sym c.self.view_is) c.requires in
    let r = c.in-Ok.ensures.commits.ends in
    let e = c.sealed_entry-entry.result in
    let there =
    made_there first.tail.standing c.try_commit.new.self.standing c.args.txn c.args.sent _ c.in-Ok.receipt c.blocks-in-Ok.result.now.list r c.blocks-in-Ok.ensures.blocks in
    rw (← c.self.view_is)
    (seal_adds told g.C.Clock.answers g.C.Clock.always first.opened.value first.tail c.try_commit.new.self first.entries.items.items
    c.add.new.self.items.items c.self.invariant c.args.txn k c.tx-tx.result c.tx-tx.ensures c.args.sent c.try_commit.ensures.commits.asked c.try_commit.ensures.commits.always_is
    c.in-Ok.receipt r e (c.add.ensures ∙ ap (λ (l : List kept.Entry). l ++ e ∷ []) c.make_room.ensures.items)
    (c.sealed_entry-entry.ensures first.tail.standing.mask r.block there))

pub invariant_of-self-in-Some : goal.invariant_of-self-in-Some
invariant_of-self-in-Some g c =
    let told = g.S.JournalStore.told in
    let first = c.self.inside in
    let k = subst (λ (s : SharedHeld _ _). IsOpen (opening_of told s.opened) s.entries c.args.txn) (sym c.self.view_is) c.requires in
    let e = c.in-Some.entry in
    refuse_keeps told g.C.Clock.answers g.C.Clock.always first.opened.value first.tail c.try_commit.new.self first.entries.items.items
    c.add-in-Some.new.self.items.items c.self.invariant c.args.txn k c.tx-tx.result c.tx-tx.ensures c.args.sent c.try_commit.ensures.commits.asked c.try_commit.ensures.commits.always_is
    c.in-Err.field-0.fault (option_map (λ b. b.value) c.in-Err.field-0.tried) c.in-Err.ensures.commits.ends c.in-Err.ensures.tried c.in-Err.ensures.commits.fault c.in-Err.ensures.left c.in-Err.ensures.commits.marked
    c.in-Err.ensures.commits.unasked c.in-Err.ensures.images
    e (c.add-in-Some.ensures ∙ ap (λ (l : List kept.Entry). l ++ e ∷ []) c.make_room.ensures.items) (c.in-Some.ensures first.tail.standing.mask)

pub returns-in-Some-clause-commits : goal.returns-in-Some-clause-commits
returns-in-Some-clause-commits g c =
    let told = g.S.JournalStore.told in
    let first = c.self.inside in
    let k = subst (λ (s : SharedHeld _ _). IsOpen (opening_of told s.opened) s.entries c.args.txn) (sym c.self.view_is) c.requires in
    let e = c.in-Some.entry in
    let now = c.try_commit.new.self.standing.mask in
    let f = c.in-Err.field-0.fault in
    subst (λ (s : SharedHeld _ _). Extends s.entries (all_told now c.add-in-Some.new.self.items.items) (λ a. Commits (opening_of told s.opened) s.entries c.args.txn c.args.sent (Err f) a))
    c.self.view_is
    (refuse_adds told g.C.Clock.answers g.C.Clock.always first.opened.value first.tail c.try_commit.new.self first.entries.items.items
    c.add-in-Some.new.self.items.items c.self.invariant c.args.txn k c.tx-tx.result c.tx-tx.ensures c.args.sent c.try_commit.ensures.commits.asked c.try_commit.ensures.commits.always_is
    c.in-Err.field-0.fault (option_map (λ b. b.value) c.in-Err.field-0.tried) c.in-Err.ensures.commits.ends c.in-Err.ensures.tried c.in-Err.ensures.commits.fault c.in-Err.ensures.left c.in-Err.ensures.commits.marked
    c.in-Err.ensures.commits.unasked c.in-Err.ensures.images
    e (c.add-in-Some.ensures ∙ ap (λ (l : List kept.Entry). l ++ e ∷ []) c.make_room.ensures.items) (c.in-Some.ensures first.tail.standing.mask))

pub invariant_of-self-in-None : goal.invariant_of-self-in-None
invariant_of-self-in-None g c =
    let told = g.S.JournalStore.told in
    let first = c.self.inside in
    let k = subst (λ (s : SharedHeld _ _). IsOpen (opening_of told s.opened) s.entries c.args.txn) (sym c.self.view_is) c.requires in
    refuse_keeps_none told g.C.Clock.answers g.C.Clock.always first.opened.value first.tail c.try_commit.new.self first.entries.items.items
    c.make_room.new.self.items.items c.self.invariant c.args.txn k c.tx-tx.result c.tx-tx.ensures c.args.sent c.try_commit.ensures.commits.asked c.try_commit.ensures.commits.always_is
    c.in-Err.field-0.fault (option_map (λ b. b.value) c.in-Err.field-0.tried) c.in-Err.ensures.commits.ends c.in-Err.ensures.tried c.in-Err.ensures.commits.fault c.in-Err.ensures.left c.in-Err.ensures.commits.marked
    c.in-Err.ensures.commits.unasked c.in-Err.ensures.images
    c.make_room.ensures.items (c.in-None.ensures first.tail.standing.mask)

pub returns-in-None-clause-commits : goal.returns-in-None-clause-commits
returns-in-None-clause-commits g c =
    let told = g.S.JournalStore.told in
    let first = c.self.inside in
    let k = subst (λ (s : SharedHeld _ _). IsOpen (opening_of told s.opened) s.entries c.args.txn) (sym c.self.view_is) c.requires in
    let now = c.try_commit.new.self.standing.mask in
    let f = c.in-Err.field-0.fault in
    subst (λ (s : SharedHeld _ _). Extends s.entries (all_told now c.make_room.new.self.items.items) (λ a. Commits (opening_of told s.opened) s.entries c.args.txn c.args.sent (Err f) a))
    c.self.view_is
    (refuse_adds_none told g.C.Clock.answers g.C.Clock.always first.opened.value first.tail c.try_commit.new.self first.entries.items.items
    c.make_room.new.self.items.items c.self.invariant c.args.txn k c.tx-tx.result c.tx-tx.ensures c.args.sent c.try_commit.ensures.commits.asked c.try_commit.ensures.commits.always_is
    c.in-Err.field-0.fault (option_map (λ b. b.value) c.in-Err.field-0.tried) c.in-Err.ensures.commits.ends c.in-Err.ensures.tried c.in-Err.ensures.commits.fault c.in-Err.ensures.left c.in-Err.ensures.commits.marked
    c.in-Err.ensures.commits.unasked c.in-Err.ensures.images
    c.make_room.ensures.items (c.in-None.ensures first.tail.standing.mask))

pub invariant_of-self : goal.invariant_of-self
invariant_of-self g c =
    keeps_still g.S.JournalStore.told g.C.Clock.answers g.C.Clock.always c.self.inside.opened.value c.self.inside.tail c.self.inside.tail
    c.self.inside.entries.items.items c.make_room.new.self.items.items refl c.make_room.ensures.items c.self.invariant

pub returns-in_err-make_room-clause-commits : goal.returns-in_err-make_room-clause-commits
returns-in_err-make_room-clause-commits g c =
    let told = g.S.JournalStore.told in
    let tail = c.self.inside.tail in
    let items = c.self.inside.entries.items.items in
    let more = c.make_room.new.self.items.items in
    let o = opening_of told c.self.inside.opened.value in
    let es = all_told tail.standing.mask items in
    let told_by = err_from_is_err_and c.from_residual.result c.from_residual.ensures.1 in
    let is : c.from_residual.result ≡ Err fault.OutOfMemory = rw (told_by.1, told_by.2) refl in
    rw (← c.self.view_is)
    (subst (λ (r : Result Receipt CommitFault). Extends es (all_told tail.standing.mask more) (Commits o es c.args.txn c.args.sent r)) (sym is)
    (commit_nothing told g.C.Clock.answers g.C.Clock.always c.self.inside.opened.value tail items more c.make_room.ensures.items c.args.txn c.args.sent))
