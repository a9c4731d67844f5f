use Rattle.std.proofs.Common.{Err, None, subst, sym}
use Rattle.std.specs.Prelude.{option_map}
use Rattle.ledger_core.specs.declared.commit.CommitFault.{CommitFault}
use Rattle.ledger_core.specs.Committing.{IsAnswer, IsTried}
use Rattle.ledger_core.specs.Leaving.{CommitLeaves}
use Rattle.ledger_core.proofs.Commits.{IsReady, put_kept, put_left, put_stands, put_tried, put_unkept, ready, refused_leaves, sealed_leaves, unkept_leaves}
use Rattle.ledger_core.specs.declared.appending.Receipt.{Receipt}
use Rattle.ledger_core.proofs.Imaging.{refused_images}
use Rattle.ledger_core.proofs.tail.Tail.try_commit.Goals as goal

pub returns-in-Err-clause-commits : goal.returns-in-Err-clause-commits
returns-in-Err-clause-commits g c =
    refused_leaves g.S.JournalStore.told g.C.Clock.answers g.C.Clock.always c.args.self.now c.args.txn c.args.sent c.in-Err.fault c.in-Err.ensures

pub append_next-requires : goal.append_next-requires
append_next-requires g c =
    let r : IsReady c.args.self.now.standing c.args.txn c.args.sent =
    ready c.args.self.now.standing c.args.txn c.args.sent c.is_tail.ensures.stands c.requires c.is_tail.ensures.mask
    c.is_within.ensures.place c.is_within.ensures.kept c.in-Ok.ensures in
    put_stands g.S.JournalStore.told g.C.Clock.answers g.C.Clock.always c.args.self.now c.time-time.new.self c.time-time.new.self _ c.args.txn c.args.sent c.time-time.result r
    c.time-time.ensures.same c.time-time.ensures.answer

pub returns-in-Err-append_next-clause-commits : goal.returns-in-Err-append_next-clause-commits
returns-in-Err-append_next-clause-commits g c =
    let told = g.S.JournalStore.told in
    let answers = g.C.Clock.answers in
    let always = g.C.Clock.always in
    let failed = c.in-Err-append_next.ensures.leaves in
    let r : IsReady c.args.self.now.standing c.args.txn c.args.sent =
    ready c.args.self.now.standing c.args.txn c.args.sent c.is_tail.ensures.stands c.requires c.is_tail.ensures.mask
    c.is_within.ensures.place c.is_within.ensures.kept c.in-Ok.ensures in
    subst (λ (f : CommitFault). CommitLeaves told answers always c.args.self.now c.append_next.new.self c.args.txn c.args.sent (Err f)) (sym c.from.ensures)
    (unkept_leaves told answers always c.args.self.now c.time-time.new.self c.append_next.new.self _ c.args.txn c.args.sent c.time-time.result r
    c.time-time.ensures.same c.time-time.ensures.answer failed.clock c.time-time.ensures.always c.in-Err-append_next.field-0 failed)

pub returns-in-Err-append_next-clause-tried : goal.returns-in-Err-append_next-clause-tried
returns-in-Err-append_next-clause-tried g c =
    let told = IsAnswer (g.C.Clock.answers c.args.self.now.clock) (g.C.Clock.answers c.append_next.new.self.clock) (g.C.Clock.always c.args.self.now.clock) in
    let r : IsReady c.args.self.now.standing c.args.txn c.args.sent =
    ready c.args.self.now.standing c.args.txn c.args.sent c.is_tail.ensures.stands c.requires c.is_tail.ensures.mask
    c.is_within.ensures.place c.is_within.ensures.kept c.in-Ok.ensures in
    subst (λ (f : CommitFault). IsTried c.args.self.now.standing c.args.txn c.args.sent told f (option_map (λ b. b.value) c.in-Err-append_next.field-0.tried)) (sym c.from.ensures)
    (put_tried g.S.JournalStore.told g.C.Clock.answers g.C.Clock.always c.args.self.now c.time-time.new.self c.append_next.new.self _ c.args.txn c.args.sent
    c.time-time.result r c.time-time.ensures.same c.time-time.ensures.answer c.in-Err-append_next.ensures.leaves.clock c.in-Err-append_next.field-0.fault
    (option_map (λ b. b.value) c.in-Err-append_next.field-0.tried) c.in-Err-append_next.ensures.leaves.tried)

pub returns-in-Err-append_next-clause-left : goal.returns-in-Err-append_next-clause-left
returns-in-Err-append_next-clause-left g c =
    let r : IsReady c.args.self.now.standing c.args.txn c.args.sent =
    ready c.args.self.now.standing c.args.txn c.args.sent c.is_tail.ensures.stands c.requires c.is_tail.ensures.mask
    c.is_within.ensures.place c.is_within.ensures.kept c.in-Ok.ensures in
    put_left g.S.JournalStore.told g.C.Clock.answers g.C.Clock.always c.args.self.now c.time-time.new.self c.append_next.new.self _ c.args.txn c.args.sent
    c.time-time.result r c.time-time.ensures.same (option_map (λ b. b.value) c.in-Err-append_next.field-0.tried) c.in-Err-append_next.ensures.leaves.left

pub returns-in-Ok-append_next-clause-commits : goal.returns-in-Ok-append_next-clause-commits
returns-in-Ok-append_next-clause-commits g c =
    let kept = c.in-Ok-append_next.ensures.leaves in
    let r : IsReady c.args.self.now.standing c.args.txn c.args.sent =
    ready c.args.self.now.standing c.args.txn c.args.sent c.is_tail.ensures.stands c.requires c.is_tail.ensures.mask
    c.is_within.ensures.place c.is_within.ensures.kept c.in-Ok.ensures in
    sealed_leaves g.S.JournalStore.told g.C.Clock.answers g.C.Clock.always c.args.self.now c.time-time.new.self c.append_next.new.self _ c.args.txn c.args.sent
    c.time-time.result r c.time-time.ensures.same c.time-time.ensures.answer kept.clock c.time-time.ensures.always c.in-Ok-append_next.receipt c.in-Ok-append_next.ensures.receipt kept

pub returns-in-Err-clause-images : goal.returns-in-Err-clause-images
returns-in-Err-clause-images g c = refused_images Receipt g.S.JournalStore.told c.args.self.now c.in-Err.fault

pub returns-in-Err-append_next-clause-images : goal.returns-in-Err-append_next-clause-images
returns-in-Err-append_next-clause-images g c =
    let r : IsReady c.args.self.now.standing c.args.txn c.args.sent =
    ready c.args.self.now.standing c.args.txn c.args.sent c.is_tail.ensures.stands c.requires c.is_tail.ensures.mask
    c.is_within.ensures.place c.is_within.ensures.kept c.in-Ok.ensures in
    put_unkept g.S.JournalStore.told g.C.Clock.answers g.C.Clock.always c.args.self.now c.time-time.new.self c.append_next.new.self _ c.args.txn c.args.sent
    c.time-time.result r c.time-time.ensures.same c.in-Err-append_next.field-0 c.from.result (option_map (λ b. b.value) c.in-Err-append_next.field-0.tried)
    c.in-Err-append_next.ensures.leaves.images

pub returns-in-Ok-append_next-clause-images : goal.returns-in-Ok-append_next-clause-images
returns-in-Ok-append_next-clause-images g c =
    let r : IsReady c.args.self.now.standing c.args.txn c.args.sent =
    ready c.args.self.now.standing c.args.txn c.args.sent c.is_tail.ensures.stands c.requires c.is_tail.ensures.mask
    c.is_within.ensures.place c.is_within.ensures.kept c.in-Ok.ensures in
    put_kept g.S.JournalStore.told g.C.Clock.answers g.C.Clock.always c.args.self.now c.time-time.new.self c.append_next.new.self _ c.args.txn c.args.sent
    c.time-time.result r c.time-time.ensures.same CommitFault c.in-Ok-append_next.receipt None None c.in-Ok-append_next.ensures.leaves.images
