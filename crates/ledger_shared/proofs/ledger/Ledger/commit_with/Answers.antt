use Rattle.std.proofs.Common.{◌≡◌, ◌∙◌, subst, sym}
use Rattle.turn_lock.specs.Seats.{known}
use Rattle.txn_core.specs.Opened.{Opened}
use Rattle.laws_crash.proofs.Images.{unmarked_recovers}
use Rattle.ledger_shared.specs.Behind.{IsRightFor, Keeps, opening_of}
use Rattle.ledger_shared.specs.Calls.{Commits, Extends, IsOpen}
use Rattle.ledger_shared.specs.Ledgers.{opened_of}
use Rattle.ledger_shared.proofs.Passes.{called, commit_opens, commit_puts}
use Rattle.ledger_shared.proofs.Recovering.{called_keeps}
use Rattle.ledger_shared.proofs.ledger.Ledger.commit_with.Goals as goal

pub commit-result-requires : goal.commit-result-requires
commit-result-requires g c =
    let told = g.S.JournalStore.told in
    let took = c.take-shared in
    let opened = opened_of c.args.self.now in
    subst (λ (t : Opened). IsOpen (opening_of told took.result.opened) took.result.entries t) (sym c.prepare-prepared.ensures)
    (subst (λ x. IsOpen (opening_of told x) took.result.entries c.args.txn) (sym took.ensures.opening)
    (commit_opens (opening_of told opened) (known c.args.pass.now) (known took.new.pass) c.args.txn c.requires.pass.part c.requires.opens took.ensures.known
    took.ensures.longer took.result.entries took.ensures.entries took.ensures.uses))

pub put_back-requires-clause-joins : goal.put_back-requires-clause-joins
put_back-requires-clause-joins g c =
    let told = g.S.JournalStore.told in
    let took = c.take-shared in
    let call = c.commit-result in
    let commits = subst (λ (t : Opened). Extends took.result.entries call.new.self.entries (Commits (opening_of told took.result.opened) took.result.entries t c.args.sent call.result)) c.prepare-prepared.ensures call.ensures.commits in
    let opened = opened_of c.args.self.now in
    commit_puts (opening_of told opened) (known c.args.pass.now) (known took.new.pass) c.args.txn c.requires.pass.part c.requires.opens took.ensures.known
    took.ensures.longer took.result.entries call.new.self.entries c.args.sent call.result took.ensures.entries
    (subst (λ x. Extends took.result.entries call.new.self.entries (Commits (opening_of told x) took.result.entries c.args.txn c.args.sent call.result)) took.ensures.opening commits)

pub returns-clause-commits : goal.returns-clause-commits
returns-clause-commits g c =
    let told = g.S.JournalStore.told in
    let took = c.take-shared in
    let call = c.commit-result in
    let commits = subst (λ (t : Opened). Extends took.result.entries call.new.self.entries (Commits (opening_of told took.result.opened) took.result.entries t c.args.sent call.result)) c.prepare-prepared.ensures call.ensures.commits in
    let o = opening_of told (opened_of c.args.self.now) in
    called (known c.args.pass.now) (known took.new.pass) (known c.put_back.new.pass) took.result.entries call.new.self.entries
    (λ front added. Commits o front c.args.txn c.args.sent call.result added) took.ensures.known took.ensures.longer took.ensures.entries
    (subst (λ x. Extends took.result.entries call.new.self.entries (Commits (opening_of told x) took.result.entries c.args.txn c.args.sent call.result)) took.ensures.opening commits)
    c.put_back.ensures.known

pub returns-clause-kept : goal.returns-clause-kept
returns-clause-kept g c =
    let told = g.S.JournalStore.told in
    let answers = g.C.Clock.answers in
    let always = g.C.Clock.always in
    let took = c.take-shared in
    let call = c.commit-result in
    let commits = subst (λ (t : Opened). Extends took.result.entries call.new.self.entries (Commits (opening_of told took.result.opened) took.result.entries t c.args.sent call.result)) c.prepare-prepared.ensures call.ensures.commits in
    let opened = opened_of c.args.self.now in
    let home = c.is_home.ensures in
    let of : call.new.self.opened ≡ opened = call.ensures.opened ∙ took.ensures.opening in
    called_keeps told answers always opened unmarked_recovers (known took.new.pass) (known c.put_back.new.pass) call.new.self.tail
    took.result.entries call.new.self.entries c.args.txn c.args.sent call.result took.ensures.entries
    (subst (λ x. Extends took.result.entries call.new.self.entries (Commits (opening_of told x) took.result.entries c.args.txn c.args.sent call.result)) took.ensures.opening commits)
    c.put_back.ensures.known
    (subst (λ x. Keeps told answers always x call.new.self.tail call.new.self.entries) of home.keeps)
    (subst (λ x. IsRightFor told x call.new.self.entries) of home.right)
