use Rattle.std.proofs.Common.{Some, subst, sym}
use Rattle.txn_core.specs.Opened.{Opened}
use Rattle.ledger_core.specs.Committing.{IsOpenOn}
use Rattle.ledger_core.specs.Leaving.{CommitLeaves}
use Rattle.ledger_core.proofs.Commits.{still_open}
use Rattle.ledger_core.proofs.tail.Tail.commit.Goals as goal

pub commit_with-requires : goal.commit_with-requires
commit_with-requires g c = subst (λ (t : Opened). IsOpenOn c.args.self.now.standing t) (sym c.unmade.ensures) c.requires

pub returns-clause-commits : goal.returns-clause-commits
returns-clause-commits g c =
    subst (λ (t : Opened). CommitLeaves g.S.JournalStore.told g.C.Clock.answers g.C.Clock.always c.args.self.now c.commit_with.new.self t (Some c.args.digest) c.commit_with.result)
    c.unmade.ensures c.commit_with.ensures

pub returns-clause-still : goal.returns-clause-still
returns-clause-still g c =
    let told = g.S.JournalStore.told in
    let answers = g.C.Clock.answers in
    let always = g.C.Clock.always in
    let leaves =
    subst (λ (t : Opened). CommitLeaves told answers always c.args.self.now c.commit_with.new.self t (Some c.args.digest) c.commit_with.result) c.unmade.ensures c.commit_with.ensures in
    λ other o differ.
    still_open c.args.self.now.standing c.commit_with.new.self.standing c.args.txn other _ _ c.requires.mask differ o c.commit_with.result leaves.ends
