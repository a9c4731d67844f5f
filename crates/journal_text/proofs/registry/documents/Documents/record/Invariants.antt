use Rattle.std.proofs.Common.{◌≡◌, ℕ, drop}
use Rattle.std.specs.BTreeMap.{get}
use Rattle.std.specs.Ordering.{nat_cmp}
use Rattle.ledger_model.specs.State.{recorded_in}
use Rattle.journal_text.proofs.Recorded.{then_latest}
use Rattle.journal_text.proofs.registry.documents.Documents.record.Given as goal

-- what is known with the revisions that are left is what is known with all of them
abbrev pub invariant-revisions : goal.invariant-revisions
invariant-revisions l = (id : ℕ)
    → then_latest (recorded_in (drop l.at l.tables) (drop l.at l.revisions)) id (get nat_cmp l.self.latest id)
    ≡ then_latest (recorded_in l.tables l.revisions) id (get nat_cmp l.initial.self.latest id)
