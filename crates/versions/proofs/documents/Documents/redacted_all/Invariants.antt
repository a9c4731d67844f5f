use Rattle.std.proofs.Common.{◌≡◌, map, drop}
use Rattle.ledger_model.specs.State.{revisions_after}
use Rattle.versions.specs.Held.{recorded_of}
use Rattle.versions.proofs.documents.Documents.redacted_all.Given as goal

-- the changes that are left lead to the same revisions, and the indexes stay
abbrev pub invariant-changes : goal.invariant-changes
invariant-changes l =
    (revisions_after (drop l.change-index l.changes) (map recorded_of l.new.0) ≡ revisions_after l.changes (map recorded_of l.self.0))
    × (l.new.1 ≡ l.self.1)
