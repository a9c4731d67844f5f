use Rattle.std.proofs.Common.{◌≡◌, ◌++◌, map, drop}
use Rattle.ledger_model.specs.State.{recorded_in}
use Rattle.versions.specs.Held.{recorded_of}
use Rattle.versions.proofs.documents.Documents.with_all.Given as goal

-- the revisions so far and the rest are all revisions, and the indexes stay
abbrev pub invariant-revisions : goal.invariant-revisions
invariant-revisions l =
    (map recorded_of l.new.0 ++ recorded_in (drop l.at l.tables) (drop l.at l.revisions) ≡ map recorded_of l.self.0 ++ recorded_in l.tables l.revisions)
    × (l.new.1 ≡ l.self.1)
