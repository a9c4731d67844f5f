use Rattle.std.proofs.Common.{◌≡◌, map, drop}
use Rattle.ledger_model.specs.State.{all_indexed}
use Rattle.versions.specs.Held.{indexed_of}
use Rattle.versions.proofs.documents.Documents.indexed_all.Given as goal

abbrev pub invariant-changes : goal.invariant-changes
invariant-changes l =
    (l.new.0 ≡ l.self.0) × (all_indexed (map indexed_of l.new.1) (drop l.change-index l.changes) ≡ all_indexed (map indexed_of l.self.1) l.changes)
