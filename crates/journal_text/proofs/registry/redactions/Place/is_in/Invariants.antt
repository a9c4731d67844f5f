use Rattle.std.proofs.Common.{◌≡◌, drop}
use Rattle.std.specs.List.{list_any}
use Rattle.ledger_model.specs.declared.block.Schema.TheVariants.{Redact}
use Rattle.ledger_model.specs.State.{recorded_in, redacts}
use Rattle.journal_text.proofs.registry.redactions.Place.is_in.Given as goal

-- it is among the revisions that are left exactly where it is among all
abbrev pub invariant-revisions : goal.invariant-revisions
invariant-revisions l =
    list_any (λ r. redacts r (Redact l.self.address l.self.table l.self.document)) (recorded_in (drop l.at l.tables) (drop l.at l.revisions))
    ≡ list_any (λ r. redacts r (Redact l.self.address l.self.table l.self.document)) (recorded_in l.tables l.revisions)
