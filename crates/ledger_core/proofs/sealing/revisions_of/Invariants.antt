use Rattle.std.proofs.Common.{◌≡◌, map}
use Rattle.ledger_model.specs.Journal.{revision_value}
use Rattle.ledger_model.specs.Making.{revision_of}
use Rattle.ledger_core.proofs.sealing.revisions_of.Given as goal

abbrev pub invariant-drafts : goal.invariant-drafts
invariant-drafts l =
    (l.valued.revisions ≡ map (revision_of l.header) (map (λ p. p.0) l.yielded)) × (l.valued.values ≡ map revision_value l.valued.revisions)
