use Rattle.std.proofs.Common.{◌≡◌, drop}
use Rattle.ledger_model.specs.Footprints.{first_of}
use Rattle.footprints.specs.Lent.{all_asked_of, spot_of}
use Rattle.footprints.specs.Rules.{documents_asked}
use Rattle.footprints.proofs.rules.documents_by.Given as goal

-- none of what is passed asks for documents
abbrev pub invariant-asked : goal.invariant-asked
invariant-asked l =
    first_of (documents_asked l.rule (spot_of l.at) (all_asked_of (drop l.asked-index l.asked)))
    ≡ first_of (documents_asked l.rule (spot_of l.at) (all_asked_of l.asked))
