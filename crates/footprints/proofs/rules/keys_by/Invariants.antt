use Rattle.std.proofs.Common.{◌≡◌, drop}
use Rattle.ledger_model.specs.Footprints.{first_of}
use Rattle.footprints.specs.Lent.{all_asked_of, schemas_of, spot_of}
use Rattle.footprints.specs.Rules.{keys_asked}
use Rattle.footprints.proofs.rules.keys_by.Given as goal

-- none of what is passed asks for keys
abbrev pub invariant-asked : goal.invariant-asked
invariant-asked l =
    first_of (keys_asked l.rule (schemas_of l.schemas) (spot_of l.at) (all_asked_of (drop l.asked-index l.asked)))
    ≡ first_of (keys_asked l.rule (schemas_of l.schemas) (spot_of l.at) (all_asked_of l.asked))
