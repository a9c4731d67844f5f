use Rattle.std.proofs.Common.{◌≡◌, [], List, drop}
use Rattle.std.specs.List.{list_all}
use Rattle.ledger_model.specs.declared.block.Block.{Block}
use Rattle.ledger_model.specs.HashesAsked.{has_asked_data}
use Rattle.ledger_model.specs.State.{recorded_in}
use Rattle.journal_text.specs.Stands.{RedactionsStand}
use Rattle.journal_text.proofs.registry.unasked.has_all.Given as goal

-- what the revisions that are left pass all pass
abbrev pub invariant-revisions : goal.invariant-revisions
invariant-revisions l = (blocks : List Block) → RedactionsStand blocks [] l.redactions
    → list_all (has_asked_data blocks) (recorded_in (drop l.at l.tables) (drop l.at l.revisions))
    ≡ list_all (has_asked_data blocks) (recorded_in l.tables l.revisions)
