use Rattle.std.proofs.Common.{◌≡◌, ℕ, List, drop}
use Rattle.std.specs.List.{list_all}
use Rattle.ledger_model.specs.declared.block.Block.{Block}
use Rattle.ledger_model.specs.State.{recorded_in, state}
use Rattle.ledger_model.specs.Follows.{created_ids, revision_follows}
use Rattle.journal_text.specs.Stands.{HasKeys, Stands}
use Rattle.journal_text.proofs.registry.Registry.have_all.Given as goal

-- what the revisions that are left pass all pass
abbrev pub invariant-revisions : goal.invariant-revisions
invariant-revisions l = (strand : ℕ) (before : List Block) → Stands strand before l.self → HasKeys l.created (created_ids l.block.info.schema)
    → list_all (revision_follows (state before) l.block) (recorded_in (drop l.at l.tables) (drop l.at l.revisions))
    ≡ list_all (revision_follows (state before) l.block) (recorded_in l.tables l.revisions)
