use Rattle.std.proofs.Common.{◌≡◌, ◌++◌, drop}
use Rattle.ledger_model.specs.Follows.{created_ids}
use Rattle.journal_text.proofs.registry.ids.created.Given as goal

-- the ids so far and those of the changes that are left are all
abbrev pub invariant-changes : goal.invariant-changes
invariant-changes l = l.ids.items ++ created_ids (drop l.change-index l.schema) ≡ created_ids l.schema
