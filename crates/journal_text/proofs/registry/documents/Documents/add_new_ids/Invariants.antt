use Rattle.std.proofs.Common.{◌≡◌, ◌++◌, List, drop}
use Rattle.std.specs.List.{filter}
use Rattle.ledger_model.specs.State.{Recorded}
use Rattle.ledger_model.specs.Follows.{document_ids, is_new}
use Rattle.journal_text.specs.Stands.{DocumentsStand}
use Rattle.journal_text.proofs.registry.documents.Documents.add_new_ids.Given as goal

-- the ids so far and those of the revisions that are left are all
abbrev pub invariant-revisions : goal.invariant-revisions
invariant-revisions l = (before : List Recorded) → DocumentsStand before l.self
    → l.ids.items ++ filter (is_new before) (document_ids (drop l.revision-index l.revisions)) ≡ l.initial.ids.items ++ filter (is_new before) (document_ids l.revisions)
