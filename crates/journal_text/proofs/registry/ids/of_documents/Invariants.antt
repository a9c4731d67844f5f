use Rattle.std.proofs.Common.{◌≡◌, ◌++◌, drop}
use Rattle.ledger_model.specs.Follows.{document_ids}
use Rattle.journal_text.proofs.registry.ids.of_documents.Given as goal

-- the ids so far and those of the revisions that are left are all
abbrev pub invariant-revisions : goal.invariant-revisions
invariant-revisions l = l.ids.items ++ document_ids (drop l.revision-index l.revisions) ≡ document_ids l.revisions
