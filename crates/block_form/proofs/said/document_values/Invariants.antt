use Rattle.std.proofs.Common.{◌≡◌, ◌++◌, drop}
use Rattle.ledger_model.specs.Journal.{document_values}
use Rattle.block_form.proofs.said.document_values.Given as goal

-- the values so far and those of the rest are all values
abbrev pub invariant-documents : goal.invariant-documents
invariant-documents l = l.values ++ document_values (drop l.at l.tables) (drop l.at l.revisions) ≡ document_values l.tables l.revisions
