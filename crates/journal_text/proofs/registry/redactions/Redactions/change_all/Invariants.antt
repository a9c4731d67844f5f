use Rattle.std.proofs.Common.{drop, []}
use Rattle.ledger_model.specs.State.{state}
use Rattle.journal_text.specs.Stands.{DocumentsStand, RedactionsStand}
use Rattle.journal_text.proofs.Taken.{Halfway}
use Rattle.journal_text.proofs.registry.redactions.Redactions.change_all.Given as goal

-- the changes so far are taken in
abbrev pub invariant-changes : goal.invariant-changes
invariant-changes l = RedactionsStand l.before [] l.initial.self → DocumentsStand (state l.before).revisions l.documents
    → Halfway l.before l.schema (drop l.change-index l.schema) l.self
