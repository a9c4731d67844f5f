use Rattle.std.proofs.Common.{[], ◌∷◌, sym, subst}
use Rattle.ledger_model.specs.declared.block.Schema.{Schema}
use Rattle.redact_tool.specs.declared.redactions.Redactions.{Redactions}
use Rattle.redact_tool.specs.Redacting.{Takes}
use Rattle.redact_tool.proofs.Sets.{redaction_taken}
use Rattle.redact_tool.proofs.redactions.Redactions.take_one.Goals as goal

pub returns-in_ok-insert : goal.returns-in_ok-insert
returns-in_ok-insert c =
    let new : Redactions = record { revisions = c.insert.new.self } in
    subst (λ (x : Schema). Takes c.args.self.now (x ∷ []) new) (sym c.in-Redact.is)
    (redaction_taken c.in-Redact.address c.in-Redact.table c.in-Redact.document c.args.self.now new
    c.in_ok-insert.ensures.updates.0)
