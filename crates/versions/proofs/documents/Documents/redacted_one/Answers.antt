use Rattle.std.proofs.Common.{◌≡◌, List, false, sym, ◌∙◌, ap, inl, inr}
use Rattle.ledger_model.specs.State.{is_redact}
use Rattle.versions.specs.declared.recorded.Recorded.{Recorded}
use Rattle.versions.proofs.Redacting.{unredacted}
use Rattle.versions.proofs.documents.Documents.redacted_one.Goals as goal

pub returns-in_ok-same-in-Create : goal.returns-in_ok-same-in-Create
returns-in_ok-same-in-Create c =
    let other : is_redact c.args.change.now ≡ false = elim c.in-Create.is [
      | inl e ↦ ap is_redact e.2
      | inr f ↦ elim f [
        | inl e ↦ ap is_redact e.2
        | inr e ↦ ap is_redact e.2
      ]
    ] in
    c.in_ok-same-in-Create.ensures
    ∙ ap (λ (rs : List Recorded). (rs, c.args.self.now.1)) (sym (unredacted c.args.change.now c.args.self.now.0 other))
