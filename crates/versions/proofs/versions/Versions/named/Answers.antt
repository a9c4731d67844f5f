use Rattle.std.proofs.Common.{◌≡◌, false, sym, ap, inl, inr}
use Rattle.ledger_model.specs.State.{is_redact}
use Rattle.versions.proofs.Named.{unnamed}
use Rattle.versions.proofs.versions.Versions.named.Goals as goal

pub returns-in-Create : goal.returns-in-Create
returns-in-Create c =
    let other : is_redact c.args.change.now ≡ false = elim c.in-Create.is [
      | inl e ↦ ap is_redact e.2
      | inr f ↦ elim f [
        | inl e ↦ ap is_redact e.2
        | inr e ↦ ap is_redact e.2
      ]
    ] in
    sym (unnamed c.args.change.now c.args.self.now.revisions other)
