-- What EXEC REDACT_REVISION does, by the revision that its arguments name.
use Rattle.std.proofs.Common.{◌≡◌, ◌∙◌, List, [], ◌∷◌, ◌++◌, Option, Some, None, Result, Err, sym, ap, ap₂, subst}
use Rattle.ion_values.specs.declared.value.Value.{Value}
use Rattle.ledger_model.specs.declared.block.Schema.{Schema}
use Rattle.ledger_model.specs.declared.outcome.Refusal.TheVariants.{NoSuchRevision}
use Rattle.ledger_model.specs.Follows.{named_by}
use Rattle.ledger_model.specs.Redacting.{of_name, of_revision, redaction, revision_row}
use Rattle.ledger_model.specs.RedactionArguments.{RevisionName, redaction_of}
use Rattle.ledger_model.specs.Run.{Effect, Progress, nothing}
use Rattle.ledger_model.specs.State.{Recorded, State}
use Rattle.txn_core.specs.declared.effect.Effect as held
use Rattle.txn_core.specs.declared.stopped.ExecuteFault.{ExecuteFault}
use Rattle.txn_core.specs.Stops.{Does}

pub name_redacted : (s : State) (p : Progress) (asked : Option RevisionName) (n : RevisionName) (c : Schema)
    (done : Result held.Effect ExecuteFault) → Some n ≡ asked → c ≡ redaction_of n
    → Does done (of_revision s.revisions p.schema c (named_by s.revisions c)) → Does done (of_name s p asked)
name_redacted s p asked n c done named change does =
    subst (Does done)
    (ap (λ (x : Schema). of_revision s.revisions p.schema x (named_by s.revisions x)) change ∙ ap (of_name s p) named) does

pub name_missing : (s : State) (p : Progress) (asked : Option RevisionName) → None ≡ asked → of_name s p asked ≡ Err NoSuchRevision
name_missing s p asked none = sym (ap (of_name s p) none)

pub revision_redacted : (c : Schema) (r : Recorded) (e : Effect) (row : Value) (rows : List Value) (changes : List Schema)
    → e ≡ nothing → row ≡ revision_row r → rows ≡ e.rows ++ row ∷ [] → changes ≡ e.schema ++ c ∷ []
    → record { rows = rows; schema = changes; log = e.log; made = e.made; footprint = e.footprint } ≡ redaction c r
revision_redacted c r e row rows changes empty row_is rows_is changes_is =
    let rows_now : rows ≡ (redaction c r).rows = rows_is ∙ ap₂ (λ (x : Effect) (v : Value). x.rows ++ v ∷ []) empty row_is in
    let changes_now : changes ≡ c ∷ [] = changes_is ∙ ap (λ (x : Effect). x.schema ++ c ∷ []) empty in
    λ i. record {
      rows = rows_now i;
      schema = changes_now i;
      log = ap (λ (x : Effect). x.log) empty i;
      made = ap (λ (x : Effect). x.made) empty i;
      footprint = ap (λ (x : Effect). x.footprint) empty i;
    }
