-- What EXEC REDACT_REVISION does to a transaction (Amazon QLDB's PartiQL; refusals and their order are the ledger's
-- own). It is answered by the revision that it redacts, of those that are committed.
use Rattle.std.specs.Prelude.{ℕ, ◌+◌, ◌||◌, Bool, nat_le, List, [], ◌∷◌, codes, Option, Some, None, Result, Ok, Err, if◌then◌else◌}
use Rattle.ion_values.specs.declared.value.Value.{Value}
use Rattle.pql_model.specs.declared.expr.Expr.{Expr}
use Rattle.ledger_model.specs.declared.block.Schema.{Schema}
use Rattle.ledger_model.specs.declared.outcome.Refusal.{Refusal}
use Rattle.ledger_model.specs.declared.outcome.Refusal.TheVariants.{NoSuchRevision, StillLatest, AlreadyRedacted, TooManyRedactions}
use Rattle.ledger_model.specs.Follows.{is_latest, named_by}
use Rattle.ledger_model.specs.Journal.{address_value, id_value, number, structure}
use Rattle.ledger_model.specs.Progress.{Effect, Progress, unless}
use Rattle.ledger_model.specs.RedactionArguments.{RevisionName, named_revision, redaction_of}
use Rattle.ledger_model.specs.State.{Recorded, State, is_redact, is_redacted_by}
use Rattle.ledger_model.specs.Values.{field}
use Rattle.ledger_model.specs.Whole.{is_redacted}

-- how many revisions the changes redact
abbrev pub redaction_count : List Schema → ℕ
redaction_count [] = 0
redaction_count (c ∷ cs) = (if is_redact c then 1 else 0) + redaction_count cs

-- it is redacted already, or one of the transaction's own changes redacts it
abbrev pub is_redacted_so_far : List Schema → Recorded → Bool
is_redacted_so_far changes r = is_redacted r.revision.content || is_redacted_by changes r

-- why the revision isn't redacted
abbrev pub not_redacted : List Recorded → List Schema → Recorded → Option Refusal
not_redacted revisions changes r =
    if is_latest revisions r then Some (StillLatest r.revision.metadata.version)
    else if is_redacted_so_far changes r then Some (AlreadyRedacted r.revision.metadata.version)
    else if nat_le 40 (redaction_count changes) then Some (TooManyRedactions 41)
    else None

-- the revision as it is answered
abbrev pub revision_row : Recorded → Value
revision_row r = structure (
    field (codes "blockAddress") (address_value r.revision.address)
    ∷ field (codes "tableId") (id_value r.table.raw)
    ∷ field (codes "documentId") (id_value r.revision.metadata.id.raw)
    ∷ field (codes "version") (number r.revision.metadata.version) ∷ [])

abbrev pub redaction : Schema → Recorded → Effect
redaction c r = record { rows = revision_row r ∷ []; schema = c ∷ []; log = []; made = 0; footprint = [] }

abbrev pub of_revision : List Recorded → List Schema → Schema → Option Recorded → Result Effect Refusal
of_revision revisions changes c None = Err NoSuchRevision
of_revision revisions changes c (Some r) = unless (not_redacted revisions changes r) (Ok (redaction c r))

abbrev pub of_name : State → Progress → Option RevisionName → Result Effect Refusal
of_name s p None = Err NoSuchRevision
of_name s p (Some n) = of_revision s.revisions p.schema (redaction_of n) (named_by s.revisions (redaction_of n))

abbrev pub redacting : State → Progress → List Value → Expr → Expr → Expr → Result Effect Refusal
redacting s p params address table document = of_name s p (named_revision params address table document)
