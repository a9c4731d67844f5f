use Rattle.std.proofs.Common.{◌≡◌, drop}
use Rattle.ledger_model.specs.Script.{each}
use Rattle.value_codec.proofs.Each.{behind}
use Rattle.stream_out.specs.declared.record.RevisionSummary.{RevisionSummary}
use Rattle.stream_out.specs.Replays.{kept_details, revision_by}
use Rattle.stream_out.proofs.replay.Replay.revisions_of.Given as goal

-- what was found so far and what the rest gives is what all give
abbrev pub invariant-revisions : goal.invariant-revisions
invariant-revisions l =
    behind l.revisions.items (each (λ (x : RevisionSummary). revision_by (kept_details l.self l.sequence x.document.raw) x) (drop l.one-index l.listed))
    ≡ each (λ (x : RevisionSummary). revision_by (kept_details l.self l.sequence x.document.raw) x) l.listed
