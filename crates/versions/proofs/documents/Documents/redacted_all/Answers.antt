use Rattle.std.proofs.Common.{List, ◌<◌, ◌≤◌, length, map, ◌∙◌, ap, arith}
use Rattle.versions.specs.declared.recorded.Recorded.{Recorded}
use Rattle.versions.specs.declared.tables.Indexed.{Indexed}
use Rattle.versions.specs.Held.{recorded_of}
use Rattle.versions.proofs.Redacting.{mapped_after, redacted_end, redacted_next}
use Rattle.versions.proofs.documents.Documents.redacted_all.Goals as goal

pub changes-preserved : goal.changes-preserved
changes-preserved c =
    let within : c.changes.change-index < length c.args.changes.now = omega arith in
    let is = c.in_ok-new-2.ensures in (
      redacted_next c.args.changes.now c.changes.change-index c.change-item.result (map recorded_of c.changes.new.0)
          (map recorded_of c.in_ok-new-2.new.0) _ within c.change-item.is
          (ap (λ (d : List Recorded × List Indexed). map recorded_of d.0) is ∙ mapped_after c.change-item.result c.changes.new.0)
          c.changes.invariant.0,
      ap (λ (d : List Recorded × List Indexed). d.1) is ∙ c.changes.invariant.1,
    )

pub returns-clause-revisions : goal.returns-clause-revisions
returns-clause-revisions c =
    let past : length c.args.changes.now ≤ c.changes.change-index = omega arith in
    redacted_end c.args.changes.now c.changes.change-index (map recorded_of c.changes.new.0) _ past c.changes.invariant.0
