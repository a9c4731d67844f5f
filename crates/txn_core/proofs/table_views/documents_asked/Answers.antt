use Rattle.std.proofs.Common.{List, ◌++◌, map, ap, subst, ◌∙◌}
use Rattle.ql_types.specs.declared.DocId.{DocId}
use Rattle.ledger_model.specs.State.{draft_of}
use Rattle.ledger_model.specs.Views.{latest}
use Rattle.versions.specs.Lookups.{those_among}
use Rattle.view_rows.specs.Seen.{drafts_seen}
use Rattle.txn_core.specs.Narrow.{IsNarrow}
use Rattle.txn_core.proofs.Narrowing.{documents_narrowed}
use Rattle.txn_core.proofs.table_views.documents_asked.Goals as goal

pub returns-in_ok-documents-in-Some-read : goal.returns-in_ok-documents-in-Some-read
returns-in_ok-documents-in-Some-read c =
    documents_narrowed c.args.base.now c.args.log.now c.args.table c.args.probe.now c.in-Some-read.ids (drafts_seen c.in_ok-documents-in-Some-read.documents)
    (subst (IsNarrow c.args.base.now c.args.log.now c.args.table c.args.probe.now) c.in-Some-read.is c.in_ok-read.ensures)
    (c.in_ok-documents-in-Some-read.ensures
    ∙ ap (λ (ids : List DocId). those_among ids (latest (map draft_of c.args.base.now.revisions ++ c.args.log.now))) c.as_slice.ensures)
