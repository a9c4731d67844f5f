use Rattle.std.proofs.Common.{◌≡◌, [], ◌∷◌, List, ap, ◌∙◌, rules}
use Rattle.ql_types.specs.declared.DocId.{DocId}
use Rattle.pql_model.specs.Tables.{meeting}
use Rattle.ledger_model.specs.CommittedViews.{committed_view}
use Rattle.view_rows.specs.Named.{rows_among}
use Rattle.view_rows.proofs.Naming.{committed_alone, committed_some}
use Rattle.view_rows.proofs.named.committed_named.Goals as goal

pub returns-in_ok-rows-in-Id : goal.returns-in_ok-rows-in-Id
returns-in_ok-rows-in-Id c =
    let all = committed_view c.args.table c.args.version.now.revisions in
    let alone : c.from_ref.result.now ≡ c.in-Id.id ∷ [] = search rules in
    committed_alone c.in-Id.id c.args.probe.now all c.in_ok-rows-in-Id.rows c.in-Id.is
    (c.in_ok-rows-in-Id.ensures ∙ ap (λ (ids : List DocId). meeting c.args.probe.now (rows_among ids all)) alone)

pub returns-in_ok-rows-in-Ids : goal.returns-in_ok-rows-in-Ids
returns-in_ok-rows-in-Ids c =
    let all = committed_view c.args.table c.args.version.now.revisions in
    committed_some c.in-Ids.ids c.args.probe.now all c.in_ok-rows-in-Ids.rows c.in-Ids.is
    (c.in_ok-rows-in-Ids.ensures ∙ ap (λ (ids : List DocId). meeting c.args.probe.now (rows_among ids all)) c.as_slice.ensures)
