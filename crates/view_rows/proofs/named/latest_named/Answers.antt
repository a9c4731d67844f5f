use Rattle.std.proofs.Common.{map, ap, ◌∙◌}
use Rattle.std.specs.List.{filter_map, flat_map}
use Rattle.ledger_model.specs.State.{draft_of}
use Rattle.ledger_model.specs.Views.{latest, row_of}
use Rattle.versions.specs.Indexes.{documents_with}
use Rattle.pql_model.specs.Tables.{meeting}
use Rattle.versions.specs.Held.{drafts_lent}
use Rattle.view_rows.proofs.Live.{rows_keyed}
use Rattle.view_rows.proofs.Naming.{keys_asked}
use Rattle.view_rows.proofs.named.latest_named.Goals as goal

pub rows_of-requires-in-Keys : goal.rows_of-requires-in-Keys
rows_of-requires-in-Keys c =
    keys_asked c.in-Keys.field c.in-Keys.keys c.args.probe.now c.as_slice-in-Keys-2.result.now
    (filter_map (row_of c.args.table) (latest (map draft_of c.args.version.now.revisions))) c.in-Keys.is
    (c.as_slice-in-Keys-2.ensures ∙ c.in_ok-ids-in-Keys.ensures
    ∙ ap (flat_map (documents_with c.args.version.now.revisions c.args.table c.in-Keys.field)) c.as_slice-in-Keys.ensures)

pub returns-in_ok-rows-in-Key : goal.returns-in_ok-rows-in-Key
returns-in_ok-rows-in-Key c =
    rows_keyed c.args.table c.args.version.now.revisions c.in-Key.field c.in-Key.key c.args.probe.now _ c.in_ok-rows-in-Key.rows c.in-Key.is
    c.in_ok-latest-in-Key.ensures (c.in_ok-rows-in-Key.ensures ∙ ap (λ rs. meeting c.args.probe.now (filter_map (row_of c.args.table) (drafts_lent rs))) c.as_slice.ensures)
