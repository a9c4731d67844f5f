-- The committed view is made of the latest revisions of documents.
use Rattle.std.proofs.Common.{◌≡◌, ◌==◌, Bool, true, false, List, [], ◌∷◌, map, Option, Some, None, Bor, refl, sym, ◌∙◌, ap, ap₂}
use Rattle.std.specs.Prelude.{cond, is_some, option_and_then, option_map, if◌then◌else◌}
use Rattle.std.specs.List.{cons_option, filter, filter_map}
use Rattle.ql_types.specs.declared.DocId.{DocId}
use Rattle.ql_types.specs.declared.TableId.{TableId}
use Rattle.pql_model.specs.declared.tables.Probe.{Probe}
use Rattle.pql_model.specs.declared.tables.Row.{Row}
use Rattle.pql_model.specs.Tables.{meeting}
use Rattle.ledger_model.specs.declared.block.Content.{Content}
use Rattle.ledger_model.specs.declared.block.Content.TheVariants.{Deleted, Kept, Redacted}
use Rattle.ledger_model.specs.declared.block.Draft.{Draft}
use Rattle.ledger_model.specs.CommittedViews.{committed_row, committed_view, row_showing}
use Rattle.ledger_model.specs.Follows.{latest_of}
use Rattle.ledger_model.specs.State.{Recorded, draft_of}
use Rattle.ledger_model.specs.Views.{latest, live, row_of}
use Rattle.versions.specs.declared.recorded.Recorded as held
use Rattle.versions.specs.Held.{drafts_lent, recorded_lent, recorded_of}
use Rattle.versions.specs.Live.{AreLast, live_of}
use Rattle.versions.specs.Lookups.{last_among, those_among}
use Rattle.view_rows.specs.Named.{rows_among}
use Rattle.view_rows.specs.Shown.{live_rows}
use Rattle.view_rows.proofs.Live.{committed_live}
use Rattle.view_rows.proofs.Naming.{committed_among}

-- a row is of its document
live-id : (d : Draft) (c : Content) (row : Row) → live d.id c ≡ Some row → row.id ≡ d.id
live-id d Deleted row is = cc
live-id d (Kept v) row is = cc
live-id d (Redacted hash) row is = cc

row-id : (b : Bool) (d : Draft) (row : Row) → (if b then live d.id d.content else None) ≡ Some row → row.id ≡ d.id
row-id true d row is = live-id d d.content row is
row-id false d row is = cc

module _ (table : TableId) (revisions : List Recorded) where
  -- what a document's row shows
  abbrev shown : Option Row → Option Row
  shown o = option_and_then (λ (row : Row). option_map row_showing (latest_of revisions row.id.raw)) o

  -- a document's last revision is shown where the document has a row
  row-shown : (r : Recorded) (o : Option Row) (rest : List Recorded) (rows : List Row) → ((row : Row) → o ≡ Some row → row.id ≡ (draft_of r).id)
      → Some r ≡ latest_of revisions (draft_of r).id.raw → rows ≡ map row_showing rest
      → cons_option (shown o) rows ≡ map row_showing (cond (is_some o) (r ∷ rest) rest)
  row-shown r None rest rows of last is = is
  row-shown r (Some row) rest rows of last is =
      let found : latest_of revisions row.id.raw ≡ Some r = rw (of row refl) (sym last) in
      ap₂ cons_option (ap (option_map row_showing) found) is

  each-shown : (rs : List Recorded)
      → map (λ (r : Recorded). Some r) rs ≡ map (λ (d : Draft). latest_of revisions d.id.raw) (map draft_of rs)
      → filter_map (committed_row table revisions) (map draft_of rs) ≡ live_rows table rs
  each-shown [] last = refl
  each-shown (r ∷ rs) last =
      let first : Some r ≡ latest_of revisions (draft_of r).id.raw = cc in
      let rest : map (λ (x : Recorded). Some x) rs ≡ map (λ (d : Draft). latest_of revisions d.id.raw) (map draft_of rs) = cc in
      row-shown r (row_of table (draft_of r)) (filter (λ x. is_some (row_of table (draft_of x))) rs) (filter_map (committed_row table revisions) (map draft_of rs))
      (λ row is. row-id (r.table.raw == table.raw) (draft_of r) row is) first (each-shown rs rest)

drafts-of : (lent : List (Bor held.Recorded)) → drafts_lent lent ≡ map draft_of (recorded_lent lent)
drafts-of [] = refl
drafts-of (r ∷ rs) = ap (λ (ds : List Draft). draft_of (recorded_of r.now) ∷ ds) (drafts-of rs)

pub rows_committed : (table : TableId) (revisions : List Recorded) (lent : List (Bor held.Recorded)) (probe : Probe) (rows : List Row)
    → drafts_lent lent ≡ live_of table (latest (map draft_of revisions)) → AreLast revisions lent
    → rows ≡ meeting probe (live_rows table (recorded_lent lent)) → rows ≡ meeting probe (committed_view table revisions)
rows_committed table revisions lent probe rows drafts last is =
    let documents : map draft_of (recorded_lent lent) ≡ live_of table (latest (map draft_of revisions)) = sym (drafts-of lent) ∙ drafts in
    let found : map (λ (r : Recorded). Some r) (recorded_lent lent) ≡ map (λ (d : Draft). latest_of revisions d.id.raw) (map draft_of (recorded_lent lent)) =
    last ∙ ap (map (λ (d : Draft). latest_of revisions d.id.raw)) (drafts-of lent) in
    is
    ∙ ap (meeting probe) (sym (each-shown table revisions (recorded_lent lent) found) ∙ ap (filter_map (committed_row table revisions)) documents
    ∙ committed_live table revisions (latest (map draft_of revisions)))

-- the same of some documents
pub rows_committed_among : (table : TableId) (revisions : List Recorded) (ids : List DocId) (lent : List (Bor held.Recorded)) (probe : Probe) (rows : List Row)
    → drafts_lent lent ≡ those_among ids (latest (map draft_of revisions))
    → map (λ (r : Recorded). Some r) (recorded_lent lent) ≡ last_among ids revisions
    → rows ≡ meeting probe (live_rows table (recorded_lent lent)) → rows ≡ meeting probe (rows_among ids (committed_view table revisions))
rows_committed_among table revisions ids lent probe rows drafts last is =
    let documents : map draft_of (recorded_lent lent) ≡ those_among ids (latest (map draft_of revisions)) = sym (drafts-of lent) ∙ drafts in
    let found : map (λ (r : Recorded). Some r) (recorded_lent lent) ≡ map (λ (d : Draft). latest_of revisions d.id.raw) (map draft_of (recorded_lent lent)) =
    last ∙ ap (map (λ (d : Draft). latest_of revisions d.id.raw)) (sym documents) in
    is
    ∙ ap (meeting probe) (sym (each-shown table revisions (recorded_lent lent) found) ∙ ap (filter_map (committed_row table revisions)) documents
    ∙ committed_among table revisions ids)
