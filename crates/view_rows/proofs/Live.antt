-- Documents without a row in the table, or with one that a probe leaves out, need no look.
use Rattle.std.proofs.Common.{◌≡◌, ℕ, Bool, true, false, List, [], ◌∷◌, map, Option, Some, None, refl, sym, ◌∙◌, ap, ap₂}
use Rattle.std.specs.Prelude.{is_some, option_and_then, option_map, if◌then◌else◌}
use Rattle.std.specs.List.{cons_option, filter, filter_map}
use Rattle.std.proofs.lemmas.List.{append-nil}
use Rattle.ql_types.specs.declared.TableId.{TableId}
use Rattle.ion_values.specs.declared.value.Key.{Key}
use Rattle.pql_model.specs.declared.tables.Probe.{Probe}
use Rattle.pql_model.specs.declared.tables.Probe.TheVariants as probe
use Rattle.pql_model.specs.declared.tables.Row.{Row}
use Rattle.pql_model.specs.Tables.{meeting, meets}
use Rattle.ledger_model.specs.declared.block.Draft.{Draft}
use Rattle.ledger_model.specs.CommittedViews.{committed_row, row_showing}
use Rattle.ledger_model.specs.Follows.{latest_of}
use Rattle.ledger_model.specs.State.{Recorded, draft_of}
use Rattle.ledger_model.specs.Views.{latest, row_of, user_view}
use Rattle.versions.specs.Indexes.{has_key_in, passes}
use Rattle.versions.specs.Live.{live_of}

-- ---- without a row

module _ (table : TableId) (shown : Option Row → Option Row) (none : shown None ≡ None) where
  live-step : (o : Option Row) (d : Draft) (ds : List Draft) (rows : List Row) → row_of table d ≡ o
      → filter_map (λ (x : Draft). shown (row_of table x)) ds ≡ rows
      → filter_map (λ (x : Draft). shown (row_of table x)) (if is_some o then d ∷ ds else ds) ≡ cons_option (shown o) rows
  live-step None d ds rows own ih = ih ∙ ap (λ (o : Option Row). cons_option o rows) (sym none)
  live-step (Some row) d ds rows own ih = ap₂ cons_option (ap shown own) ih

  live-shown : (ds : List Draft) → filter_map (λ (d : Draft). shown (row_of table d)) (live_of table ds) ≡ filter_map (λ (d : Draft). shown (row_of table d)) ds
  live-shown [] = refl
  live-shown (d ∷ ds) =
      live-step (row_of table d) d (live_of table ds) (filter_map (λ (x : Draft). shown (row_of table x)) ds) refl (live-shown ds)

pub live_alone : (table : TableId) (ds : List Draft) → filter_map (row_of table) (live_of table ds) ≡ filter_map (row_of table) ds
live_alone table ds = live-shown table (λ o. o) refl ds

pub committed_live : (table : TableId) (revisions : List Recorded) (ds : List Draft)
    → filter_map (committed_row table revisions) (live_of table ds) ≡ filter_map (committed_row table revisions) ds
committed_live table revisions ds =
    live-shown table (option_and_then (λ (row : Row). option_map row_showing (latest_of revisions row.id.raw))) refl ds

-- ---- with a row that a probe leaves out

module _ (table : TableId) (p : Probe) where
  met-by : (b : Bool) (row : Row) (d : Draft) (ds : List Draft) (rows : List Row) → row_of table d ≡ Some row → meets p row ≡ b
      → meeting p (filter_map (row_of table) ds) ≡ meeting p rows
      → meeting p (filter_map (row_of table) (if b then d ∷ ds else ds)) ≡ (if b then row ∷ meeting p rows else meeting p rows)
  met-by true row d ds rows own met ih =
      ap (λ (o : Option Row). meeting p (cons_option o (filter_map (row_of table) ds))) own
      ∙ ap (λ (b : Bool). if b then row ∷ meeting p (filter_map (row_of table) ds) else meeting p (filter_map (row_of table) ds)) met
      ∙ ap (λ (rs : List Row). row ∷ rs) ih
  met-by false row d ds rows own met ih = ih

  met-step : (o : Option Row) (d : Draft) (ds : List Draft) (rows : List Row) → row_of table d ≡ o
      → meeting p (filter_map (row_of table) ds) ≡ meeting p rows
      → meeting p (filter_map (row_of table) (if passes (meets p) o then d ∷ ds else ds)) ≡ meeting p (cons_option o rows)
  met-step None d ds rows own ih = ih
  met-step (Some row) d ds rows own ih = met-by (meets p row) row d ds rows own refl ih

  pub met_alone : (ds : List Draft)
      → meeting p (filter_map (row_of table) (filter (λ d. passes (meets p) (row_of table d)) ds)) ≡ meeting p (filter_map (row_of table) ds)
  met_alone [] = refl
  met_alone (d ∷ ds) =
      met-step (row_of table d) d (filter (λ x. passes (meets p) (row_of table x)) ds) (filter_map (row_of table) ds) refl (met_alone ds)

-- ---- the user view where nothing pends

pub rows_live : (table : TableId) (revisions : List Recorded) (p : Probe) (documents : List Draft) (rows : List Row)
    → documents ≡ live_of table (latest (map draft_of revisions)) → rows ≡ meeting p (filter_map (row_of table) documents)
    → rows ≡ meeting p (user_view table (map draft_of revisions) [])
rows_live table revisions p documents rows are is =
    is
    ∙ ap (λ (ds : List Draft). meeting p (filter_map (row_of table) ds)) are
    ∙ ap (meeting p) (live_alone table (latest (map draft_of revisions)))
    ∙ ap (λ (ds : List Draft). meeting p (filter_map (row_of table) (latest ds))) (sym (append-nil (map draft_of revisions)))

pub rows_keyed : (table : TableId) (revisions : List Recorded) (field : List ℕ) (key : Key) (p : Probe) (documents : List Draft) (rows : List Row)
    → p ≡ probe.Key field key → documents ≡ filter (has_key_in table field key) (latest (map draft_of revisions))
    → rows ≡ meeting p (filter_map (row_of table) documents) → rows ≡ meeting p (user_view table (map draft_of revisions) [])
rows_keyed table revisions field key p documents rows asks are is =
    let q : Probe = probe.Key field key in
    is
    ∙ ap₂ (λ (r : Probe) (ds : List Draft). meeting r (filter_map (row_of table) ds)) asks are
    ∙ met_alone table q (latest (map draft_of revisions))
    ∙ ap₂ (λ (r : Probe) (ds : List Draft). meeting r (filter_map (row_of table) (latest ds))) (sym asks) (sym (append-nil (map draft_of revisions)))
