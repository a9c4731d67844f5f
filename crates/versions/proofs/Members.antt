-- The documents of a table that aren't deleted, by their places.
use Rattle.std.proofs.Common.{◌≡◌, ℕ, ◌==◌, Bool, true, false, List, [], ◌∷◌, ◌++◌, map, Option, Some, None, refl, sym, ◌∙◌, ap}
use Rattle.std.specs.Prelude.{slice_get, if◌then◌else◌}
use Rattle.std.specs.List.{cons_option, filter, filter_map}
use Rattle.std.proofs.lemmas.List.{append-nil, append_assoc}
use Rattle.ql_types.specs.declared.DocId.{DocId}
use Rattle.ql_types.specs.declared.TableId.{TableId}
use Rattle.pql_model.specs.declared.tables.Row.{Row}
use Rattle.ion_values.specs.declared.value.Value.{Value}
use Rattle.ledger_model.specs.declared.block.Content.{Content}
use Rattle.ledger_model.specs.declared.block.Content.TheVariants.{Deleted, Kept, Redacted}
use Rattle.ledger_model.specs.State.{draft_of}
use Rattle.ledger_model.specs.Views.{live, row_of}
use Rattle.index_post.specs.Positions.{positions_by}
use Rattle.versions.specs.declared.recorded.Recorded.{Recorded}
use Rattle.versions.specs.Held.{recorded_of}
use Rattle.versions.specs.ByTable.{by_table}
use Rattle.versions.specs.Filing.{AreFiled, is_filed}
use Rattle.versions.specs.Live.{live_in, live_table}
use Rattle.versions.specs.Lookups.{documents_of, id_in, ids_among}
use Rattle.versions.specs.Newest.{newest}
use Rattle.versions.proofs.Filing.{members_at}
use Rattle.versions.proofs.Newest.{newest-latest}
use Rattle.versions.proofs.Places.{tied}

abbrev pub doc_of : Recorded → DocId
doc_of r = r.revision.metadata.id

abbrev pub ids_in : List Recorded → List DocId
ids_in ds = map doc_of ds

abbrev pub ids_shown : List Row → List DocId
ids_shown rows = map (λ row. row.id) rows

-- ---- ids that are read one after another

abbrev pub found : List Recorded → List ℕ → List Recorded
found ds places = filter_map (λ at. slice_get ds at) places

id_first : (o : Option Recorded) (ds : List Recorded) → ids_in (cons_option o ds) ≡ id_in o ++ ids_in ds
id_first None ds = refl
id_first (Some d) ds = refl

pub ids_next : (ds : List Recorded) (places rest : List ℕ) (at : ℕ) (o : Option Recorded) (ids more all : List DocId) → places ≡ at ∷ rest → o ≡ slice_get ds at
    → more ≡ ids ++ id_in o → ids ++ ids_in (found ds places) ≡ all → more ++ ids_in (found ds rest) ≡ all
ids_next ds places rest at o ids more all is there next so_far =
    let first : ids_in (found ds places) ≡ id_in o ++ ids_in (found ds rest) =
    ap (λ (ps : List ℕ). ids_in (found ds ps)) is ∙ ap (λ (own : Option Recorded). ids_in (cons_option own (found ds rest))) (sym there) ∙ id_first o (found ds rest) in
    ap (λ (xs : List DocId). xs ++ ids_in (found ds rest)) next
    ∙ append_assoc ids (id_in o) (ids_in (found ds rest))
    ∙ ap (λ (xs : List DocId). ids ++ xs) (sym first)
    ∙ so_far

pub ids_end : (ds : List Recorded) (places : List ℕ) (ids all : List DocId) → places ≡ [] → ids ++ ids_in (found ds places) ≡ all → ids ≡ all
ids_end ds places ids all none so_far = sym (append-nil ids) ∙ ap (λ (ps : List ℕ). ids ++ ids_in (found ds ps)) (sym none) ∙ so_far

-- ---- the ids of a table's documents

kept_step : (b : Bool) (d : Recorded) (v : Value) (ds : List Recorded) (rows : List Row) → ids_in ds ≡ ids_shown rows
    → ids_in (if b then d ∷ ds else ds) ≡ ids_shown (cons_option (if b then live (doc_of d) (Kept v) else None) rows)
kept_step true d v ds rows ih = ap (λ (ids : List DocId). doc_of d ∷ ids) ih
kept_step false d v ds rows ih = ih

none_step : (b : Bool) (ds : List Recorded) (rows : List Row) → ids_in ds ≡ ids_shown rows → ids_in ds ≡ ids_shown (cons_option (if b then None else None) rows)
none_step true ds rows ih = ih
none_step false ds rows ih = ih

by_content : (content : Content) (table own : TableId) (d : Recorded) (ds : List Recorded) (rows : List Row) → ids_in ds ≡ ids_shown rows
    → ids_in (if is_filed by_table table (live_in own content) then d ∷ ds else ds)
    ≡ ids_shown (cons_option (if own.raw == table.raw then live (doc_of d) content else None) rows)
by_content (Kept v) table own d ds rows ih =
    ap (λ (b : Bool). ids_in (if b then d ∷ ds else ds)) (tied table.raw own.raw) ∙ kept_step (own.raw == table.raw) d v ds rows ih
by_content Deleted table own d ds rows ih = none_step (own.raw == table.raw) ds rows ih
by_content (Redacted hash) table own d ds rows ih = none_step (own.raw == table.raw) ds rows ih

live_among : (table : TableId) (ds : List Recorded)
    → ids_in (filter (λ d. is_filed by_table table (live_table d)) ds) ≡ ids_among table (map draft_of (map recorded_of ds))
live_among table [] = refl
live_among table (d ∷ ds) =
    by_content d.revision.content table d.table d (filter (λ e. is_filed by_table table (live_table e)) ds)
    (filter_map (row_of table) (map draft_of (map recorded_of ds))) (live_among table ds)

pub documents_are : (latest rs : List Recorded) (filed : List (TableId × List ℕ)) (places : List ℕ) (table : TableId) (ids : List DocId) → latest ≡ newest rs
    → AreFiled by_table live_table filed latest → places ≡ positions_by by_table filed table
    → ids ≡ ids_in (filter_map (λ at. slice_get latest at) places) → ids ≡ documents_of (map recorded_of rs) table
documents_are latest rs filed places table ids newest_is were places_are is =
    let test : Recorded → Bool = λ d. is_filed by_table table (live_table d) in
    is
    ∙ ap (λ (at : List ℕ). ids_in (found latest at)) (places_are ∙ were table)
    ∙ ap ids_in (members_at test latest)
    ∙ live_among table latest
    ∙ ap (λ (ds : List Recorded). ids_among table (map draft_of (map recorded_of ds))) newest_is
    ∙ ap (ids_among table) (newest-latest rs)
