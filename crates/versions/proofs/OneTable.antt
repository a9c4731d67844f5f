-- The documents of one table, and those at given places.
use Rattle.std.proofs.Common.{◌≡◌, ℕ, suc, ◌+◌, ◌<◌, ◌==◌, Bool, true, false, List, [], ◌∷◌, ◌++◌, length, get_or, take, map, Option, Some, None, Bor, refl, sym, ◌∙◌, ap, ap₂, zero}
use Rattle.std.specs.Prelude.{option_map, slice_get, is_some, if◌then◌else◌}
use Rattle.std.specs.List.{cons_option, filter_map}
use Rattle.std.specs.Option.{IfSome}
use Rattle.std.proofs.lemmas.List.{append_assoc, append-nil, take_more}
use Rattle.std.proofs.lemmas.Option.{slice_get-map}
use Rattle.ion_values.specs.declared.value.Key.{Key}
use Rattle.ion_values.specs.Keys.{compare_keys}
use Rattle.ion_values.specs.declared.value.Value.{Value}
use Rattle.ql_types.specs.declared.TableId.{TableId}
use Rattle.pql_model.specs.declared.tables.Row.{Row}
use Rattle.pql_model.specs.Steps.{field_of}
use Rattle.pql_model.specs.Tables.{has_key, key_in}
use Rattle.ledger_model.specs.declared.block.Content.{Content}
use Rattle.ledger_model.specs.declared.block.Content.TheVariants.{Deleted, Kept, Redacted}
use Rattle.ledger_model.specs.declared.block.Draft.{Draft}
use Rattle.ledger_model.specs.Follows.{latest_of}
use Rattle.ledger_model.specs.State as state
use Rattle.ledger_model.specs.State.{draft_of}
use Rattle.ledger_model.specs.Views.{latest, live, row_of}
use Rattle.index_post.specs.Positions.{positions_by, positions_of}
use Rattle.versions.specs.declared.recorded.Recorded.{Recorded}
use Rattle.versions.specs.Held.{drafts_lent, recorded_lent, recorded_of}
use Rattle.versions.specs.ByTable.{by_table}
use Rattle.versions.specs.Filing.{AreFiled, is_filed, places_from}
use Rattle.versions.specs.Indexes.{has_key_in, key_on, key_shown, passes}
use Rattle.versions.specs.Live.{AreLast, is_live, live_in, live_table}
use Rattle.versions.specs.Lookups.{document_in}
use Rattle.versions.specs.Newest.{id_of, newest}
use Rattle.versions.specs.Places.{ids_of, numbers_of, place_in}
use Rattle.versions.proofs.Among.{some_more}
use Rattle.versions.proofs.LastOnes.{Found, apart-newest, each-last, found-all, lent-recorded}
use Rattle.versions.proofs.Members.{found}
use Rattle.versions.proofs.Newest.{lent_drafts, lent_values, newest-latest}
use Rattle.versions.proofs.Places.{tied}
use Rattle.versions.proofs.Trees.{same_test}

abbrev pub draft : Recorded → Draft
draft d = draft_of (recorded_of d)

abbrev pub drafts_in : List Recorded → List Draft
drafts_in ds = map draft_of (map recorded_of ds)

-- ---- places that are listed

pub listed_next : (places rest all more whole : List ℕ) (at : ℕ) → places ≡ at ∷ rest → more ≡ all ++ at ∷ [] → all ++ places ≡ whole → more ++ rest ≡ whole
listed_next places rest all more whole at is next so_far =
    ap (λ (xs : List ℕ). xs ++ rest) next ∙ append_assoc all (at ∷ []) rest ∙ ap (λ (xs : List ℕ). all ++ xs) (sym is) ∙ so_far

pub listed_end : (places all whole : List ℕ) → places ≡ [] → all ++ places ≡ whole → all ≡ whole
listed_end places all whole none so_far = sym (append-nil all) ∙ ap (λ (xs : List ℕ). all ++ xs) (sym none) ∙ so_far

-- ---- revisions at places

pub at_next : (ds : List Recorded) (places : List ℕ) (i at : ℕ) (o : Option Recorded) (some more : List Recorded) → i < length places → at ≡ get_or places i 0
    → o ≡ slice_get ds at → more ≡ some ++ cons_option o [] → some ≡ found ds (take i places) → more ≡ found ds (take (i + 1) places)
at_next ds places i at o some more within this there next so_far =
    some_more ds (take i places) at o some more there next so_far
    ∙ ap (found ds) (ap (λ (n : ℕ). take i places ++ n ∷ []) this ∙ sym (take_more places i 0 within))

-- as drafts
drafts-first : (o : Option Recorded) (ds : List Recorded) → drafts_in (cons_option o ds) ≡ cons_option (option_map draft o) (drafts_in ds)
drafts-first None ds = refl
drafts-first (Some d) ds = refl

drafts-all : (ds : List Recorded) → drafts_in ds ≡ map draft ds
drafts-all [] = refl
drafts-all (d ∷ ds) = ap (λ (xs : List Draft). draft d ∷ xs) (drafts-all ds)

drafts-at : (ds : List Recorded) (places : List ℕ) → drafts_in (found ds places) ≡ filter_map (λ at. slice_get (drafts_in ds) at) places
drafts-at ds [] = refl
drafts-at ds (at ∷ places) =
    drafts-first (slice_get ds at) (found ds places)
    ∙ ap₂ cons_option (sym (slice_get-map draft ds at) ∙ ap (λ (xs : List Draft). slice_get xs at) (sym (drafts-all ds))) (drafts-at ds places)

pub lent_places : (all : List (Bor Recorded)) (rs : List Recorded) (places : List ℕ) → lent_values all ≡ found (newest rs) places
    → drafts_lent all ≡ filter_map (λ at. slice_get (latest (map draft_of (map recorded_of rs))) at) places
lent_places all rs places is =
    lent_drafts all ∙ ap drafts_in is ∙ drafts-at (newest rs) places
    ∙ ap (λ (ds : List Draft). filter_map (λ at. slice_get ds at) places) (newest-latest rs)

-- each is the last one of its document
one-found : (all ds : List Recorded) (at : ℕ) → Found all ds → IfSome (slice_get ds at) (λ d. document_in all (id_of d) ≡ Some d)
one-found all [] at are = tt
one-found all (d ∷ ds) zero are = are.0
one-found all (d ∷ ds) (suc at) are = one-found all ds at are.1

found-first : (all : List Recorded) (o : Option Recorded) (ds : List Recorded) → IfSome o (λ d. document_in all (id_of d) ≡ Some d) → Found all ds
    → Found all (cons_option o ds)
found-first all None ds one are = are
found-first all (Some d) ds one are = (one, are)

found-at : (all : List Recorded) (places : List ℕ) → Found all all → Found all (found all places)
found-at all [] are = tt
found-at all (at ∷ places) are = found-first all (slice_get all at) (found all places) (one-found all all at are) (found-at all places are)

pub lent_last_at : (all : List (Bor Recorded)) (rs : List Recorded) (places : List ℕ) → lent_values all ≡ found (newest rs) places
    → AreLast (map recorded_of rs) all
lent_last_at all rs places is =
    ap (map (λ (r : state.Recorded). Some r)) (lent-recorded all ∙ ap (map recorded_of) is)
    ∙ each-last rs (found (newest rs) places) (found-at (newest rs) places (found-all (newest rs) (apart-newest [] rs tt)))
    ∙ ap (map (λ (d : Draft). latest_of (map recorded_of rs) d.id.raw)) (sym (lent_drafts all ∙ ap drafts_in is))

-- ---- the place of a document

numbers-in : (ds : List Recorded) → ids_of ds ≡ numbers_of (drafts_in ds)
numbers-in [] = refl
numbers-in (d ∷ ds) = ap (λ (ns : List ℕ). id_of d ∷ ns) (numbers-in ds)

pub place_is : (ds rs : List Recorded) (id : ℕ) (place : Option ℕ) → ds ≡ newest rs → place ≡ place_in (ids_of ds) id
    → place ≡ place_in (numbers_of (latest (map draft_of (map recorded_of rs)))) id
place_is ds rs id place newest_is is =
    is ∙ ap (λ (ns : List ℕ). place_in ns id) (numbers-in ds)
    ∙ ap (λ (xs : List Recorded). place_in (numbers_of (drafts_in xs)) id) newest_is
    ∙ ap (λ (xs : List Draft). place_in (numbers_of xs) id) (newest-latest rs)

-- ---- the places of documents that pass a test

module _ (test : Recorded → Bool) (other : Draft → Bool) (same : (d : Recorded) → test d ≡ other (draft d)) where
  places-same : (n : ℕ) (ds : List Recorded) → places_from test n ds ≡ places_from other n (drafts_in ds)
  places-same n [] = refl
  places-same n (d ∷ ds) =
      ap₂ (λ (b : Bool) (places : List ℕ). if b then n ∷ places else places) (same d) (places-same (suc n) ds)

  pub places_are : (ds rs : List Recorded) (places : List ℕ) → ds ≡ newest rs → places ≡ places_from test 0 ds
      → places ≡ places_from other 0 (latest (map draft_of (map recorded_of rs)))
  places_are ds rs places newest_is is =
      is ∙ places-same 0 ds ∙ ap (λ (xs : List Recorded). places_from other 0 (drafts_in xs)) newest_is
      ∙ ap (places_from other 0) (newest-latest rs)

-- those of a table
live-by : (b : Bool) (d : Draft) (v : Value) → b ≡ is_some (if b then live d.id (Kept v) else None)
live-by true d v = refl
live-by false d v = refl

abbrev none-by : Bool → Option Row
none-by b = if b then None else None

dead-by : (b : Bool) → false ≡ is_some (none-by b)
dead-by true = refl
dead-by false = refl

live-same : (content : Content) (table own : TableId) (d : Draft)
    → is_filed by_table table (live_in own content) ≡ is_some (if own.raw == table.raw then live d.id content else None)
live-same (Kept v) table own d = tied table.raw own.raw ∙ live-by (own.raw == table.raw) d v
live-same Deleted table own d = dead-by (own.raw == table.raw)
live-same (Redacted hash) table own d = dead-by (own.raw == table.raw)

pub live_places : (ds rs : List Recorded) (filed : List (TableId × List ℕ)) (places : List ℕ) (table : TableId) → ds ≡ newest rs
    → AreFiled by_table live_table filed ds → places ≡ positions_by by_table filed table
    → places ≡ places_from (is_live table) 0 (latest (map draft_of (map recorded_of rs)))
live_places ds rs filed places table newest_is were is =
    places_are (λ d. is_filed by_table table (live_table d)) (is_live table) (λ d. live-same d.revision.content table d.table (draft d))
    ds rs places newest_is (is ∙ were table)

-- those with a key
has-by : (own : Option Key) (key : Key) → is_filed compare_keys key own ≡ has_key key own
has-by None key = refl
has-by (Some own) key = same_test key own

key-same : (shown : Option Row) (field : List ℕ) (key : Key) → is_filed compare_keys key (key_shown field shown) ≡ passes (λ row. has_key key (key_in (field_of field row.value))) shown
key-same None field key = refl
key-same (Some row) field key = has-by (key_in (field_of field row.value)) key

pub key_places : (ds rs : List Recorded) (tree : List (Key × List ℕ)) (places : List ℕ) (table : TableId) (field : List ℕ) (key : Key) → ds ≡ newest rs
    → AreFiled compare_keys (key_on table field) tree ds → places ≡ positions_of tree key
    → places ≡ places_from (has_key_in table field key) 0 (latest (map draft_of (map recorded_of rs)))
key_places ds rs tree places table field key newest_is were is =
    places_are (λ d. is_filed compare_keys key (key_on table field d)) (has_key_in table field key) (λ d. key-same (row_of table (draft d)) field key)
    ds rs places newest_is (is ∙ were key)
