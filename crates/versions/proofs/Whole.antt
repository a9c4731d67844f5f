-- What stands beside all revisions, after one revision more and after a redaction.
use Rattle.std.proofs.Common.{◌≡◌, ℕ, ◌^◌, ◌<◌, ◌==◌, List, [], ◌∷◌, ◌++◌, length, map, Option, refl, sym, ◌∙◌, ap, subst}
use Rattle.ql_types.specs.declared.DocId.{DocId}
use Rattle.ql_types.specs.declared.TableId.{TableId}
use Rattle.ledger_model.specs.declared.block.Schema.{Schema}
use Rattle.ledger_model.specs.State.{redacts}
use Rattle.versions.specs.declared.recorded.Recorded.{Recorded}
use Rattle.versions.specs.Held.{recorded_of}
use Rattle.versions.specs.ByTable.{AreByTable, IsEntered, by_table}
use Rattle.versions.specs.Filing.{AreFiled}
use Rattle.versions.specs.Histories.{AreHistories, entered, history_at, places_of}
use Rattle.versions.specs.Live.{AllFit, IsWhole, live_table}
use Rattle.versions.specs.Newest.{id_of, newest, put}
use Rattle.versions.specs.Places.{ids_of, place_in}
use Rattle.versions.specs.Redactions.{IsOfDocument, all_changed, before_last, changed_along, is_revised}
use Rattle.versions.proofs.Entering.{histories_more}
use Rattle.versions.proofs.Newest.{newest-last}
use Rattle.versions.proofs.Redacting.{changed_is, newest_stands, one_stands, places_stand}
use Rattle.versions.proofs.TablesHeld.{tables_more}

fits_more : (rs : List Recorded) (r : Recorded) → AllFit (map recorded_of rs) → id_of r < 2 ^ 128 → AllFit (map recorded_of (rs ++ r ∷ []))
fits_more [] r all fits = (fits, tt)
fits_more (x ∷ xs) r all fits = (all.0, fits_more xs r all.1 fits)

fits_stand : (c : Schema) (rs : List Recorded) → AllFit (map recorded_of rs) → AllFit (map recorded_of (all_changed c rs))
fits_stand c [] all = tt
fits_stand c (r ∷ rs) all = (
  subst (λ (n : ℕ). n < 2 ^ 128) (sym (one_stands id_of (λ x. refl) (is_revised rs r) (redacts (recorded_of r) c) r)) all.0,
  fits_stand c rs all.1,
)

module _ (rs latest : List Recorded) (kept : List (List ℕ)) (tables live : List (TableId × List ℕ))
    (whole : IsWhole rs latest kept tables live) where
  -- one revision more
  pub whole_more : (r : Recorded) (more now : List Recorded) (longer : List (List ℕ)) (new_tables new_live : List (TableId × List ℕ))
      → more ≡ rs ++ r ∷ [] → now ≡ put latest r → longer ≡ entered kept (place_in (ids_of latest) (id_of r)) (length rs)
      → IsEntered tables r.table (length rs) new_tables → AreFiled by_table live_table new_live (put latest r) → id_of r < 2 ^ 128
      → IsWhole more now longer new_tables new_live
  whole_more r more now longer new_tables new_live more_is now_is longer_is entered_are live_are fits =
      let place : Option ℕ = place_in (ids_of latest) (id_of r) in
      record {
        newest_is = now_is ∙ ap (λ (ds : List Recorded). put ds r) whole.newest_is ∙ sym (newest-last rs r) ∙ ap newest (sym more_is);
        kept_are =
            subst (λ (k : List (List ℕ)). AreHistories k now more) (sym longer_is)
            (subst (λ (ds : List Recorded). AreHistories (entered kept place (length rs)) ds more) (sym now_is)
            (subst (λ (xs : List Recorded). AreHistories (entered kept place (length rs)) (put latest r) xs) (sym more_is)
            (histories_more kept latest rs whole.kept_are r place refl)));
        tables_are = subst (AreByTable new_tables) (sym more_is) (tables_more tables new_tables rs r whole.tables_are entered_are);
        live_are = subst (AreFiled by_table live_table new_live) (sym now_is) live_are;
        fits = subst (λ (xs : List Recorded). AllFit (map recorded_of xs)) (sym more_is) (fits_more rs r whole.fits fits);
      }

  -- the same stands beside them after a redaction
  pub whole_stands : (c : Schema) → IsWhole (all_changed c rs) latest kept tables live
  whole_stands c = record {
    newest_is = whole.newest_is ∙ sym (newest_stands c rs);
    kept_are = record {
      long = whole.kept_are.long;
      places = λ id. whole.kept_are.places id ∙ sym (places_stand (λ (r : Recorded). id_of r == id) (λ r. refl) c rs 0);
    };
    tables_are = λ table.
        whole.tables_are table ∙ sym (places_stand (λ (r : Recorded). r.table.raw == table.raw) (λ r. refl) c rs 0);
    live_are = whole.live_are;
    fits = fits_stand c rs whole.fits;
  }

  -- what is kept of a document leads to its revisions
  pub history_is : (id : DocId) (document : Option ℕ) (history : List ℕ) → document ≡ place_in (ids_of latest) id.raw
      → history ≡ history_at kept document → history ≡ places_of rs id.raw
  history_is id document history there is = is ∙ ap (history_at kept) there ∙ whole.kept_are.places id.raw

  pub redacted_is : (c : Schema) (id : DocId) (document : Option ℕ) (history : List ℕ) (new : List Recorded) → IsOfDocument c id
      → document ≡ place_in (ids_of latest) id.raw → history ≡ history_at kept document
      → new ≡ changed_along c (before_last history) rs → new ≡ all_changed c rs
  redacted_is c id document history new of there is changed =
      changed ∙ ap (λ (places : List ℕ). changed_along c (before_last places) rs) (history_is id document history there is)
      ∙ changed_is c id of rs
