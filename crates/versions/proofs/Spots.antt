-- What is filed of the latest revisions, after one revision more.
use Rattle.std.proofs.Common.{◌≡◌, ℕ, zero, suc, ◌<◌, List, [], ◌∷◌, ◌++◌, length, set, Option, Some, None, refl, sym, ◌∙◌, ap, subst, arith}
use Rattle.std.specs.Prelude.{slice_get}
use Rattle.std.specs.Option.{unwrap_or}
use Rattle.std.specs.declared.cmp.Ordering.{Ordering}
use Rattle.index_post.specs.Positions.{IsChangedBy}
use Rattle.versions.specs.declared.recorded.Recorded.{Recorded}
use Rattle.versions.specs.Filing.{AreFiled, IsSpot, old_key}
use Rattle.versions.specs.Newest.{id_of, put}
use Rattle.versions.specs.Places.{ids_of, place_in}
use Rattle.versions.proofs.Filing.{filed_more, filed_none, filed_same, filed_set}
use Rattle.versions.proofs.Lookups.{document_at, document_nowhere}
use Rattle.versions.proofs.Places.{document-within, put-at, put-new}

none-within : (ds : List Recorded) (at : ℕ) → slice_get ds at ≡ None → at < length ds → ⊥
none-within [] at e within = omega arith
none-within (d ∷ ds) zero e within = cc
none-within (d ∷ ds) (suc at) e within = none-within ds at e (omega arith)

module _ {K : Type 0} (order : K → K → Ordering) (key_of : Recorded → Option K) where
  abbrev Filed : List (K × List ℕ) → List Recorded → Type 0
  Filed filed ds = AreFiled order key_of filed ds

  set_by : (before after : List (K × List ℕ)) (ds : List Recorded) (r : Recorded) (at : ℕ) (there old : Option Recorded) → slice_get ds at ≡ there
      → old ≡ there → at < length ds → IsChangedBy order at (old_key key_of old) (key_of r) before after → Filed before ds → Filed after (set ds at r)
  set_by before after ds r at None old e is within change filed = absurd (none-within ds at e within)
  set_by before after ds r at (Some x) old e is within change filed =
      filed_set order key_of before after ds at x r e (subst (λ (o : Option Recorded). IsChangedBy order at (old_key key_of o) (key_of r) before after) is change) filed

  same_by : (filed : List (K × List ℕ)) (ds : List Recorded) (r : Recorded) (at : ℕ) (there old : Option Recorded) → slice_get ds at ≡ there
      → old ≡ there → at < length ds → old_key key_of old ≡ key_of r → Filed filed ds → Filed filed (set ds at r)
  same_by filed ds r at None old e is within same were = absurd (none-within ds at e within)
  same_by filed ds r at (Some x) old e is within same were =
      filed_same order key_of filed ds at x r e (ap (old_key key_of) (sym is) ∙ same) were

  module _ (ds : List Recorded) (r : Recorded) (at : ℕ) (old : Option Recorded) (spot : IsSpot ds (id_of r) at old) where
    at_end : place_in (ids_of ds) (id_of r) ≡ None → at ≡ length ds
    at_end e = spot.place ∙ ap (λ (o : Option ℕ). unwrap_or o (length ds)) e

    at_place : (k : ℕ) → place_in (ids_of ds) (id_of r) ≡ Some k → k ≡ at
    at_place k e = sym (spot.place ∙ ap (λ (o : Option ℕ). unwrap_or o (length ds)) e)

    nothing : place_in (ids_of ds) (id_of r) ≡ None → old ≡ None
    nothing e = spot.stood ∙ sym (document_nowhere ds (id_of r) e)

    something : place_in (ids_of ds) (id_of r) ≡ Some at → old ≡ slice_get ds at
    something e = spot.stood ∙ sym (document_at ds (id_of r) at e)

    here : (k : ℕ) → place_in (ids_of ds) (id_of r) ≡ Some k → place_in (ids_of ds) (id_of r) ≡ Some at
    here k e = e ∙ ap (λ (n : ℕ). Some n) (at_place k e)

    put_by : (before after : List (K × List ℕ)) (o : Option ℕ) → place_in (ids_of ds) (id_of r) ≡ o
        → IsChangedBy order at (old_key key_of old) (key_of r) before after → Filed before ds → Filed after (put ds r)
    put_by before after None e change filed =
        subst (Filed after) (sym (put-new ds r e))
        (filed_more order key_of before after ds at r (at_end e)
        (subst (λ (o : Option Recorded). IsChangedBy order at (old_key key_of o) (key_of r) before after) (nothing e) change) filed)
    put_by before after (Some k) e change filed =
        let place = here k e in
        subst (Filed after) (sym (put-at ds r at place))
        (set_by before after ds r at (slice_get ds at) old refl (something place) (document-within ds (id_of r) at place) change filed)

    -- the key of what stood there is taken, and the new one is put
    pub filed_put : (before after : List (K × List ℕ)) → IsChangedBy order at (old_key key_of old) (key_of r) before after → Filed before ds → Filed after (put ds r)
    filed_put before after = put_by before after (place_in (ids_of ds) (id_of r)) refl

    kept_by : (filed : List (K × List ℕ)) (o : Option ℕ) → place_in (ids_of ds) (id_of r) ≡ o → old_key key_of old ≡ key_of r → Filed filed ds → Filed filed (put ds r)
    kept_by filed None e same were =
        subst (Filed filed) (sym (put-new ds r e)) (filed_none order key_of filed ds r (sym (ap (old_key key_of) (sym (nothing e)) ∙ same)) were)
    kept_by filed (Some k) e same were =
        let place = here k e in
        subst (Filed filed) (sym (put-at ds r at place))
        (same_by filed ds r at (slice_get ds at) old refl (something place) (document-within ds (id_of r) at place) same were)

    -- the keys are the same
    pub filed_kept : (filed : List (K × List ℕ)) → old_key key_of old ≡ key_of r → Filed filed ds → Filed filed (put ds r)
    filed_kept filed = kept_by filed (place_in (ids_of ds) (id_of r)) refl
