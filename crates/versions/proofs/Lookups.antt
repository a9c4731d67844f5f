-- A document that is looked up among the latest revisions.
use Rattle.std.proofs.Common.{◌≡◌, ℕ, suc, ◌+◌, ◌==◌, Bool, true, false, List, [], ◌∷◌, map, Option, Some, None, refl, sym, ◌∙◌, ap, arith, eq-eqb, inl, inr}
use Rattle.std.specs.Prelude.{option_map, slice_get, if◌then◌else◌}
use Rattle.std.proofs.lemmas.Bool.{eqb-true}
use Rattle.std.proofs.lemmas.Bool.Decides.{eqb_tells}
use Rattle.ledger_model.specs.State as state
use Rattle.ledger_model.specs.Script.{or_else}
use Rattle.ledger_model.specs.Follows.{latest_of}
use Rattle.versions.specs.declared.recorded.Recorded.{Recorded}
use Rattle.versions.specs.Held.{recorded_of}
use Rattle.versions.specs.Newest.{id_of, newest, newest_from, put}
use Rattle.versions.specs.Places.{ids_of, place_in}
use Rattle.versions.specs.Lookups.{document_in}

-- ---- by its place

at-step : (b : Bool) (rest : Option ℕ) (d : Recorded) (ds : List Recorded) (id at : ℕ) → ((k : ℕ) → rest ≡ Some k → slice_get ds k ≡ document_in ds id)
    → (if b then Some 0 else option_map (λ k. k + 1) rest) ≡ Some at → slice_get (d ∷ ds) at ≡ (if b then Some d else document_in ds id)
at-step true rest d ds id at ih e = let z : 0 ≡ at = cc in rw (sym z) refl
at-step false None d ds id at ih e = cc
at-step false (Some k) d ds id at ih e =
    let z : k + 1 ≡ at = cc in
    let s : at ≡ suc k = omega arith in
    rw s (ih k refl)

pub document_at : (ds : List Recorded) (id at : ℕ) → place_in (ids_of ds) id ≡ Some at → slice_get ds at ≡ document_in ds id
document_at [] id at e = cc
document_at (d ∷ ds) id at e = at-step (id_of d == id) (place_in (ids_of ds) id) d ds id at (λ k h. document_at ds id k h) e

none-step : (b : Bool) (rest : Option ℕ) (d : Recorded) (ds : List Recorded) (id : ℕ) → (rest ≡ None → None ≡ document_in ds id)
    → (if b then Some 0 else option_map (λ k. k + 1) rest) ≡ None → None ≡ (if b then Some d else document_in ds id)
none-step true rest d ds id ih e = cc
none-step false None d ds id ih e = ih refl
none-step false (Some k) d ds id ih e = cc

pub document_nowhere : (ds : List Recorded) (id : ℕ) → place_in (ids_of ds) id ≡ None → None ≡ document_in ds id
document_nowhere [] id e = refl
document_nowhere (d ∷ ds) id e = none-step (id_of d == id) (place_in (ids_of ds) id) d ds id (λ h. document_nowhere ds id h) e

-- ---- it is the last of all revisions with its id

pub other-id : (a b id : ℕ) → (a == b) ≡ false → a ≡ id → (b == id) ≡ false
other-id a b id apart here = elim (eqb_tells b id) [
  | inl t ↦ let same : (a == b) ≡ true = eq-eqb a b (here ∙ sym t.1) in let bad : ⊥ = cc in absurd bad
  | inr f ↦ f.0
]

put-step : (b : Bool) (d r : Recorded) (ds : List Recorded) (id : ℕ) → (id_of d == id_of r) ≡ b
    → document_in (put ds r) id ≡ (if id_of r == id then Some r else document_in ds id)
    → document_in (if b then r ∷ ds else d ∷ put ds r) id ≡ (if id_of r == id then Some r else document_in (d ∷ ds) id)
put-step true d r ds id same ih = elim (eqb_tells (id_of r) id) [
  | inl t ↦ rw t.0 refl
  | inr f ↦ let other : (id_of d == id) ≡ false = ap (λ (n : ℕ). n == id) (eqb-true (id_of d) (id_of r) same) ∙ f.0 in rw (f.0, other) refl
]
put-step false d r ds id same ih = elim (eqb_tells (id_of d) id) [
  | inl t ↦ let other : (id_of r == id) ≡ false = other-id (id_of d) (id_of r) id same t.1 in rw (t.0, other) refl
  | inr f ↦ rw f.0 ih
]

pub put-document : (ds : List Recorded) (r : Recorded) (id : ℕ) → document_in (put ds r) id ≡ (if id_of r == id then Some r else document_in ds id)
put-document [] r id = refl
put-document (d ∷ ds) r id = put-step (id_of d == id_of r) d r ds id refl (put-document ds r id)

-- the last one with the id
abbrev pub last_of : List Recorded → ℕ → Option Recorded
last_of [] id = None
last_of (r ∷ rs) id = or_else (last_of rs id) (if id_of r == id then Some r else None)

last-step : (o : Option Recorded) (b : Bool) (r : Recorded) (there : Option Recorded)
    → or_else o (if b then Some r else there) ≡ or_else (or_else o (if b then Some r else None)) there
last-step None true r there = refl
last-step None false r there = refl
last-step (Some last) b r there = refl

pub newest-document : (ds rs : List Recorded) (id : ℕ) → document_in (newest_from ds rs) id ≡ or_else (last_of rs id) (document_in ds id)
newest-document ds [] id = refl
newest-document ds (r ∷ rs) id =
    newest-document (put ds r) rs id ∙ ap (or_else (last_of rs id)) (put-document ds r id)
    ∙ last-step (last_of rs id) (id_of r == id) r (document_in ds id)

pub or-none : (o : Option Recorded) → or_else o None ≡ o
or-none None = refl
or-none (Some last) = refl

mapped-step : (o : Option Recorded) (b : Bool) (r : Recorded)
    → option_map recorded_of (or_else o (if b then Some r else None)) ≡ or_else (option_map recorded_of o) (if b then Some (recorded_of r) else None)
mapped-step None true r = refl
mapped-step None false r = refl
mapped-step (Some last) b r = refl

mapped-last : (rs : List Recorded) (id : ℕ) → option_map recorded_of (last_of rs id) ≡ latest_of (map recorded_of rs) id
mapped-last [] id = refl
mapped-last (r ∷ rs) id =
    mapped-step (last_of rs id) (id_of r == id) r
    ∙ ap (λ (o : Option state.Recorded). or_else o (if id_of r == id then Some (recorded_of r) else None)) (mapped-last rs id)

pub document_last : (ds rs : List Recorded) (o : Option Recorded) (id : ℕ) → o ≡ document_in ds id → ds ≡ newest rs
    → option_map recorded_of o ≡ latest_of (map recorded_of rs) id
document_last ds rs o id found is =
    ap (option_map recorded_of) (found ∙ ap (λ (xs : List Recorded). document_in xs id) is ∙ newest-document [] rs id ∙ or-none (last_of rs id))
    ∙ mapped-last rs id
