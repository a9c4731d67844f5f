-- The places of what has a key, filed under the key.
use Rattle.std.specs.Prelude.{◌≡◌, ℕ, suc, Bool, false, List, [], ◌∷◌, length, Option, Some, None, if◌then◌else◌}
use Rattle.std.specs.Option.{unwrap_or}
use Rattle.std.specs.declared.cmp.Ordering.{Ordering}
use Rattle.std.specs.Ordering.{is_eq}
use Rattle.index_post.specs.Positions.{positions_by}
use Rattle.versions.specs.declared.recorded.Recorded.{Recorded}
use Rattle.versions.specs.Lookups.{document_in}
use Rattle.versions.specs.Places.{ids_of, place_in}

-- the places, counted on from n, of the members that pass the test
abbrev pub places_from : {X : Type 0} → (X → Bool) → ℕ → List X → List ℕ
places_from test n [] = []
places_from test n (x ∷ xs) = if test x then n ∷ places_from test (suc n) xs else places_from test (suc n) xs

-- whether this is filed under the key
abbrev pub is_filed : {K : Type 0} → (K → K → Ordering) → K → Option K → Bool
is_filed order key None = false
is_filed order key (Some own) = is_eq (order key own)

-- each key has the places of the members with it
abbrev pub AreFiled : {K X : Type 0} → (K → K → Ordering) → (X → Option K) → List (K × List ℕ) → List X → Type 0
AreFiled {K} order key_of filed xs =
    (key : K) → positions_by order filed key ≡ places_from (λ x. is_filed order key (key_of x)) 0 xs

-- the key of a member, where there is one
abbrev pub old_key : {K X : Type 0} → (X → Option K) → Option X → Option K
old_key key_of None = None
old_key key_of (Some x) = key_of x

-- where a document stands or will stand, and what stands there now
pub record IsSpot (documents : List Recorded) (id at : ℕ) (old : Option Recorded) : Type 0 where
  pub place : at ≡ unwrap_or (place_in (ids_of documents) id) (length documents)
  pub stood : old ≡ document_in documents id
