-- The positions of keys (own): of each key a list in ascending order.
use Rattle.std.specs.Prelude.{◌≡◌, ℕ, ◌<◌, List, [], ◌∷◌, map, if◌then◌else◌}
use Rattle.std.specs.Option.{unwrap_or}
use Rattle.std.specs.declared.option.Option.{Option}
use Rattle.std.specs.declared.option.Option.TheVariants.{None, Some}
use Rattle.std.specs.declared.cmp.Ordering.{Ordering}
use Rattle.std.specs.Ordering.{is_eq, match_ordering, nat_cmp}
use Rattle.std.specs.Map.{keys_of, lookup}
use Rattle.std.specs.BTreeMap.{is_at}
use Rattle.ion_values.specs.declared.value.Key.{Key}
use Rattle.ion_values.specs.Keys.{compare_keys}
use Rattle.pmap.specs.Pairs.{Each}

-- each position is less than all behind it
abbrev pub IsAscending : List ℕ → Type 0
IsAscending [] = Unit {0}
IsAscending (n ∷ positions) = Each (λ m. n < m) positions × IsAscending positions

-- the positions with this one in its place in the order, once
abbrev pub with_position : ℕ → List ℕ → List ℕ
with_position n [] = n ∷ []
with_position n (m ∷ positions) =
    match_ordering (nat_cmp n m) (n ∷ m ∷ positions) (m ∷ positions) (m ∷ with_position n positions)

-- the positions without this one
abbrev pub without_position : ℕ → List ℕ → List ℕ
without_position n [] = []
without_position n (m ∷ positions) = if is_eq (nat_cmp n m) then positions else m ∷ without_position n positions

module _ {K : Type 0} (order : K → K → Ordering) where
  -- the positions with the key, and none where the key isn't there
  abbrev pub positions_by : List (K × List ℕ) → K → List ℕ
  positions_by filed key = unwrap_or (lookup (is_at (order key)) filed) []

  -- what becomes of a key's positions where one is put under a key
  abbrev pub put_at : ℕ → Option K → K → List ℕ → List ℕ
  put_at n None key positions = positions
  put_at n (Some new) key positions = if is_eq (order key new) then with_position n positions else positions

  -- the same where one is taken from a key
  abbrev pub taken_at : ℕ → Option K → K → List ℕ → List ℕ
  taken_at n None key positions = positions
  taken_at n (Some old) key positions = if is_eq (order key old) then without_position n positions else positions

  -- the position is taken from the old key, if there is one, and put under the new one, if there is one
  abbrev pub IsChangedBy : ℕ → Option K → Option K → List (K × List ℕ) → List (K × List ℕ) → Type 0
  IsChangedBy n old new before after =
      (key : K) → positions_by after key ≡ put_at n new key (taken_at n old key (positions_by before key))

  -- sets as maps from each position to itself
  abbrev pub set_at : List (K × List (ℕ × ℕ)) → K → List (ℕ × ℕ)
  set_at sets key = unwrap_or (lookup (is_at (order key)) sets) []

abbrev pub listed : {K : Type 0} → List (K × List (ℕ × ℕ)) → List (K × List ℕ)
listed sets = map (λ set. (set.0, keys_of set.1)) sets

abbrev pub left_of : Option (List (ℕ × ℕ)) → List ℕ
left_of None = []
left_of (Some pairs) = keys_of pairs

-- ---- by the order of values' keys

abbrev pub positions_of : List (Key × List ℕ) → Key → List ℕ
positions_of postings key = positions_by compare_keys postings key

abbrev pub IsChanged : ℕ → Option Key → Option Key → List (Key × List ℕ) → List (Key × List ℕ) → Type 0
IsChanged n old new before after = IsChangedBy compare_keys n old new before after
