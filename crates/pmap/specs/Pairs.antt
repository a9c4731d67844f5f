-- Pairs of keys and values, by an order of the keys (own).
use Rattle.std.specs.Prelude.{◌≡◌, ℕ, suc, ◌<◌, Bool, List, [], ◌∷◌, ◌++◌, length, slice_get, drop}
use Rattle.std.specs.Option.{is_some}
use Rattle.std.specs.declared.option.Option.{Option}
use Rattle.std.specs.declared.option.Option.TheVariants.{None, Some}
use Rattle.std.specs.declared.cmp.Ordering.{Ordering}
use Rattle.std.specs.declared.cmp.Ordering.TheVariants.{Less, Greater}
use Rattle.std.specs.Ordering.{match_ordering}

-- P holds of each
abbrev pub Each : {X : Type 0} → (X → Type 0) → List X → Type 0
Each P [] = Unit {0}
Each P (x ∷ xs) = P x × Each P xs

module _ {K X : Type 0} (order : K → K → Ordering) where
  -- the key is less than that of each pair
  abbrev pub IsBelow : K → List (K × X) → Type 0
  IsBelow key pairs = Each (λ pair. order key pair.0 ≡ Less) pairs

  -- the key is greater than that of each pair
  abbrev pub IsAbove : K → List (K × X) → Type 0
  IsAbove key pairs = Each (λ pair. order key pair.0 ≡ Greater) pairs

  -- each key is less than all that follow
  abbrev pub Ascends : List (K × X) → Type 0
  Ascends [] = Unit {0}
  Ascends (pair ∷ pairs) = IsBelow pair.0 pairs × Ascends pairs

  -- pairs parted at a key: those of lesser keys, the value that the key has, and those of greater keys
  abbrev pub cut_at : K → List (K × X) → List (K × X) × Option X × List (K × X)
  cut_at key [] = ([], None, [])
  cut_at key (pair ∷ pairs) =
      let rest = cut_at key pairs in
      match_ordering (order key pair.0) ([], None, pair ∷ pairs) ([], Some pair.1, pairs)
      (pair ∷ rest.0, rest.1, rest.2)

  -- the pairs with others in the place of the key's
  abbrev pub with_put : K → List (K × X) → List (K × X) → List (K × X)
  with_put key put pairs = let cut = cut_at key pairs in (cut.0 ++ put) ++ cut.2

  -- the list ends, or goes on with a greater key
  abbrev pub GoesOnAbove : K → List (K × X) → Type 0
  GoesOnAbove key [] = Unit {0}
  GoesOnAbove key (pair ∷ pairs) = order key pair.0 ≡ Less

  -- where the key stands, or would stand
  pub record IsPlace (key : K) (row : List (K × X)) (at : ℕ) (is_there : Bool) : Type 0 where
    pub lesser : at ≡ length (cut_at key row).0
    pub here : is_there ≡ is_some (cut_at key row).1

  -- the last row that begins with no greater key, or else the first one
  pub record IsRowFor (key : K) (rows : List (K × X)) (at : ℕ) : Type 0 where
    pub within : at < length rows
    pub begins : (row : K × X) → slice_get rows at ≡ Some row → 0 < at → order key row.0 ≡ Less → ⊥
    pub next : GoesOnAbove key (drop (suc at) rows)

-- at most one pair, and that of the key
abbrev pub IsPut : {K X : Type 0} → K → List (K × X) → Type 0
IsPut key [] = Unit {0}
IsPut key (pair ∷ pairs) = (pair.0 ≡ key) × (pairs ≡ [])
