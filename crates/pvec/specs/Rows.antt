-- Rows of rows: a list in levels, with every row full but the last of its level (own).
use Rattle.std.specs.Prelude.{◌≡◌, ℕ, ◌<◌, ◌≤◌, List, [], ◌∷◌, ◌++◌, length, slice_set}
use Rattle.std.specs.List.{flat_map}
use Rattle.std.specs.declared.option.Option.{Option}
use Rattle.std.specs.declared.option.Option.TheVariants.{None, Some}

-- the members of all rows, in order
abbrev pub joined : {X : Type 0} → List (List X) → List X
joined rows = flat_map (λ row. row) rows

-- no row is empty or longer than 64, and each that another one follows has 64 members
abbrev pub IsPacked : {X : Type 0} → List (List X) → Type 0
IsPacked [] = Unit {0}
IsPacked (row ∷ rows) = (0 < length row) × (length row ≤ 64) × (0 < length rows → length row ≡ 64) × IsPacked rows

-- there are no rows before the first item
abbrev pub rows_of : {X : Type 0} → Option (List X) → List X
rows_of None = []
rows_of (Some rows) = rows

-- the items of the rows of the rows of an upper row
abbrev pub items_of : {X : Type 0} → List (List (List X)) → List X
items_of upper = joined (joined upper)

-- an upper row of rows, and their rows
pub record IsLevelled {X : Type 0} (upper : List (List (List X))) : Type 0 where
  pub middles : IsPacked upper
  pub leaves : IsPacked (joined upper)

-- the number of items stands beside them
pub record IsCounted {X : Type 0} (len : ℕ) (upper : Option (List (List (List X)))) : Type 0 where
  pub counted : len ≡ length (items_of (rows_of upper))
  pub levelled : IsLevelled (rows_of upper)

-- new rows for the same items and one more
pub record IsGrown {X : Type 0} (upper : List (List (List X))) (item : X) (new : List (List (List X))) : Type 0 where
  pub items : items_of new ≡ items_of upper ++ item ∷ []
  pub levelled : IsLevelled new

-- new rows for the same items, but another one at a place
pub record IsChanged {X : Type 0} (upper : List (List (List X))) (i : ℕ) (item : X)
    (new : List (List (List X))) : Type 0 where
  pub items : items_of new ≡ slice_set (items_of upper) i item
  pub levelled : IsLevelled new
