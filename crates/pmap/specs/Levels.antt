-- An ordered map in levels: pairs in rows, and rows in rows beside the first key of each (own).
use Rattle.std.specs.Prelude.{◌≡◌, ℕ, ◌≤◌, List, [], ◌∷◌, length}
use Rattle.std.specs.List.{flat_map}
use Rattle.std.specs.declared.option.Option.{Option}
use Rattle.std.specs.declared.option.Option.TheVariants.{None, Some}
use Rattle.std.specs.declared.cmp.Ordering.{Ordering}
use Rattle.pmap.specs.Pairs.{Each, Ascends, with_put}

-- there are no rows before the first pair
abbrev pub rows_of : {X : Type 0} → Option (List X) → List X
rows_of None = []
rows_of (Some rows) = rows

module _ {K X : Type 0} where
  -- the members of the rows, in order
  abbrev pub pairs_in : List (K × List (K × X)) → List (K × X)
  pairs_in rows = flat_map (λ row. row.1) rows

  -- the members of the rows of the rows
  abbrev pub pairs_of : List (K × List (K × List (K × X))) → List (K × X)
  pairs_of upper = flat_map (λ row. pairs_in row.1) upper

  abbrev pub BeginsWith : K → List (K × X) → Type 0
  BeginsWith key [] = ⊥
  BeginsWith key (pair ∷ pairs) = pair.0 ≡ key

  -- each row has 1 to 64 members, and stands beside the key of the first one
  abbrev pub AreRows : List (K × List (K × X)) → Type 0
  AreRows rows = Each (λ row. BeginsWith row.0 row.1 × (length row.1 ≤ 64)) rows

  -- one or two rows, or none where there are no members
  pub record IsParted (row : List (K × X)) (rows : List (K × List (K × X))) : Type 0 where
    pub members : pairs_in rows ≡ row
    pub few : length rows ≤ 2
    pub sizes : AreRows rows

module _ {K V : Type 0} (order : K → K → Ordering) where
  -- rows of pairs with ascending keys
  pub record AreLeaves (middle : List (K × List (K × V))) : Type 0 where
    pub sizes : AreRows middle
    pub ascending : Ascends order (pairs_in middle)

  -- rows of rows of pairs with ascending keys
  pub record AreLevels (upper : List (K × List (K × List (K × V)))) : Type 0 where
    pub middles : AreRows upper
    pub leaves : Each (λ row. AreRows row.1) upper
    pub ascending : Ascends order (pairs_of upper)

  -- an upper row, with the number of pairs beside it
  pub record IsCounted (len : ℕ) (upper : Option (List (K × List (K × List (K × V))))) : Type 0 where
    pub counted : len ≡ length (pairs_of (rows_of upper))
    pub levels : AreLevels (rows_of upper)

  -- the leaf with others in the place of the key's pair, in one or two rows or none
  pub record IsChangedLeaf (key : K) (put : List (K × V)) (leaf : List (K × V))
      (new : List (K × List (K × V))) : Type 0 where
    pub pairs : pairs_in new ≡ with_put order key put leaf
    pub few : length new ≤ 2
    pub sizes : AreRows new

  -- the same of the leaves of a middle row
  pub record IsChangedMiddle (key : K) (put : List (K × V)) (middle : List (K × List (K × V)))
      (new : List (K × List (K × List (K × V)))) : Type 0 where
    pub pairs : pairs_of new ≡ with_put order key put (pairs_in middle)
    pub few : length new ≤ 2
    pub middles : AreRows new
    pub leaves : Each (λ row. AreRows row.1) new

  -- levels that hold the pairs
  pub record AreRowsOf (pairs : List (K × V)) (upper : List (K × List (K × List (K × V)))) : Type 0 where
    pub holds : pairs_of upper ≡ pairs
    pub levels : AreLevels upper
