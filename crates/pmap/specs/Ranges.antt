-- What is left of the pairs of a map, up to a key (own).
use Rattle.std.specs.Prelude.{◌≡◌, not, Bool, true, List, [], ◌++◌}
use Rattle.std.specs.List.{filter}
use Rattle.std.specs.declared.cmp.Ordering.{Ordering}
use Rattle.std.specs.declared.option.Option.{Option}
use Rattle.std.specs.declared.option.Option.TheVariants.{None, Some}
use Rattle.std.specs.Ordering.{is_lt}
use Rattle.std.specs.BTreeMap.Range.{entries_from}
use Rattle.pmap.specs.Pairs.{Each, Ascends}
use Rattle.pmap.specs.Levels.{pairs_in, pairs_of, AreRows}

module _ {K V : Type 0} where
  -- a leaf's rest, the leaves behind it, and the middle rows behind these
  abbrev pub left_of : List (K × V) → List (K × List (K × V)) → List (K × List (K × List (K × V))) → List (K × V)
  left_of leaf middle upper = leaf ++ (pairs_in middle ++ pairs_of upper)

  -- rows, and rows of rows, as a map has them
  pub record AreBehind (middle : List (K × List (K × V))) (upper : List (K × List (K × List (K × V)))) : Type 0 where
    pub leaves : AreRows middle
    pub middles : AreRows upper
    pub lower : Each (λ row. AreRows row.1) upper

  -- the same pairs, with a leaf in front where there are any
  pub record IsFilled (leaf : List (K × V)) (middle : List (K × List (K × V)))
      (upper : List (K × List (K × List (K × V))))
      (new_leaf : List (K × V)) (new_middle : List (K × List (K × V)))
      (new_upper : List (K × List (K × List (K × V)))) : Type 0 where
    pub same : left_of new_leaf new_middle new_upper ≡ left_of leaf middle upper
    pub behind : AreBehind new_middle new_upper
    pub ends : new_leaf ≡ [] → left_of leaf middle upper ≡ []

-- whether the key is not past the high one, if there is one
abbrev pub is_within : {K : Type 0} → (K → K → Ordering) → Option K → K → Bool
is_within order None key = true
is_within order (Some high) key = not (is_lt (order high key))

module _ {K V : Type 0} (order : K → K → Ordering) where
  -- the pairs that are not past the high key
  abbrev pub up_to : Option K → List (K × V) → List (K × V)
  up_to high pairs = filter (λ pair. is_within order high pair.0) pairs

  -- what an iterator over pairs keeps
  pub record IsLeft (leaf : List (K × V)) (middle : List (K × List (K × V)))
      (upper : List (K × List (K × List (K × V)))) : Type 0 where
    pub behind : AreBehind middle upper
    pub ascending : Ascends order (left_of leaf middle upper)

  -- the pair that has the low key, and those of greater keys
  pub record IsStart (low : K) (pairs : List (K × V)) (leaf : List (K × V)) (middle : List (K × List (K × V)))
      (upper : List (K × List (K × List (K × V)))) : Type 0 where
    pub from_low : left_of leaf middle upper ≡ entries_from (order low) pairs
    pub left : IsLeft leaf middle upper
