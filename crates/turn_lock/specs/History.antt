-- Histories, own lists and names: what a clause reads of a pass.
use Rattle.std.specs.Prelude.{◌≡◌, ◌⊎◌, ℕ, ◌+◌, ◌<◌, ◌≤◌, List, [], ◌∷◌, ◌++◌, map, length, Option, Some, None, slice_get, Bool, true, false, ◌&&◌, ◌==◌, if◌then◌else◌}
use mathlib.Core.List.{IsPrefix}
use Rattle.turn_lock.specs.declared.view.Placed.{Placed}
use Rattle.turn_lock.specs.declared.view.Known.{Known}

-- x stands in the list
abbrev pub Stands : {A : Type 0} → A → List A → Type 0
Stands x [] = ⊥
Stands x (y ∷ ys) = (x ≡ y) ⊎ Stands x ys

module _ {E : Type 0} where
  abbrev pub placed : ℕ → E → Placed E
  placed p e = record { place = p; entry = e }

  -- what the first pass knows
  abbrev pub newborn : Known E
  newborn = record { name = []; splits = 0; seen = []; own = [] }

  -- the own list with one entry more, which stands in the history behind all that was seen
  abbrev pub with_entry : Known E → E → Known E
  with_entry k e = record k { seen = k.seen ++ e ∷ []; own = k.own ++ placed (length k.seen) e ∷ [] }

  -- what a pass knows, with this beginning of the history seen
  abbrev pub with_seen : Known E → List E → Known E
  with_seen k seen = record k { seen = seen }

  -- what a pass knows once a further pass was split from it
  abbrev pub after_split : Known E → Known E
  after_split k = record k { splits = k.splits + 1 }

  -- what the k-th pass split from it knows: its name is the lender's followed by k
  abbrev pub split_off : Known E → Known E
  split_off k = record { name = k.name ++ (k.splits + 1) ∷ []; splits = 0; seen = k.seen; own = [] }

  -- the own list, from this place on, is a part of the list in order
  abbrev pub IsPartFrom : ℕ → List E → List (Placed E) → Type 0
  IsPartFrom low seen [] = Unit {0}
  IsPartFrom low seen (x ∷ own) =
      (low ≤ x.place) × (slice_get seen x.place ≡ Some x.entry) × IsPartFrom (x.place + 1) seen own

  abbrev pub IsPart : Known E → Type 0
  IsPart k = IsPartFrom 0 k.seen k.own

  -- somebody has this name
  abbrev pub IsNamed : List (Known E) → List ℕ → Type 0
  IsNamed people name = (k : Known E) × Stands k people × (k.name ≡ name)

  -- the empty name is there, and for each pass the names of all that were split from it
  abbrev pub AreWhole : List (Known E) → Type 0
  AreWhole people =
      IsNamed people []
      × ((k : Known E) (i : ℕ) → Stands k people → 1 ≤ i → i ≤ k.splits → IsNamed people (k.name ++ i ∷ []))

  -- each entry stands in the own list of exactly one of them
  abbrev pub OwnedOnce : List E → List (Known E) → Type 0
  OwnedOnce entries people =
      (p : ℕ) (e : E) → slice_get entries p ≡ Some e
      → (i : ℕ) × (k : Known E) × (slice_get people i ≡ Some k) × Stands (placed p e) k.own
      × ((j : ℕ) (other : Known E) (x : Placed E) → slice_get people j ≡ Some other → Stands x other.own →
      x.place ≡ p → j ≡ i)

  -- the same pass, which may have seen more
  pub record Grows (k later : Known E) : Type 0 where
    pub name : later.name ≡ k.name
    pub splits : later.splits ≡ k.splits
    pub own : later.own ≡ k.own
    pub seen : IsPrefix k.seen later.seen

  abbrev pub AllGrow : List (Known E) → List (Known E) → Type 0
  AllGrow [] [] = Unit {0}
  AllGrow [] (y ∷ ys) = ⊥
  AllGrow (x ∷ xs) [] = ⊥
  AllGrow (x ∷ xs) (y ∷ ys) = Grows x y × AllGrow xs ys

  -- the last of a list
  abbrev pub last_of : List E → Option E
  last_of [] = None
  last_of (x ∷ []) = Some x
  last_of (x ∷ y ∷ ys) = last_of (y ∷ ys)

  -- no entry stands in both own lists
  abbrev pub ShareNothing : List (Placed E) → List (Placed E) → Type 0
  ShareNothing own other = (x y : Placed E) → Stands x own → Stands y other → x.place ≡ y.place → ⊥

module _ {E : Type 0} (opens uses : E → Option ℕ) where
  -- an entry of the own list opened the number
  abbrev pub Opened : List (Placed E) → ℕ → Type 0
  Opened own n = (x : Placed E) × Stands x own × (opens x.entry ≡ Some n)

  -- each entry of the history that uses a number which the own list opened stands in the own list
  abbrev pub UsesStand : List E → List (Placed E) → Type 0
  UsesStand seen own =
      (p n : ℕ) (e : E) → slice_get seen p ≡ Some e → uses e ≡ Some n → Opened own n → Stands (placed p e) own

  -- the entry may be added: a number that it opens was opened by no entry before, and one that it uses
  -- was opened in the own list, where no entry uses it
  abbrev pub MayAdd : List E → List (Placed E) → E → Type 0
  MayAdd seen own e =
      ((n p : ℕ) (old : E) → opens e ≡ Some n → slice_get seen p ≡ Some old → opens old ≡ Some n → ⊥)
      × ((n : ℕ) → uses e ≡ Some n → Opened own n × ((x : Placed E) → Stands x own → uses x.entry ≡ Some n → ⊥))
