-- The first conflict, block by block.
use Rattle.std.proofs.Common.{◌≡◌, ◌∙◌, ◌≤◌, ◌<◌, ℕ, zero, suc, ◌+◌, ◌-◌, Bool, false, cond, List, [], ◌∷◌, length, take, drop, refl, ap, subst, arith, slice_get, Option, Some, None}
use Rattle.std.specs.List.{AllByRecursion, find}
use Rattle.std.specs.Option.{option_map_or}
use Rattle.std.proofs.lemmas.List.{length-drop}
use Rattle.ledger_model.specs.declared.block.Block.{Block}
use Rattle.ledger_model.specs.declared.outcome.Item.{Item}
use Rattle.ledger_model.specs.declared.outcome.Named.{Named}
use Rattle.ledger_model.specs.State.{State, after, empty, state, state_from}
use Rattle.laws_footprint.specs.Conflicts.{ConflictIsFirst, Tells, TouchesNone}
use Rattle.laws_footprint.specs.Touches.{conflict_from, named_or, touched, touches}
use Rattle.laws_footprint.proofs.Still.{none_found}

-- whether the block at a place behind a state touches the item
abbrev touches_at : State → List Block → ℕ → Item → Bool
touches_at s later k i = option_map_or (λ b. touched (state_from s (take k later)) b i) (slice_get later k) false

abbrev NoneAt : State → List Block → List Item → ℕ → Type 0
NoneAt s later items k = AllByRecursion (λ i. touches_at s later k i ≡ false) items

-- the first block of these that touches one of the items, by its place
record Found (m : ℕ) (s : State) (later : List Block) (items : List Item) (found : Named) : Type 0 where
  pub place : ℕ
  pub number : found.block ≡ m + place
  pub there : place < length later
  pub item : find (touches_at s later place) items ≡ Some found.item
  pub first : (j : ℕ) → j < place → NoneAt s later items j

abbrev TellsAt : ℕ → State → List Block → List Item → Option Named → Type 0
TellsAt m s later items None = (k : ℕ) → k < length later → NoneAt s later items k
TellsAt m s later items (Some found) = Found m s later items found

none_before : (s : State) (b : Block) (bs : List Block) (items : List Item) (end : ℕ)
    → AllByRecursion (λ i. touched s b i ≡ false) items
    → ((k : ℕ) → k < end → NoneAt (after s b) bs items k) → (k : ℕ) → k < suc end → NoneAt s (b ∷ bs) items k
none_before s b bs items end here later zero h = here
none_before s b bs items end here later (suc k) h = later k (omega (arith, h))

one_more : (m : ℕ) (s : State) (b : Block) (bs : List Block) (items : List Item) (o : Option Item)
    (later : Option Named) → find (touched s b) items ≡ o
    → TellsAt (m + 1) (after s b) bs items later → TellsAt m s (b ∷ bs) items (named_or m o later)
one_more m s b bs items (Some i) later e tells =
    record { place = 0; number = omega arith; there = omega arith; item = e; first = λ j h. absurd (omega (arith, h)) }
one_more m s b bs items None None e tells =
    λ k h. none_before s b bs items (length bs) (none_found (touched s b) items e) tells k h
one_more m s b bs items None (Some found) e tells = record {
  place = suc tells.place;
  number = omega (arith, tells.number);
  there = omega (arith, tells.there);
  item = tells.item;
  first = λ j h. none_before s b bs items tells.place (none_found (touched s b) items e) tells.first j h;
}

tells_at : (m : ℕ) (s : State) (later : List Block) (items : List Item)
    → TellsAt m s later items (conflict_from m s later items)
tells_at m s [] items = λ k h. absurd (omega (arith, h))
tells_at m s (b ∷ bs) items =
    one_more m s b bs items (find (touched s b) items) (conflict_from (m + 1) (after s b) bs items) refl
    (tells_at (m + 1) (after s b) bs items)

-- ---- in the whole journal

touches_behind : (s : State) (blocks : List Block) (since k : ℕ) (i : Item)
    → touches_at s blocks (since + k) i ≡ touches_at (state_from s (take since blocks)) (drop since blocks) k i
touches_behind s blocks zero k i = let same : 0 + k ≡ k = omega arith in ap (λ n. touches_at s blocks n i) same
touches_behind s [] (suc n) k i = let same : suc n + k ≡ suc (n + k) =
    omega arith in ap (λ x. touches_at s [] x i) same
touches_behind s (b ∷ bs) (suc n) k i =
    let same : suc n + k ≡ suc (n + k) = omega arith in
    ap (λ x. touches_at s (b ∷ bs) x i) same ∙ touches_behind (after s b) bs n k i

none_behind : (blocks : List Block) (since k : ℕ) (items : List Item)
    → NoneAt (state (take since blocks)) (drop since blocks) items k → TouchesNone blocks items (since + k)
none_behind blocks since k [] h = tt
none_behind blocks since k (i ∷ items) h =
    (touches_behind empty blocks since k i ∙ h.0, none_behind blocks since k items h.1)

find_same : (p q : Item → Bool) (items : List Item) → ((i : Item) → p i ≡ q i) → find p items ≡ find q items
find_same p q [] h = refl
find_same p q (i ∷ items) h = ap (λ b. cond b (Some i) (find p items)) (h i)
    ∙ ap (λ o. cond (q i) (Some i) o) (find_same p q items h)

behind : (blocks : List Block) (since m end : ℕ) (items : List Item)
    → ((k : ℕ) → k < end → NoneAt (state (take since blocks)) (drop since blocks) items k)
    → since ≤ m → m < since + end → TouchesNone blocks items m
behind blocks since m end items none late h =
    let same : since + (m - since) ≡ m = omega (arith, late) in
    subst (TouchesNone blocks items) same
    (none_behind blocks since (m - since) items (none (m - since) (omega (arith, late, h))))

whole : (blocks : List Block) (since : ℕ) (items : List Item) (o : Option Named)
    → TellsAt since (state (take since blocks)) (drop since blocks) items o → Tells blocks since items o
whole blocks since items None tells = λ m late h.
    behind blocks since m (length (drop since blocks)) items tells late
    (omega (arith, length-drop since blocks, late, h))
whole blocks since items (Some found) tells = record {
  late = omega (arith, tells.number);
  there = omega (arith, tells.number, tells.there, length-drop since blocks);
  item =
      ap (λ m. find (touches blocks m) items) tells.number
      ∙ find_same (touches blocks (since + tells.place))
      (touches_at (state (take since blocks)) (drop since blocks) tells.place) items
      (touches_behind empty blocks since tells.place)
      ∙ tells.item;
  first = λ m late h. behind blocks since m tells.place items tells.first late (omega (arith, tells.number, h));
}

pub conflict_is_first : ConflictIsFirst
conflict_is_first blocks since footprint =
    whole blocks since footprint _ (tells_at since (state (take since blocks)) (drop since blocks) footprint)
