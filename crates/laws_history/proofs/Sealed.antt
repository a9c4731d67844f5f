-- What holds of each sealed block of a history, and of each pair of them.
use Rattle.std.proofs.Common.{◌≡◌, ℕ, List, [], ◌∷◌, ◌++◌, length, drop, refl, ◌∙◌, append_assoc}
use Rattle.std.specs.List.{AllByRecursion}
use mathlib.Core.List.{IsPrefix}
use Rattle.ledger_model.specs.declared.block.Block.{Block}
use Rattle.turn_lock.proofs.Lists.{prefix_self, prefix_trans}
use Rattle.laws_history.specs.Records.{Before, InSessionOrder, mask_of}
use Rattle.laws_machine.specs.Entries.{Entry, begun_at, failed, sealed, wanted}
use Rattle.laws_history.proofs.Reaches.{sealed_in}

-- ---- each

module _ (P : Block → Type 0) (es : List Entry) where
  abbrev pub OfSealed : List Entry → Type 0
  OfSealed front =
      (f : List Entry) (number : ℕ) (b : Block) → IsPrefix front f → IsPrefix (f ++ sealed number b ∷ []) es → P b

  here : (front : List Entry) (e : Entry) (rest : List Entry) → (front ++ e ∷ []) ++ rest ≡ es
      → IsPrefix (front ++ e ∷ []) es
  here front e rest all = (rest, all)

  sealed_first : (front : List Entry) (e : Entry) (rest : List Entry) → IsPrefix (front ++ e ∷ []) es → OfSealed front
      → AllByRecursion P (sealed_in rest) → AllByRecursion P (sealed_in (e ∷ rest))
  sealed_first front (begun_at place number since) rest p f more = more
  sealed_first front (sealed number b) rest p f more = (f front number b (prefix_self front) p, more)
  sealed_first front (failed number count block) rest p f more = more
  sealed_first front (wanted number block) rest p f more = more

  pub each_sealed : (front rest : List Entry) → front ++ rest ≡ es → OfSealed front → AllByRecursion P (sealed_in rest)
  each_sealed front [] all f = tt
  each_sealed front (e ∷ rest) all f =
      let on : (front ++ e ∷ []) ++ rest ≡ es = append_assoc front (e ∷ []) rest ∙ all in
      sealed_first front e rest (here front e rest on) f
      (each_sealed (front ++ e ∷ []) rest on
      (λ g number b p q. f g number b (prefix_trans front (front ++ e ∷ []) g (e ∷ [], refl) p) q))

-- ---- each pair

module _ (es : List Entry)
    (f : (front : List Entry) (number : ℕ) (b : Block) (later : List Entry) (more : ℕ) (c : Block)
    → IsPrefix (front ++ sealed number b ∷ []) later → IsPrefix (later ++ sealed more c ∷ []) es
    → Before b.info.place c) where
  first_ordered : (front : List Entry) (e : Entry) (rest : List Entry) → (front ++ e ∷ []) ++ rest ≡ es
      → InSessionOrder (sealed_in rest) → InSessionOrder (sealed_in (e ∷ rest))
  first_ordered front (begun_at place number since) rest all more = more
  first_ordered front (sealed number b) rest all more = (
    each_sealed (Before b.info.place) es (front ++ sealed number b ∷ []) rest all
        (λ later n c p q. f front number b later n c p q),
    more,
  )
  first_ordered front (failed number count block) rest all more = more
  first_ordered front (wanted number block) rest all more = more

  pub all_ordered : (front rest : List Entry) → front ++ rest ≡ es → InSessionOrder (sealed_in rest)
  all_ordered front [] all = tt
  all_ordered front (e ∷ rest) all =
      let on : (front ++ e ∷ []) ++ rest ≡ es = append_assoc front (e ∷ []) rest ∙ all in
      first_ordered front e rest on (all_ordered (front ++ e ∷ []) rest on)

-- ---- the strand

pub strand_all : (mask : ℕ) (bs cs : List Block) → mask_of mask bs ≡ mask
    → AllByRecursion (λ (c : Block). c.header.address.strand.raw ≡ mask) cs → mask_of mask (bs ++ cs) ≡ mask
strand_all mask [] [] is own = is
strand_all mask [] (c ∷ cs) is own = own.0
strand_all mask (b ∷ bs) cs is own = is

-- ---- behind a beginning

pub drop_front : {A : Type 0} (xs ys : List A) → drop (length xs) (xs ++ ys) ≡ ys
drop_front [] ys = refl
drop_front (x ∷ xs) ys = drop_front xs ys
