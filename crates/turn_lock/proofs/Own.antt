-- For callers: what stands in an own list.
use Rattle.std.proofs.Common.{◌≡◌, ◌⊎◌, ℕ, ◌+◌, List, [], ◌∷◌, ◌++◌, refl, subst, sym, inl, inr, ⊎_elim, Option, Some, slice_get}
use Rattle.turn_lock.specs.declared.view.Placed.{Placed}
use Rattle.turn_lock.specs.History.{Stands, IsPartFrom}

module _ {A : Type 0} where
  pub stands_end : (xs : List A) (a : A) → Stands a (xs ++ a ∷ [])
  stands_end [] a = inl refl
  stands_end (x ∷ xs) a = inr (stands_end xs a)

  -- what stands in a list with one member more is old, or that one
  pub stands-snoc : (xs : List A) (a b : A) → Stands b (xs ++ a ∷ []) → Stands b xs ⊎ (b ≡ a)
  stands-snoc [] a b h = ⊎_elim (λ (e : b ≡ a). inr e) (λ (n : ⊥). absurd n) h
  stands-snoc (x ∷ xs) a b h =
      ⊎_elim (λ (e : b ≡ x). inl (inl e)) (λ (s : Stands b (xs ++ a ∷ [])). ⊎_elim (λ (old : Stands b xs). inl (inr old)) (λ (e : b ≡ a). inr e) (stands-snoc xs a b s)) h

module _ {E : Type 0} where
  -- an entry of an own list stands in the history at its place
  pub part_at : (low : ℕ) (seen : List E) (own : List (Placed E)) (x : Placed E) → IsPartFrom low seen own → Stands x own → slice_get seen x.place ≡ Some x.entry
  part_at low seen [] x h s = absurd s
  part_at low seen (y ∷ own) x h s =
      ⊎_elim (λ (e : x ≡ y). subst (λ (z : Placed E). slice_get seen z.place ≡ Some z.entry) (sym e) h.1) (λ (t : Stands x own). part_at (y.place + 1) seen own x h.2 t) s
