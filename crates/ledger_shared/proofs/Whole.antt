-- Passes that are split from one keep all passes there, and of passes that own nothing no entry is.
use Rattle.std.proofs.Common.{◌≡◌, ◌∙◌, ℕ, ◌+◌, ◌≤◌, List, [], ◌∷◌, ◌++◌, ap, arith, inl, inr, refl, subst, sym, ◌⊎◌}
use Rattle.std.proofs.lemmas.Bool.Decides.{leb_tells}
use Rattle.turn_lock.specs.declared.view.Known.{Known}
use Rattle.turn_lock.specs.History.{AreWhole, IsNamed, OwnedOnce, Stands, after_split, placed, split_off}
use Rattle.turn_lock.specs.Rule.{Each}
use Rattle.turn_lock.proofs.Lists.{each_stands, stands_get}
use Rattle.turn_lock.proofs.Own.{stands_end, stands-snoc}
use Rattle.laws_history.proofs.Lists.{stands_front}

module _ {E : Type 0} (ks : List (Known E)) (k : Known E) where
  abbrev before : List (Known E)
  before = ks ++ k ∷ []

  abbrev behind : List (Known E)
  behind = (ks ++ split_off k ∷ []) ++ after_split k ∷ []

  old_stands : (x : Known E) → Stands x ks → Stands x behind
  old_stands x s = stands_front x (ks ++ split_off k ∷ []) (after_split k ∷ []) (stands_front x ks (split_off k ∷ []) s)

  named_by : (name : List ℕ) (x : Known E) → x.name ≡ name → Stands x ks ⊎ (x ≡ k) → IsNamed behind name
  named_by name x is (inl s) = (x, old_stands x s, is)
  named_by name x is (inr e) = (after_split k, stands_end (ks ++ split_off k ∷ []) (after_split k), ap (λ (y : Known E). y.name) (sym e) ∙ is)

  named_still : (name : List ℕ) → IsNamed before name → IsNamed behind name
  named_still name h = named_by name h.0 h.2 (stands-snoc ks k h.0 h.1)

  module _ (whole : AreWhole before) where
    -- the lender's splits, one more than before
    lent : (i : ℕ) → 1 ≤ i → i ≤ k.splits + 1 → IsNamed behind (k.name ++ i ∷ [])
    lent i low high =
        elim (leb_tells i k.splits) [
          | inl t ↦ named_still (k.name ++ i ∷ []) (whole.1 k i (stands_end ks k) low t.1)
          | inr f ↦ (
            split_off k,
            stands_front (split_off k) (ks ++ split_off k ∷ []) (after_split k ∷ []) (stands_end ks (split_off k)),
            ap (λ n. k.name ++ n ∷ []) (omega (arith, high, f.1)),
          )
        ]

    others : (x : Known E) (i : ℕ) → 1 ≤ i → i ≤ x.splits → Stands x ks ⊎ (x ≡ split_off k) → IsNamed behind (x.name ++ i ∷ [])
    others x i low high (inl s) = named_still (x.name ++ i ∷ []) (whole.1 x i (stands_front x ks (k ∷ []) s) low high)
    others x i low high (inr e) =
        let none : x.splits ≡ 0 = ap (λ (y : Known E). y.splits) e in absurd (omega (arith, low, high, none))

    each_lends : (x : Known E) (i : ℕ) → 1 ≤ i → i ≤ x.splits → Stands x (ks ++ split_off k ∷ []) ⊎ (x ≡ after_split k)
        → IsNamed behind (x.name ++ i ∷ [])
    each_lends x i low high (inl s) = others x i low high (stands-snoc ks (split_off k) x s)
    each_lends x i low high (inr e) =
        let splits : x.splits ≡ k.splits + 1 = ap (λ (y : Known E). y.splits) e in
        let name : k.name ≡ x.name = sym (ap (λ (y : Known E). y.name) e) in
        subst (λ n. IsNamed behind (n ++ i ∷ [])) name (lent i low (omega (arith, high, splits)))

    -- a pass is split from the last one
    pub whole_split : AreWhole behind
    whole_split = (named_still [] whole.0, λ x i s low high. each_lends x i low high (stands-snoc (ks ++ split_off k ∷ []) (after_split k) x s))

-- ---- passes that made entries are the same passes

module _ {E : Type 0} where
  -- of one list of passes each one is that of the other, at its place
  abbrev pub AreOfOne : List (Known E) → List (Known E) → Type 0
  AreOfOne [] [] = Unit {0}
  AreOfOne [] (y ∷ ys) = ⊥
  AreOfOne (x ∷ xs) [] = ⊥
  AreOfOne (x ∷ xs) (y ∷ ys) = (y.name ≡ x.name) × (y.splits ≡ x.splits) × AreOfOne xs ys

  forth : (xs ys : List (Known E)) (x : Known E) → AreOfOne xs ys → Stands x xs → (y : Known E) × Stands y ys × (y.name ≡ x.name)
  forth [] ys x h s = absurd s
  forth (z ∷ xs) [] x h s = absurd h
  forth (z ∷ xs) (y ∷ ys) x h (inl e) = (y, inl refl, h.0 ∙ ap (λ (k : Known E). k.name) (sym e))
  forth (z ∷ xs) (y ∷ ys) x h (inr s) = let r = forth xs ys x h.2 s in (r.0, inr r.1, r.2)

  back : (xs ys : List (Known E)) (y : Known E) → AreOfOne xs ys → Stands y ys
      → (x : Known E) × Stands x xs × (y.name ≡ x.name) × (y.splits ≡ x.splits)
  back xs [] y h s = absurd s
  back [] (z ∷ ys) y h s = absurd h
  back (x ∷ xs) (z ∷ ys) y h (inl e) =
      (x, inl refl, ap (λ (k : Known E). k.name) e ∙ h.0, ap (λ (k : Known E). k.splits) e ∙ h.1)
  back (x ∷ xs) (z ∷ ys) y h (inr s) = let r = back xs ys y h.2 s in (r.0, inr r.1, r.2, r.3)

  named_on : (xs ys : List (Known E)) (name : List ℕ) → AreOfOne xs ys → IsNamed xs name → IsNamed ys name
  named_on xs ys name h n = let r = forth xs ys n.0 h n.1 in (r.0, r.1, r.2 ∙ n.2)

  pub whole_on : (xs ys : List (Known E)) → AreOfOne xs ys → AreWhole xs → AreWhole ys
  whole_on xs ys h w = (
    named_on xs ys [] h w.0,
    λ y i s low high.
        let r = back xs ys y h s in
        subst (λ n. IsNamed ys (n ++ i ∷ [])) (sym r.2) (named_on xs ys (r.0.name ++ i ∷ []) h (w.1 r.0 i r.1 low (omega (arith, high, r.3)))),
  )

  -- ---- passes that own nothing

  pub none_made : (es : List E) (ks : List (Known E)) → Each (λ (k : Known E). k.own ≡ []) ks → OwnedOnce es ks → es ≡ []
  none_made [] ks idle once = refl
  none_made (e ∷ es) ks idle once =
      let r = once 0 e refl in
      let own : r.1.own ≡ [] = each_stands (λ (k : Known E). k.own ≡ []) ks r.1 idle (stands_get ks r.0 r.1 r.2) in
      absurd (subst (λ own. Stands (placed 0 e) own) own r.3)
