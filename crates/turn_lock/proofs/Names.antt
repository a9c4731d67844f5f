-- Names, and the own lists that they make of one history.
use Rattle.std.proofs.Common.{◌≡◌, ◌≢◌, ◌⊎◌, ℕ, zero, suc, ◌+◌, ◌<◌, ◌≤◌, cond, eqb, nat_le, Bool, true, false, ◌&&◌, List, [], ◌∷◌, ◌++◌, map, length, set, sym, refl, ap, ◌∙◌, subst, inl, inr, ⊎_elim, arith, rules, Option, Some, None, slice_get, append_assoc, length-append}
use Rattle.std.proofs.lemmas.Bool.{eqb-true}
use Rattle.std.proofs.lemmas.Bool.Decides.{nat_tests}
use mathlib.Core.Option.{some, some-injective, some-ne-none}
use mathlib.Core.List.{IsPrefix, map-append}
use lib.ListN.{get_elem?}
use Rattle.atomic_table.proofs.Lists.{at_longer, at_last, at_snoc}
use Rattle.turn_lock.specs.declared.view.Placed.{Placed}
use Rattle.turn_lock.specs.declared.view.Known.{Known}
use Rattle.turn_lock.specs.History.{Stands, placed}
use Rattle.turn_lock.specs.Rule.{Signed, same_name, if_so, history, made_by, is, lends}

pub same_self : (n : List ℕ) → same_name n n ≡ true
same_self [] = refl
same_self (x ∷ xs) = let h = same_self xs in grind (arith, nat_tests)

pub and_true : (b c : Bool) → (b && c) ≡ true → (b ≡ true) × (c ≡ true)
and_true true c h = (refl, h)
and_true false c h = absurd cc

pub both_true : (b c : Bool) → b ≡ true → c ≡ true → (b && c) ≡ true
both_true true c p q = q
both_true false c p q = absurd cc

pub same_is : (n m : List ℕ) → same_name n m ≡ true → n ≡ m
same_is [] [] h = refl
same_is [] (y ∷ ys) h = absurd cc
same_is (x ∷ xs) [] h = absurd cc
same_is (x ∷ xs) (y ∷ ys) h =
    let both = and_true (eqb x y) (same_name xs ys) h in let tail : xs ≡ ys = same_is xs ys both.1 in let head : x ≡ y = eqb-true x y both.0 in cc

pub so_true : (b : Bool) → 1 ≤ if_so b → b ≡ true
so_true true h = refl
so_true false h = absurd (omega arith)

pub not_same : (n m : List ℕ) → n ≢ m → same_name n m ≡ false
not_same n m ne = elim (same_name n m) as (λ b. same_name n m ≡ b → b ≡ false) [ true ↦ λ e. absurd (ne (same_is n m e)) | false ↦ λ e. refl ] refl

so_and : (b c : Bool) → if_so (b && c) ≤ if_so b
so_and true true = omega arith
so_and true false = omega arith
so_and false c = omega arith

so_most : (b : Bool) → if_so b ≤ 1
so_most true = omega arith
so_most false = omega arith

none_so : (n m : ℕ) → (1 ≤ n → ⊥) → n + 0 + 0 ≤ m + 0 + 0
none_so zero m h = omega arith
none_so (suc n) m h = absurd (h (omega arith))

le_test : (a b : ℕ) → nat_le a b ≡ true → a ≤ b
le_test a b h = grind (arith, nat_tests)

test_le : (a b : ℕ) → a ≤ b → nat_le a b ≡ true
test_le a b h = grind (arith, nat_tests)

pub not_le : (n : ℕ) → (1 ≤ n → ⊥) → n < 1
not_le zero h = omega arith
not_le (suc n) h = absurd (h (omega arith))

-- two lists with one member more are equal in both parts
pub snoc_is : (n m : List ℕ) (j k : ℕ) → n ++ j ∷ [] ≡ m ++ k ∷ [] → (n ≡ m) × (j ≡ k)
snoc_is [] [] j k e = (refl, cc)
snoc_is [] (y ∷ m) j k e = absurd (let l : 1 ≡ length (y ∷ (m ++ k ∷ [])) = ap length e in omega (arith, length-append m (k ∷ [])))
snoc_is (x ∷ n) [] j k e = absurd (let l : length (x ∷ (n ++ j ∷ [])) ≡ 1 = ap length e in omega (arith, length-append n (j ∷ [])))
snoc_is (x ∷ n) (y ∷ m) j k e = let rest = snoc_is n m j k cc in (let head : x ≡ y = cc in cc (rest.0), rest.1)

module _ {E : Type 0} where
  pub is_self : (k : Known E) (n : List ℕ) → k.name ≡ n → is n k ≡ 1
  is_self k n e = ap if_so (subst (λ (m : List ℕ). same_name k.name m ≡ true) e (same_self k.name))

  pub is_one : (n : List ℕ) (k : Known E) → 1 ≤ is n k → k.name ≡ n
  is_one n k h = same_is k.name n (so_true (same_name k.name n) h)

  pub lends_is : (n : List ℕ) (j : ℕ) (k : Known E) → lends n j k ≤ is n k
  lends_is n j k = so_and (same_name k.name n) (nat_le 1 j && nat_le j k.splits)

  pub lends_gives : (n : List ℕ) (j : ℕ) (k : Known E) → 1 ≤ lends n j k → (k.name ≡ n) × (1 ≤ j) × (j ≤ k.splits)
  lends_gives n j k h =
      let all = and_true (same_name k.name n) (nat_le 1 j && nat_le j k.splits) (so_true (same_name k.name n && (nat_le 1 j && nat_le j k.splits)) h) in
      let range = and_true (nat_le 1 j) (nat_le j k.splits) all.1 in
      (same_is k.name n all.0, le_test 1 j range.0, le_test j k.splits range.1)

  pub lends_one : (n : List ℕ) (j : ℕ) (k : Known E) → k.name ≡ n → 1 ≤ j → j ≤ k.splits → lends n j k ≡ 1
  lends_one n j k e low high =
      ap if_so (both_true (same_name k.name n) (nat_le 1 j && nat_le j k.splits) (subst (λ (m : List ℕ). same_name k.name m ≡ true) e (same_self k.name))
      (both_true (nat_le 1 j) (nat_le j k.splits) (test_le 1 j low) (test_le j k.splits high)))

  pub history-snoc : (log : List (Signed E)) (s : Signed E) → history (log ++ s ∷ []) ≡ history log ++ s.entry ∷ []
  history-snoc log s = map-append (λ (x : Signed E). x.entry) log (s ∷ [])

  pub history_get : (log : List (Signed E)) (p : ℕ) (x : Signed E) → get_elem? log p ≡ some x → slice_get (history log) p ≡ Some x.entry
  history_get [] p x h = absurd (some-ne-none x (sym h))
  history_get (s ∷ log) zero x h = ap (λ (y : Signed E). Some y.entry) (some-injective s x h)
  history_get (s ∷ log) (suc p) x h = history_get log p x h

  pub history_at : (log : List (Signed E)) (p : ℕ) (e : E) → slice_get (history log) p ≡ Some e → (x : Signed E) × (get_elem? log p ≡ some x) × (x.entry ≡ e)
  history_at [] p e h = absurd cc
  history_at (s ∷ log) zero e h = (s, refl, cc)
  history_at (s ∷ log) (suc p) e h = history_at log p e h

  more_made : (x : Placed E) (xs ys zs : List (Placed E)) (b : Bool) → xs ≡ ys ++ zs → cond b (x ∷ xs) xs ≡ cond b (x ∷ ys) ys ++ zs
  more_made x xs ys zs true e = ap (λ w. x ∷ w) e
  more_made x xs ys zs false e = e

  one_made : {x y : Placed E} (b : Bool) → x ≡ y → cond b (x ∷ []) [] ≡ [] ++ cond b (y ∷ []) []
  one_made true e = ap (λ z. z ∷ []) e
  one_made false e = refl

  pub made_by-snoc : (n : List ℕ) (p : ℕ) (log : List (Signed E)) (s : Signed E)
      → made_by n p (log ++ s ∷ []) ≡ made_by n p log ++ cond (same_name s.by n) (placed (p + length log) s.entry ∷ []) []
  made_by-snoc n p [] s = one_made (same_name s.by n) (ap (λ (k : ℕ). placed k s.entry) (omega arith))
  made_by-snoc n p (t ∷ log) s =
      let later : made_by n (p + 1) (log ++ s ∷ []) ≡ made_by n (p + 1) log ++ cond (same_name s.by n) (placed (p + suc (length log)) s.entry ∷ []) [] =
      made_by-snoc n (p + 1) log s ∙ ap (λ (k : ℕ). made_by n (p + 1) log ++ cond (same_name s.by n) (placed k s.entry ∷ []) []) (omega arith) in
      more_made (placed p t.entry) _ _ _ (same_name t.by n) later

  pub made_by_none : (n : List ℕ) (p : ℕ) (log : List (Signed E)) → ((q : ℕ) (x : Signed E) → get_elem? log q ≡ some x → x.by ≡ n → ⊥) → made_by n p log ≡ []
  made_by_none n p [] none = refl
  made_by_none n p (s ∷ log) none =
      let other = not_same s.by n (λ e. none 0 s refl e) in
      rw other (made_by_none n (p + 1) log (λ q x at by. none (suc q) x at by))

  behind : (x y : Placed E) (ys : List (Placed E)) (b : Bool) → Stands x ys → Stands x (cond b (y ∷ ys) ys)
  behind x y ys true h = inr h
  behind x y ys false h = h

  pub made_by_stands : (n : List ℕ) (p : ℕ) (log : List (Signed E)) (q : ℕ) (x : Signed E) → get_elem? log q ≡ some x → x.by ≡ n → Stands (placed (p + q) x.entry) (made_by n p log)
  made_by_stands n p [] q x at by = absurd (some-ne-none x (sym at))
  made_by_stands n p (s ∷ log) zero x at by =
      let same : s ≡ x = some-injective s x at in
      let mine : same_name s.by n ≡ true = subst (λ (m : List ℕ). same_name s.by m ≡ true) (ap (λ (y : Signed E). y.by) same ∙ by) (same_self s.by) in
      let here : p + 0 ≡ p = omega arith in
      let e : placed (p + 0) x.entry ≡ placed p s.entry = cc in
      rw mine (inl e)
  made_by_stands n p (s ∷ log) (suc q) x at by =
      let later = made_by_stands n (p + 1) log q x at by in
      let there : Stands (placed (p + suc q) x.entry) (made_by n (p + 1) log) = subst (λ (k : ℕ). Stands (placed k x.entry) (made_by n (p + 1) log)) (omega arith) later in
      behind _ _ _ (same_name s.by n) there

  abbrev Made : List ℕ → ℕ → List (Signed E) → Placed E → Type 0
  Made n p log y = (q : ℕ) × (x : Signed E) × (get_elem? log q ≡ some x) × (x.by ≡ n) × (y ≡ placed (p + q) x.entry)

  made_later : (n : List ℕ) (p : ℕ) (s : Signed E) (log : List (Signed E)) (y : Placed E) → Made n (p + 1) log y → Made n p (s ∷ log) y
  made_later n p s log y r = (suc r.0, r.1, r.2, r.3, r.4 ∙ ap (λ (k : ℕ). placed k r.1.entry) (omega arith))

  made_first : (n : List ℕ) (p : ℕ) (s : Signed E) (log : List (Signed E)) (y : Placed E) (b : Bool) → same_name s.by n ≡ b
      → Stands y (cond b (placed p s.entry ∷ made_by n (p + 1) log) (made_by n (p + 1) log)) → (Stands y (made_by n (p + 1) log) → Made n p (s ∷ log) y) → Made n p (s ∷ log) y
  made_first n p s log y true is t later = ⊎_elim (λ (e : y ≡ placed p s.entry). (0, s, refl, same_is s.by n is, e ∙ ap (λ (k : ℕ). placed k s.entry) (omega arith))) (λ (u : Stands y (made_by n (p + 1) log)). later u) t
  made_first n p s log y false is t later = later t

  pub made_by_from : (n : List ℕ) (p : ℕ) (log : List (Signed E)) (y : Placed E) → Stands y (made_by n p log)
      → (q : ℕ) × (x : Signed E) × (get_elem? log q ≡ some x) × (x.by ≡ n) × (y ≡ placed (p + q) x.entry)
  made_by_from n p [] y h = absurd h
  made_by_from n p (s ∷ log) y h = made_first n p s log y (same_name s.by n) refl h (λ t. made_later n p s log y (made_by_from n (p + 1) log y t))

  pub most_one : (n : List ℕ) (k : Known E) → is n k + 0 + 0 ≤ 1
  most_one n k = omega (arith, so_most (same_name k.name n))

  pub nobody : (n : List ℕ) (j : ℕ) (k : Known E) → k.name ≡ [] → is (n ++ j ∷ []) k + 0 + 0 ≤ lends n j k + 0 + 0
  nobody n j k e =
      none_so (is (n ++ j ∷ []) k) (lends n j k) (λ some_is. let named = is_one (n ++ j ∷ []) k some_is in let l : 0 ≡ length (n ++ j ∷ []) = ap length (sym e ∙ named) in omega (arith, length-append n (j ∷ [])))
