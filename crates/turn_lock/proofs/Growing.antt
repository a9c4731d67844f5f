-- Passes that were joined into one: who they are, and whose entries the history has.
use Rattle.std.proofs.Common.{◌≡◌, ◌≢◌, ◌⊎◌, ℕ, zero, suc, ◌+◌, ◌<◌, ◌≤◌, List, [], ◌∷◌, ◌++◌, map, length, sym, refl, ap, ◌∙◌, subst, inl, inr, ⊎_elim, arith, Option, Some, None, slice_get, append-nil, append_assoc}
use mathlib.Core.Logic.{dite}
use mathlib.Core.Option.{some, some-injective}
use mathlib.Core.List.{IsPrefix, map-append}
use native.Mathlib.Decide.{ℕ_discrete}
use lib.ListN.{get_elem?}
use Rattle.turn_lock.specs.declared.view.Placed.{Placed}
use Rattle.turn_lock.specs.declared.view.Known.{Known}
use Rattle.turn_lock.specs.declared.view.Turn.{Turn}
use Rattle.turn_lock.specs.declared.view.Turn.TheVariants.{Away}
use Rattle.turn_lock.specs.History.{Stands, Grows, AllGrow, IsNamed, AreWhole, OwnedOnce, placed, with_seen}
use Rattle.turn_lock.specs.Rule.{Signed, Each, IsWhole, IsTold, Fits, weigh, is, lends, history, made_by, viewed}
use Rattle.turn_lock.proofs.Lists.{prefix_self, prefix_trans, each-append, weigh-append, weigh_some, weigh_stands, weigh_two, stands_get, get_stands, get_of, each_stands}
use Rattle.turn_lock.proofs.Names.{is_self, is_one, lends_gives, history_at, made_by_stands, made_by_from}

module _ {E : Type 0} where
  pub grows_self : (k : Known E) → Grows k k
  grows_self k = record { name = refl; splits = refl; own = refl; seen = prefix_self k.seen }

  pub grows_seen : (k later : Known E) (list : List E) → later ≡ with_seen k list → IsPrefix k.seen list → Grows k later
  grows_seen k later list e p = record {
    name = ap (λ (x : Known E). x.name) e;
    splits = ap (λ (x : Known E). x.splits) e;
    own = ap (λ (x : Known E). x.own) e;
    seen = subst (λ l. IsPrefix k.seen l) (sym (ap (λ (x : Known E). x.seen) e)) p;
  }

  grows_trans : (k l m : Known E) → Grows k l → Grows l m → Grows k m
  grows_trans k l m p q = record { name = q.name ∙ p.name; splits = q.splits ∙ p.splits; own = q.own ∙ p.own; seen = prefix_trans k.seen l.seen m.seen p.seen q.seen }

  all_grow_self : (xs : List (Known E)) → AllGrow xs xs
  all_grow_self [] = tt
  all_grow_self (x ∷ xs) = (grows_self x, all_grow_self xs)

  pub grow_start : (xs ks : List (Known E)) → ks ≡ [] → AllGrow xs (xs ++ ks)
  grow_start xs ks e = subst (λ l. AllGrow xs l) (sym (ap (λ k. xs ++ k) e ∙ append-nil xs)) (all_grow_self xs)

  grow_at : (bs ys ks : List (Known E)) (x h : Known E) → Grows x h → AllGrow bs (ys ++ x ∷ ks) → AllGrow bs (ys ++ h ∷ ks)
  grow_at [] [] ks x h g all = all
  grow_at [] (y ∷ ys) ks x h g all = all
  grow_at (a ∷ bs) [] ks x h g all = (grows_trans a x h all.0 g, all.1)
  grow_at (a ∷ bs) (y ∷ ys) ks x h g all = (all.0, grow_at bs ys ks x h g all.1)

  pub grow-append : (bs ys : List (Known E)) (a y : Known E) → AllGrow bs ys → Grows a y → AllGrow (bs ++ a ∷ []) (ys ++ y ∷ [])
  grow-append [] [] a y all g = (g, tt)
  grow-append [] (z ∷ ys) a y all g = absurd all
  grow-append (b ∷ bs) [] a y all g = absurd all
  grow-append (b ∷ bs) (z ∷ ys) a y all g = (all.0, grow-append bs ys a y all.1 g)

  -- the next pass was joined in
  pub grow_step : {S : Type 0} (f : S → Known E) (bs : List (Known E)) (xs zs : List S) (p : S) (ks ks' : List (Known E)) (h : Known E) → zs ≡ xs ++ p ∷ [] → Grows (f p) h → ks' ≡ h ∷ ks
      → AllGrow bs (map f zs ++ ks) → AllGrow bs (map f xs ++ ks')
  grow_step f bs xs zs p ks ks' h e g e' all =
      let flat : map f zs ++ ks ≡ map f xs ++ f p ∷ ks = ap (λ l. map f l ++ ks) e ∙ (ap (λ l. l ++ ks) (map-append f xs (p ∷ [])) ∙ append_assoc (map f xs) (f p ∷ []) ks) in
      subst (λ l. AllGrow bs (map f xs ++ l)) (sym e') (grow_at bs (map f xs) ks (f p) h g (subst (λ l. AllGrow bs l) flat all))

  -- weights that go by name and splits alone
  grown_weight : (f : Known E → ℕ) → ((k l : Known E) → Grows k l → f k ≡ f l) → (xs ys : List (Known E)) → AllGrow xs ys → weigh f xs ≡ weigh f ys
  grown_weight f same [] [] all = refl
  grown_weight f same [] (y ∷ ys) all = absurd all
  grown_weight f same (x ∷ xs) [] all = absurd all
  grown_weight f same (x ∷ xs) (y ∷ ys) all = let h = same x y all.0 in let k = grown_weight f same xs ys all.1 in omega arith

  grown_is : (n : List ℕ) (k l : Known E) → Grows k l → is n k ≡ is n l
  grown_is n k l g = ap (λ (m : List ℕ). is n (record k { name = m })) (sym g.name)

  grown_lends : (n : List ℕ) (i : ℕ) (k l : Known E) → Grows k l → lends n i k ≡ lends n i l
  grown_lends n i k l g = λ j. lends n i (record k { name = sym g.name j; splits = sym g.splits j })

  pub grown_each : (P Q : Known E → Type 0) → ((k l : Known E) → Grows k l → P l → Q k) → (xs ys : List (Known E)) → AllGrow xs ys → Each P ys → Each Q xs
  grown_each P Q f [] [] all each = tt
  grown_each P Q f [] (y ∷ ys) all each = absurd all
  grown_each P Q f (x ∷ xs) [] all each = absurd all
  grown_each P Q f (x ∷ xs) (y ∷ ys) all each = (f x y all.0 each.0, grown_each P Q f xs ys all.1 each.1)

  -- names that are whole, by their weights
  whole_weight : (xs : List (Known E)) → AreWhole xs → IsWhole xs
  whole_weight xs whole = record {
    first = let r = whole.0 in let one = is_self r.0 [] r.2 in let le = weigh_stands (is []) xs r.0 r.1 in omega arith;
    split = λ n k some_lends.
        let lender = weigh_some (lends n k) xs some_lends in
        let gives = lends_gives n k lender.0 lender.2 in
        let there = whole.1 lender.0 k lender.1 gives.1 gives.2 in
        let name : there.0.name ≡ n ++ k ∷ [] = there.2 ∙ ap (λ m. m ++ k ∷ []) gives.0 in
        let one = is_self there.0 (n ++ k ∷ []) name in let le = weigh_stands (is (n ++ k ∷ [])) xs there.0 there.1 in omega arith;
  }

  grown_whole : (xs ys : List (Known E)) → AllGrow xs ys → IsWhole xs → IsWhole ys
  grown_whole xs ys all whole = record {
    first = let e = grown_weight (is []) (grown_is []) xs ys all in let h = whole.first in omega arith;
    split = λ n k some_lends.
        let e = grown_weight (lends n k) (grown_lends n k) xs ys all in
        let f = grown_weight (is (n ++ k ∷ [])) (grown_is (n ++ k ∷ [])) xs ys all in
        let h = whole.split n k (omega arith) in omega arith;
  }

module _ {E S : Type 0} (f : S → Known E) where
  -- all that were handed in, with the last one's own part behind
  pub all_gathered : (zs xs : List S) (p : S) (hs : List (Known E)) (m : Known E) → zs ≡ xs ++ p ∷ [] → AllGrow (map f xs) hs → m ≡ f p → AllGrow (map f zs) (hs ++ m ∷ [])
  all_gathered zs xs p hs m e all same =
      let both : map f zs ≡ map f xs ++ f p ∷ [] = ap (λ l. map f l) e ∙ map-append f xs (p ∷ []) in
      subst (λ l. AllGrow l (hs ++ m ∷ [])) (sym both) (grow-append (map f xs) hs (f p) m all (subst (λ k. Grows (f p) k) (sym same) (grows_self (f p))))

module _ {E O : Type 0} (right : O → List E → Type 0) (opens uses : E → Option ℕ) (o : O) where
  -- each pass's seen list begins the list that the last look told
  pub told_seen : (ks hs : List (Known E)) (m : Known E) (t : Turn E) (list : List E) → AllGrow ks (hs ++ m ∷ []) → IsTold right opens uses o (viewed (Some o) m hs t) list → Each (λ k. IsPrefix k.seen list) ks
  told_seen ks hs m t list all told =
      grown_each (Fits right o told.log) (λ k. IsPrefix k.seen list) (λ k l g f. prefix_trans k.seen l.seen list g.seen (subst (λ x. IsPrefix l.seen x) (sym told.list_is) f.seen)) ks (hs ++ m ∷ []) all
      (each-append (Fits right o told.log) hs (m ∷ []) told.each.1 (told.each.0, tt))

  -- where their names are whole, each entry stands in the own list of exactly one of them
  pub told_once : (ks hs : List (Known E)) (m : Known E) (t : Turn E) (list : List E) → AllGrow ks (hs ++ m ∷ []) → IsTold right opens uses o (viewed (Some o) m hs t) list → AreWhole ks → OwnedOnce list ks
  told_once ks hs m t list all told whole p e at =
      let log = told.log in
      let people : List (Known E) = hs ++ m ∷ [] in
      let own = grown_each (Fits right o log) (λ k. k.own ≡ made_by k.name 0 log) (λ k l g f. sym g.own ∙ (f.own ∙ ap (λ n. made_by n 0 log) g.name)) ks people all
      (each-append (Fits right o log) hs (m ∷ []) told.each.1 (told.each.0, tt)) in
      let weight = λ (f : Known E → ℕ). weigh-append f hs (m ∷ []) in
      let turned : IsWhole (m ∷ hs) = back hs m (grown_whole ks people all (whole_weight ks whole)) in
      let x = history_at log p e (subst (λ l. slice_get l p ≡ Some e) told.list_is at) in
      let n : List ℕ = x.0.by in
      let some_author = told.authors turned p x.0 x.1 in
      let most = told.names n in
      let same = grown_weight (is n) (grown_is n) ks people all in
      let sum = weight (is n) in
      let author = weigh_some (is n) ks (omega arith) in
      let name = is_one n author.0 author.2 in
      let place = get_stands ks author.0 author.1 in
      let stands : Stands (placed (0 + p) x.0.entry) (made_by author.0.name 0 log) = made_by_stands author.0.name 0 log p x.0 x.1 (sym name) in
      let entry : placed (0 + p) x.0.entry ≡ placed p e = (λ i. placed (zero_add p i) (x.2 i)) in (
        place.0,
        author.0,
        place.1,
        subst (λ (z : Placed E × List (Placed E)). Stands z.0 z.1) (λ i. (entry i, sym (each_stands (λ k. k.own ≡ made_by k.name 0 log) ks author.0 own author.1) i)) stands,
        (λ j other y there y_in same_place.
            let made = made_by_from other.name 0 log y (subst (λ l. Stands y l) (each_stands (λ k. k.own ≡ made_by k.name 0 log) ks other own (stands_get ks j other there)) y_in) in
            let q : made.0 ≡ p = omega (arith, ap (λ (z : Placed E). z.place) made.4, same_place) in
            let one : made.1 ≡ x.0 = some-injective made.1 x.0 (sym made.2 ∙ (ap (get_elem? log) q ∙ x.1)) in
            let by : other.name ≡ n = sym made.3 ∙ ap (λ (z : Signed E). z.by) one in
            dite (ℕ_discrete j place.0) (λ (e : j ≡ place.0). e) (λ ne.
            let two = weigh_two (is n) ks j place.0 other author.0 (get_of ks j other there) (get_of ks place.0 author.0 place.1) ne in
            let a = is_self other n by in let b = is_self author.0 n name in absurd (omega arith))),
      )
    where
      zero_add : (p : ℕ) → 0 + p ≡ p
      zero_add p = omega arith

      back : (hs : List (Known E)) (m : Known E) → IsWhole (hs ++ m ∷ []) → IsWhole (m ∷ hs)
      back hs m w = record {
        first = let a = weigh-append (is []) hs (m ∷ []) in let h = w.first in omega arith;
        split = λ n k some_lends.
            let a = weigh-append (lends n k) hs (m ∷ []) in let b = weigh-append (is (n ++ k ∷ [])) hs (m ∷ []) in
            let h = w.split n k (omega arith) in omega arith;
      }
