-- Each kind of step keeps the rule of the table, and what a look tells.
use Rattle.std.proofs.Common.{◌≡◌, ◌≢◌, ◌⊎◌, ℕ, zero, suc, ◌+◌, ◌-◌, ◌%◌, ◌^◌, ◌<◌, ◌≤◌, cond, eqb, Bool, true, false, List, [], ◌∷◌, ◌++◌, length, set, get_or, slice_index, sym, refl, ap, ◌∙◌, subst, inl, inr, ⊎_elim, arith, Option, Some, None, append-nil, length-append, slice_get}
use mathlib.Core.Logic.{dite}
use mathlib.Core.Option.{some, none, some-injective, some-ne-none}
use mathlib.Core.Option as maybe
use mathlib.Core.List.{IsPrefix}
use native.Mathlib.Decide.{ℕ_discrete, dec_le}
use prog.Atomic.{either}
use lib.ListN.{get_elem?}
use Rattle.atomic_table.specs.Table.{State, Me, Step, step, Act, keeps, takes, gives, rest, stepped, carried_after, homes_after, Valid, opening as start, Allows, Enters, Splits, Joins}
use Rattle.atomic_table.proofs.Lists.{set_again, set_else, at_last, at_longer, at_snoc}
use Rattle.turn_lock.specs.declared.view.Placed.{Placed}
use Rattle.turn_lock.specs.declared.view.Known.{Known}
use Rattle.turn_lock.specs.declared.view.Turn.{Turn}
use Rattle.turn_lock.specs.declared.view.Turn.TheVariants.{Away, Got, Held, Shut}
use Rattle.turn_lock.specs.declared.view.View.{View}
use Rattle.turn_lock.specs.History.{Stands, Opened, MayAdd, placed, with_entry, with_seen, after_split, split_off}
use Rattle.turn_lock.specs.Rule.{Signed, same_name, weigh, Each, is, lends, history, made_by, total, people, viewed, newcomer, spent, IsAway, IsWhole, IsFair, Fits, ViewFits, HoldsState, Stays, NobodyHolds, OneHolds, IsKept, IsTold}
use Rattle.turn_lock.specs.Seats.{taken, looked, tied, added, given, shut}
use Rattle.std.proofs.lemmas.List.{length-map}
use Rattle.turn_lock.proofs.Lists.{prefix_self, prefix_longer, weigh-append, each-append, at_end, members_set, members-snoc, set_at, by_end, each_stands, each_map, weigh_at, weigh_two, weigh_stands, weigh_some}
use Rattle.turn_lock.proofs.Names.{same_self, same_is, not_same, is_self, is_one, lends_is, lends_gives, lends_one, history-snoc, history_get, made_by-snoc, made_by_none, made_by_stands, made_by_from, not_le, snoc_is, most_one, nobody}
use Rattle.turn_lock.proofs.Holding.{TurnOf, OthersAway, holds_turn, others_still, turn_stays, turn_grows, total_set, total_at, total-snoc, total_sum, lender_here, others, others_rest, others_lend}

module _ {T E O : Type 0} (opening : T → O) (entries : T → List E) (right : O → List E → Type 0) (opens uses : E → Option ℕ) (o : O) where
  abbrev pub V : Type 0
  V = View E O

  abbrev pub S : Type 0
  S = State (Option T) V

  abbrev pub Rule : S → Type 0
  Rule = IsKept opening entries right opens uses o

  abbrev pub pass : Known E → List (Known E) → Turn E → V
  pass m k t = viewed (Some o) m k t

  nothing : {A : Type 0} (x : A) → none ≡ some x → ⊥
  nothing x h = some-ne-none x (sym h)

  -- what a seat speaks for fits the history
  fitting : (s : S) (r : Rule s) (id : ℕ) (m : Known E) (k : List (Known E)) (t : Turn E) → get_elem? s.views id ≡ some (pass m k t) → Each (Fits right o r.log) (m ∷ k)
  fitting s r id m k t at = (r.each_view id (pass m k t) at).each

  fits_view : (log : List (Signed E)) (m : Known E) (k : List (Known E)) (t : Turn E) → Each (Fits right o log) (m ∷ k) → ViewFits right o log (pass m k t)
  fits_view log m k t each = record { shows = λ p e. cc; each = each }

  -- with a longer beginning of the history seen, all still fits
  sees : (log : List (Signed E)) (m : Known E) (list : List E) → list ≡ history log → right o (history log) → Fits right o log m → Fits right o log (with_seen m list)
  sees log m list e fit f = record {
    seen = subst (λ (l : List E). IsPrefix l (history log)) (sym e) (prefix_self (history log));
    fitting = subst (right o) (sym e) fit;
    own = f.own;
  }

  -- a step after which the same names stand in the table
  moves : (s : S) (r : Rule s) (id : ℕ) (v w : V) (words' : List ℕ) (number : ℕ) (homes' : List (maybe.Option (Option T))) → get_elem? s.views id ≡ some v
      → ((n : List ℕ) → weigh (is n) (people w) ≡ weigh (is n) (people v)) → ((n : List ℕ) (k : ℕ) → weigh (lends n k) (people w) ≡ weigh (lends n k) (people v))
      → words' ≡ length r.log ∷ number ∷ [] → ViewFits right o r.log w → TurnOf opening entries o (history r.log) number homes' (set s.views id w)
      → Rule record { words = words'; homes = homes'; views = set s.views id w }
  moves s r id v w words' number homes' at same_is' same_lends words_are fit turn' = record {
    log = r.log;
    turn_word = number;
    words = words_are;
    fitting = r.fitting;
    fair = r.fair;
    each_view = members_set (λ _ u. ViewFits right o r.log u) s.views id w fit (λ j u ne there. r.each_view j u there);
    names = λ n. let a = total_set (is n) s.views id v w at in let b = same_is' n in let c = r.names n in omega arith;
    authors = λ p x there. let a = total_set (is x.by) s.views id v w at in let b = same_is' x.by in let c = r.authors p x there in omega arith;
    lenders = λ n k. let a = total_set (is (n ++ k ∷ [])) s.views id v w at in let b = same_is' (n ++ k ∷ []) in let d = total_set (lends n k) s.views id v w at in let e = same_lends n k in let c = r.lenders n k in omega arith;
    turn = turn';
  }

  -- 1: the turn is taken where word 1 is 0
  pub takes_at : (slots id : ℕ) (m : Known E) (k : List (Known E)) (st : Step (Option T))
      → Allows Rule slots id (pass m k Away, []) 1 (λ n. either (eqb n 0) 1 n) (taken opening entries st (pass m k Away, []))
  takes_at slots id m k st s r deep at range =
      let f : ℕ → ℕ = λ n. either (eqb n 0) 1 n in
      let each = fitting s r id m k Away at in
      let found : slice_index s.words 1 ≡ r.turn_word = ap (λ ws. slice_index ws 1) r.words in
      let words_are : set s.words 1 (f (slice_index s.words 1)) ≡ length r.log ∷ f r.turn_word ∷ [] = ap (λ ws. set ws 1 (f (slice_index ws 1))) r.words in
      ⊎_elim (λ (n : NobodyHolds opening entries o (history r.log) r.turn_word s.homes s.views).
      let state = n.slot.0 in
      let w = pass m k (Got (entries state)) in (
        w,
        takes 0 (Some state),
        ap (λ hs. get_elem? hs 0) n.slot.1,
        moves s r id (pass m k Away) w (set s.words 1 (f (slice_index s.words 1))) 1 (set s.homes 0 none) at (λ _. refl) (λ _ _. refl)
            (words_are ∙ ap (λ x. length r.log ∷ f x ∷ []) n.word) (fits_view r.log m k (Got (entries state)) each)
            (inr record {
              seat = id;
              view = w;
              at = set_at s.views id (pass m k Away) w at;
              word = refl;
              stays = (ap (λ hs. set hs 0 none) n.slot.1, n.slot.3);
              others_away = others_still opening entries o id s.views w (λ j u ne there. n.all_away j u there);
            }),
        ((λ _. (state, refl, refl, λ p e. n.slot.2 ∙ cc)), (λ ne. absurd (ne (found ∙ n.word)))),
      ))
      (λ (h : OneHolds opening entries o (history r.log) r.turn_word s.homes s.views).
      let v = pass m k Away in (
        v,
        keeps,
        tt,
        moves s r id v v (set s.words 1 (f (slice_index s.words 1))) 1 s.homes at (λ _. refl) (λ _ _. refl)
            (words_are ∙ ap (λ x. length r.log ∷ f x ∷ []) h.word) (fits_view r.log m k Away each)
            (subst (λ n. TurnOf opening entries o (history r.log) n s.homes (set s.views id v)) h.word (turn_stays opening entries o (history r.log) r.turn_word s.homes s.views id v v r.turn at tt tt)),
        ((λ zero_found. absurd (omega (arith, zero_found, found, h.word))), (λ _. refl)),
      )) r.turn

  -- where one seat speaks for a whole list of names, it speaks for all names
  all_there : (s : S) (r : Rule s) (id : ℕ) (v : V) → get_elem? s.views id ≡ some v → IsWhole (people v) → (n : List ℕ) → total (is n) s.views ≤ weigh (is n) (people v)
  all_there s r id v at whole =
      by_end (λ n. total (is n) s.views ≤ weigh (is n) (people v)) (let a = r.names [] in let b = whole.first in omega arith) (λ n k all.
      let here = lender_here s.views id v n k at all in
      let lent = r.lenders n k in
      let once = r.names (n ++ k ∷ []) in
      dite (dec_le 1 (weigh (lends n k) (people v))) (λ some_lends. let split = whole.split n k some_lends in omega arith) (λ none_lends. omega (arith, none_lends)))

  -- what a look at the count tells
  told : (s : S) (r : Rule s) (id : ℕ) (v : V) → get_elem? s.views id ≡ some v → IsTold right opens uses o v (history r.log)
  told s r id v at = record {
    log = r.log;
    list_is = refl;
    fitting = r.fitting;
    fair = r.fair;
    each = (r.each_view id v at).each;
    names = λ n. let a = total_at (is n) s.views id v at in let b = r.names n in omega arith;
    authors = λ whole p x there. let a = all_there s r id v at whole x.by in let b = r.authors p x there in omega arith;
  }

  -- 2: the holder looks at the count
  pub looks_at : (slots id : ℕ) (m : Known E) (k : List (Known E)) (got : List E) (c : List (ℕ × Option T)) (st : Step (Option T))
      → Allows Rule slots id (pass m k (Got got), c) 0 (λ n. n) (looked right opens uses st (pass m k (Got got), c))
  looks_at slots id m k got c st s r deep at range =
      let v = pass m k (Got got) in
      let w = pass (with_seen m got) k Held in
      let each = fitting s r id m k (Got got) at in
      let h = holds_turn opening entries o (history r.log) r.turn_word s.homes s.views id v r.turn at (λ a. a) in
      let list_is : got ≡ history r.log = h.1.1 in (
        w,
        keeps,
        tt,
        moves s r id v w (set s.words 0 (slice_index s.words 0)) 1 s.homes at (λ _. refl) (λ _ _. refl)
            (ap (λ ws. set ws 0 (slice_index ws 0)) r.words ∙ ap (λ x. length r.log ∷ x ∷ []) h.0)
            (fits_view r.log (with_seen m got) k Held (sees r.log m got list_is r.fitting each.0, each.1))
            (inr record {
              seat = id;
              view = w;
              at = set_at s.views id v w at;
              word = refl;
              stays = (h.1.0, list_is);
              others_away = others_still opening entries o id s.views w h.2;
            }),
        (λ got' p same_got same_o.
            let M : Type 0 = Me (Option T) V in
            let before : M = (w, c) in
            let after : List E → M = λ l. (pass (with_seen m l) k Held, c) in
            let P : List E × O → Type 0 = λ z. (before ≡ after z.0) × IsTold right opens uses z.1 v z.0 in
            let got_is : got ≡ got' = cc in let o_is : o ≡ p = cc in
            subst P (λ i. (got_is i, o_is i)) (refl, subst (λ l. IsTold right opens uses o v l) (sym list_is) (told s r id v at))),
      )

  module _ (log : List (Signed E)) (name : List ℕ) (seen : List E) (own : List (Placed E)) (e : E) (seen_is : seen ≡ history log) (own_is : own ≡ made_by name 0 log)
      (fair : IsFair opens uses log) (may : MayAdd opens uses seen own e) where
    -- where the entry uses a number, its name opened the number
    opener_of : (n : ℕ) → uses e ≡ Some n → (q : ℕ) × (y : Signed E) × (get_elem? log q ≡ some y) × (opens y.entry ≡ Some n) × (y.by ≡ name)
    opener_of n u =
        let opened = (may.1 n u).0 in
        let made = made_by_from name 0 log opened.0 (subst (λ l. Stands opened.0 l) own_is opened.1) in
        (made.0, made.1, made.2, ap (λ (a : Placed E). opens a.entry) (sym made.4) ∙ opened.2, made.3)

    opened_before : (n p : ℕ) (y : Signed E) → get_elem? log p ≡ some y → opens y.entry ≡ Some n → opens e ≡ Some n → ⊥
    opened_before n p y at old new = may.0 n p y.entry new (subst (λ l. slice_get l p ≡ Some y.entry) (sym seen_is) (history_get log p y at)) old

    used_before : (n p : ℕ) (y : Signed E) → get_elem? log p ≡ some y → uses y.entry ≡ Some n → uses e ≡ Some n → ⊥
    used_before n p y at old new =
        let mine = opener_of n new in
        let theirs = fair.opener p n y at old in
        let place : mine.0 ≡ theirs.0 = fair.once mine.0 theirs.0 n mine.1 theirs.1 mine.2 theirs.2 mine.3 theirs.3 in
        let one : mine.1 ≡ theirs.1 = some-injective mine.1 theirs.1 (sym mine.2 ∙ (ap (get_elem? log) place ∙ theirs.2)) in
        let by : y.by ≡ name = sym theirs.4 ∙ (ap (λ (z : Signed E). z.by) (sym one) ∙ mine.4) in
        (may.1 n new).1 (placed (0 + p) y.entry) (subst (λ l. Stands (placed (0 + p) y.entry) l) (sym own_is) (made_by_stands name 0 log p y at by)) old

    -- the history with one entry more is fair
    fair_more : IsFair opens uses (log ++ record { by = name; entry = e } ∷ [])
    fair_more =
        let x : Signed E = record { by = name; entry = e } in
        let New : ℕ → Signed E → Type 0 = λ j y. (j ≡ length log) × (x ≡ y) in
        let Old : ℕ → Signed E → Type 0 = λ j y. get_elem? log j ≡ some y in
        record {
          once = λ p q n y z aty atz oy oz.
              ⊎_elim (λ (a : Old p y). ⊎_elim (λ (b : Old q z). fair.once p q n y z a b oy oz) (λ (b : New q z). absurd (opened_before n p y a oy (ap (λ (s : Signed E). opens s.entry) b.1 ∙ oz))) (at_end log x z q atz))
              (λ (a : New p y). ⊎_elim (λ (b : Old q z). absurd (opened_before n q z b oz (ap (λ (s : Signed E). opens s.entry) a.1 ∙ oy))) (λ (b : New q z). a.0 ∙ sym b.0) (at_end log x z q atz)) (at_end log x y p aty);
          opener = λ p n y aty uy.
              ⊎_elim (λ (a : Old p y). let r = fair.opener p n y a uy in (r.0, r.1, at_longer log (x ∷ []) r.0 r.1 r.2, r.3, r.4))
              (λ (a : New p y). let r = opener_of n (ap (λ (s : Signed E). uses s.entry) a.1 ∙ uy) in (r.0, r.1, at_longer log (x ∷ []) r.0 r.1 r.2, r.3, r.4 ∙ ap (λ (s : Signed E). s.by) a.1)) (at_end log x y p aty);
          single = λ p q n y z aty atz uy uz.
              ⊎_elim (λ (a : Old p y). ⊎_elim (λ (b : Old q z). fair.single p q n y z a b uy uz) (λ (b : New q z). absurd (used_before n p y a uy (ap (λ (s : Signed E). uses s.entry) b.1 ∙ uz))) (at_end log x z q atz))
              (λ (a : New p y). ⊎_elim (λ (b : Old q z). absurd (used_before n q z b uz (ap (λ (s : Signed E). uses s.entry) a.1 ∙ uy))) (λ (b : New q z). a.0 ∙ sym b.0) (at_end log x z q atz)) (at_end log x y p aty);
        }

  -- who has another name owns what it owned
  still_fits : (log : List (Signed E)) (x : Signed E) (h : Known E) → h.name ≢ x.by → Fits right o log h → Fits right o (log ++ x ∷ []) h
  still_fits log x h ne f = record {
    seen = subst (IsPrefix h.seen) (sym (history-snoc log x)) (prefix_longer h.seen (history log) (x.entry ∷ []) f.seen);
    fitting = f.fitting;
    own =
        f.own ∙ (sym (append-nil (made_by h.name 0 log)) ∙ (ap (λ b. made_by h.name 0 log ++ cond b (placed (0 + length log) x.entry ∷ []) []) (sym (not_same x.by h.name (λ e. ne (sym e)))) ∙ sym (made_by-snoc h.name 0 log x)));
  }

  -- who added an entry owns it
  owns_more : (log : List (Signed E)) (m : Known E) (e : E) → m.seen ≡ history log → right o (m.seen ++ e ∷ []) → Fits right o log m → Fits right o (log ++ record { by = m.name; entry = e } ∷ []) (with_entry m e)
  owns_more log m e seen_is fit f =
      let x : Signed E = record { by = m.name; entry = e } in
      let list : m.seen ++ e ∷ [] ≡ history (log ++ x ∷ []) = ap (λ l. l ++ e ∷ []) seen_is ∙ sym (history-snoc log x) in
      let place : length m.seen ≡ 0 + length log = omega (arith, ap length seen_is, length-map log (λ (y : Signed E). y.entry)) in
      let own_is : m.own ++ placed (length m.seen) e ∷ [] ≡ made_by m.name 0 log ++ placed (0 + length log) e ∷ [] = λ i. f.own i ++ placed (place i) e ∷ [] in
      record {
        seen = subst (λ l. IsPrefix l (history (log ++ x ∷ []))) (sym list) (prefix_self (history (log ++ x ∷ [])));
        fitting = fit;
        own = own_is ∙ (ap (λ b. made_by m.name 0 log ++ cond b (placed (0 + length log) e ∷ []) []) (sym (same_self m.name)) ∙ sym (made_by-snoc m.name 0 log x));
      }

  -- 3: the holder adds an entry
  pub adds_at : (slots id : ℕ) (m : Known E) (k : List (Known E)) (c : List (ℕ × Option T)) (e : E) (st : Step (Option T)) → right o (m.seen ++ e ∷ []) → MayAdd opens uses m.seen m.own e
      → length (m.seen ++ e ∷ []) < 2 ^ 64 → Allows Rule slots id (pass m k Held, c) 0 (λ n. (n + 1) % 2 ^ 64) (added (Some e) st (pass m k Held, c))
  adds_at slots id m k c e st fit may room s r deep at range =
      let v = pass m k Held in
      let w = pass (with_entry m e) k Held in
      let x : Signed E = record { by = m.name; entry = e } in
      let each = fitting s r id m k Held at in
      let h = holds_turn opening entries o (history r.log) r.turn_word s.homes s.views id v r.turn at (λ a. a) in
      let seen_is : m.seen ≡ history r.log = h.1.1 in
      let f : ℕ → ℕ = λ n. (n + 1) % 2 ^ 64 in
      let len : length r.log ≡ length m.seen = omega (arith, ap length seen_is, length-map r.log (λ (y : Signed E). y.entry)) in
      let long : length (m.seen ++ e ∷ []) ≡ length m.seen + 1 = length-append m.seen (e ∷ []) in
      let longer : length (r.log ++ x ∷ []) ≡ length r.log + 1 = length-append r.log (x ∷ []) in
      let counted : f (length r.log) ≡ length (r.log ++ x ∷ []) = omega arith in
      let mine : weigh (is m.name) (people v) ≡ 1 + weigh (is m.name) k = ap (λ n. n + weigh (is m.name) k) (is_self m m.name refl) in
      let all = r.names m.name in
      let here = total_at (is m.name) s.views id v at in (
        w,
        keeps,
        tt,
        record {
          log = r.log ++ x ∷ [];
          turn_word = 1;
          words = ap (λ ws. set ws 0 (f (slice_index ws 0))) r.words ∙ (λ i. counted i ∷ h.0 i ∷ []);
          fitting = subst (right o) (ap (λ l. l ++ e ∷ []) seen_is ∙ sym (history-snoc r.log x)) fit;
          fair = fair_more r.log m.name m.seen m.own e seen_is each.0.own r.fair may;
          each_view = members_set (λ _ u. ViewFits right o (r.log ++ x ∷ []) u) s.views id w
              (fits_view (r.log ++ x ∷ []) (with_entry m e) k Held (
                owns_more r.log m e seen_is fit each.0,
                each_map (Fits right o r.log) (Fits right o (r.log ++ x ∷ [])) k (λ a there f. still_fits r.log x a (λ same. let one = is_self a m.name same in let le = weigh_stands (is m.name) k a there in omega arith) f) each.1,
              ))
              (λ j u ne there.
              let fu = r.each_view j u there in
              let two = weigh_two (λ (u : V). weigh (is m.name) (people u)) s.views j id u v there at ne in
              record {
                shows = fu.shows;
                each = each_map (Fits right o r.log) (Fits right o (r.log ++ x ∷ [])) (people u) (λ a stands f. still_fits r.log x a (λ same. let one = is_self a m.name same in let le = weigh_stands (is m.name) (people u) a stands in omega arith) f) fu.each;
              });
          names = λ n. let a = total_set (is n) s.views id v w at in let c = r.names n in omega arith;
          authors = λ p y there. let a = total_set (is y.by) s.views id v w at in
              ⊎_elim (λ (old : get_elem? r.log p ≡ some y). let c = r.authors p y old in omega arith)
              (λ (new : x ≡ y). let by : m.name ≡ y.by = ap (λ (z : Signed E). z.by) new in let one = is_self m y.by by in let le = total_at (is y.by) s.views id v at in omega arith) (at_snoc r.log x y p there);
          lenders = λ n k'. let a = total_set (is (n ++ k' ∷ [])) s.views id v w at in let d = total_set (lends n k') s.views id v w at in let c = r.lenders n k' in omega arith;
          turn = inr record {
            seat = id;
            view = w;
            at = set_at s.views id v w at;
            word = refl;
            stays = (h.1.0, ap (λ l. l ++ e ∷ []) seen_is ∙ sym (history-snoc r.log x));
            others_away = others_still opening entries o id s.views w h.2;
          };
        },
        (λ e' same. ap (λ (z : E). (pass (with_entry m z) k Held, c)) (let q : e ≡ e' = cc in q)),
      )

  -- 4: the turn is given back, with the state in the slot
  pub gives_at : (slots id : ℕ) (m : Known E) (k : List (Known E)) (state : T) (st : Step (Option T)) → opening state ≡ o → entries state ≡ m.seen
      → Allows Rule slots id (pass m k Held, (0, Some state) ∷ []) 1 (λ _. 0) (λ _. given st (pass m k Held, (0, Some state) ∷ []) 0)
  gives_at slots id m k state st opening_is entries_are s r deep at range =
      let v = pass m k Held in
      let w = pass m k Away in
      let each = fitting s r id m k Held at in
      let h = holds_turn opening entries o (history r.log) r.turn_word s.homes s.views id v r.turn at (λ a. a) in (
        w,
        gives,
        tt,
        moves s r id v w (set s.words 1 0) 0 (set s.homes 0 (some (Some state))) at (λ _. refl) (λ _ _. refl) (ap (λ ws. set ws 1 0) r.words) (fits_view r.log m k Away each)
            (inl record {
              word = refl;
              slot = (state, ap (λ hs. set hs 0 (some (Some state))) h.1.0, opening_is, entries_are ∙ h.1.1);
              all_away = members_set (λ _ u. IsAway u.turn) s.views id w tt (λ j u ne there. h.2 j u ne there);
            }),
        refl,
      )

  -- the turn is kept for good, with the state in the slot
  pub shuts_at : (slots id : ℕ) (m : Known E) (k : List (Known E)) (state : T) (st : Step (Option T)) → opening state ≡ o → entries state ≡ m.seen
      → Allows Rule slots id (pass m k Held, (0, Some state) ∷ []) 0 (λ n. n) (shut st (pass m k Held, (0, Some state) ∷ []))
  shuts_at slots id m k state st opening_is entries_are s r deep at range =
      let v = pass m k Held in
      let w = pass m k Shut in
      let each = fitting s r id m k Held at in
      let h = holds_turn opening entries o (history r.log) r.turn_word s.homes s.views id v r.turn at (λ a. a) in (
        w,
        gives,
        tt,
        moves s r id v w (set s.words 0 (slice_index s.words 0)) 1 (set s.homes 0 (some (Some state))) at (λ _. refl) (λ _ _. refl)
            (ap (λ ws. set ws 0 (slice_index ws 0)) r.words ∙ ap (λ x. length r.log ∷ x ∷ []) h.0) (fits_view r.log m k Shut each)
            (inr record {
              seat = id;
              view = w;
              at = set_at s.views id v w at;
              word = refl;
              stays = (h.1.1, (state, ap (λ hs. set hs 0 (some (Some state))) h.1.0, opening_is, entries_are ∙ h.1.1));
              others_away = others_still opening entries o id s.views w h.2;
            }),
        refl,
      )

  -- 7: a seat without the turn looks at the count
  pub ties_at : (slots id : ℕ) (m : Known E) (k : List (Known E)) (c : List (ℕ × Option T)) (st : Step (Option T))
      → Allows Rule slots id (pass m k Away, c) 0 (λ n. n) (tied right opens uses st (pass m k Away, c))
  ties_at slots id m k c st s r deep at range =
      let v = pass m k Away in
      let list : List E = history r.log in
      let w = pass (with_seen m list) k Away in
      let each = fitting s r id m k Away at in (
        w,
        keeps,
        tt,
        moves s r id v w (set s.words 0 (slice_index s.words 0)) r.turn_word s.homes at (λ _. refl) (λ _ _. refl)
            (ap (λ ws. set ws 0 (slice_index ws 0)) r.words) (fits_view r.log (with_seen m list) k Away (sees r.log m list refl r.fitting each.0, each.1))
            (turn_stays opening entries o list r.turn_word s.homes s.views id v w r.turn at tt tt),
        (λ p same_o.
            let o_is : o ≡ p = cc in
            (list, refl, subst (λ q. IsTold right opens uses q v list) o_is (told s r id v at))),
      )

  -- nobody has the name of the next pass that a seat splits off
  name_is_new : (s : S) (r : Rule s) (id : ℕ) (m : Known E) (k : List (Known E)) (t : Turn E) → get_elem? s.views id ≡ some (pass m k t) → total (is (m.name ++ (m.splits + 1) ∷ [])) s.views ≡ 0
  name_is_new s r id m k t at =
      let n = m.name in let j : ℕ = m.splits + 1 in
      let named : total (is n) s.views ≤ 1 = r.names n in
      let lent : total (is (n ++ j ∷ [])) s.views ≤ total (lends n j) s.views = r.lenders n j in
      let one : is n m ≡ 1 = is_self m n refl in
      let none_lent : lends n j m < 1 = not_le (lends n j m) (λ lent. let r = lends_gives n j m lent in omega (arith, r.2)) in
      let rest = others_lend s.views id (pass m k t) n j at in
      let head = others_rest n j m in
      omega arith

  -- who split off one pass more still lends all that it lent
  lends_still : (n : List ℕ) (j : ℕ) (m : Known E) → lends n j m ≤ lends n j (after_split m)
  lends_still n j m = dite (dec_le 1 (lends n j m)) (λ lent.
      let r = lends_gives n j m lent in
      let one : lends n j (after_split m) ≡ 1 = lends_one n j (after_split m) r.0 r.1 (omega (arith, r.2)) in
      let all : lends n j m ≤ is n m = lends_is n j m in
      let most : is n m ≡ 1 = is_self m n r.0 in omega arith) (λ none_lent. omega (arith, none_lent))

  -- 5: a pass splits off another
  pub splits_at : (id : ℕ) (m : Known E) → Splits Rule id (pass m [] Away) (pass (after_split m) [] Away) (pass (split_off m) [] Away)
  splits_at id m s r at =
      let v = pass m [] Away in
      let left = pass (after_split m) [] Away in
      let right' = pass (split_off m) [] Away in
      let name : List ℕ = m.name ++ (m.splits + 1) ∷ [] in
      let each = fitting s r id m [] Away at in
      let unused = name_is_new s r id m [] Away at in
      let sums = λ (f : Known E → ℕ). total-snoc f (set s.views id left) right' in
      let named = λ (n : List ℕ). total_set (is n) s.views id v left at in
      record {
        log = r.log;
        turn_word = r.turn_word;
        words = r.words;
        fitting = r.fitting;
        fair = r.fair;
        each_view = members-snoc (λ _ u. ViewFits right o r.log u) (set s.views id left) right'
            (λ _. fits_view r.log (split_off m) [] Away (
              record {
                seen = each.0.seen;
                fitting = each.0.fitting;
                own = sym (made_by_none name 0 r.log (λ q x there by. let a = r.authors q x there in let b : total (is x.by) s.views ≡ 0 = ap (λ n. total (is n) s.views) by ∙ unused in omega arith));
              },
              tt,
            ))
            (members_set (λ _ u. ViewFits right o r.log u) s.views id left
            (fits_view r.log (after_split m) [] Away (record { seen = each.0.seen; fitting = each.0.fitting; own = each.0.own }, tt)) (λ j u ne there. r.each_view j u there));
        names = λ n. let a = sums (is n) in let b = named n in let c = r.names n in
            dite (dec_le 1 (is n (split_off m))) (λ some_n.
            let e : name ≡ n = is_one n (split_off m) some_n in let d : total (is n) s.views ≡ 0 = ap (λ n. total (is n) s.views) (sym e) ∙ unused in
            let f = is_self (split_off m) n e in omega arith) (λ none_n. omega (arith, none_n));
        authors = λ p x there. let a = sums (is x.by) in let b = named x.by in let c = r.authors p x there in omega arith;
        lenders = λ n j.
            let a = sums (is (n ++ j ∷ [])) in let b = named (n ++ j ∷ []) in let c = r.lenders n j in
            let d = sums (lends n j) in let e = total_set (lends n j) s.views id v left at in let f = lends_still n j m in
            dite (dec_le 1 (is (n ++ j ∷ []) (split_off m))) (λ some_n.
            let g : name ≡ n ++ j ∷ [] = is_one (n ++ j ∷ []) (split_off m) some_n in
            let last = snoc_is m.name n (m.splits + 1) j g in
            let one : lends n j (after_split m) ≡ 1 = lends_one n j (after_split m) last.0 (omega (arith, last.1)) (omega (arith, last.1)) in
            let h : total (is (n ++ j ∷ [])) s.views ≡ 0 = ap (λ n. total (is n) s.views) (sym g) ∙ unused in
            let i = is_self (split_off m) (n ++ j ∷ []) g in
            let none_lent : lends n j m < 1 = not_le (lends n j m) (λ lent. let r = lends_gives n j m lent in omega (arith, r.2, last.1)) in omega arith) (λ none_n. omega (arith, none_n));
        turn = turn_grows opening entries o (history r.log) r.turn_word s.homes (set s.views id left) right'
            (turn_stays opening entries o (history r.log) r.turn_word s.homes s.views id v left r.turn at tt tt) tt;
      }

  -- what a seat kept goes to a seat of its own again, which has seen as much
  pub parts_at : (id : ℕ) (m h : Known E) → Splits Rule id (pass m (h ∷ []) Away) (pass m [] Away) (pass (with_seen h m.seen) [] Away)
  parts_at id m h s r at =
      let v = pass m (h ∷ []) Away in
      let left = pass m [] Away in
      let right' = pass (with_seen h m.seen) [] Away in
      let each = fitting s r id m (h ∷ []) Away at in
      let sums = λ (f : Known E → ℕ). total-snoc f (set s.views id left) right' in
      let sets = λ (f : Known E → ℕ). total_set f s.views id v left at in
      record {
        log = r.log;
        turn_word = r.turn_word;
        words = r.words;
        fitting = r.fitting;
        fair = r.fair;
        each_view = members-snoc (λ _ u. ViewFits right o r.log u) (set s.views id left) right'
            (λ _. fits_view r.log (with_seen h m.seen) [] Away (record { seen = each.0.seen; fitting = each.0.fitting; own = each.1.0.own }, tt))
            (members_set (λ _ u. ViewFits right o r.log u) s.views id left (fits_view r.log m [] Away (each.0, tt)) (λ j u ne there. r.each_view j u there));
        names = λ n. let a = sums (is n) in let b = sets (is n) in let c = r.names n in omega arith;
        authors = λ p x there. let a = sums (is x.by) in let b = sets (is x.by) in let c = r.authors p x there in omega arith;
        lenders = λ n j. let a = sums (is (n ++ j ∷ [])) in let b = sets (is (n ++ j ∷ [])) in let d = sums (lends n j) in let e = sets (lends n j) in let c = r.lenders n j in omega arith;
        turn = turn_grows opening entries o (history r.log) r.turn_word s.homes (set s.views id left) right'
            (turn_stays opening entries o (history r.log) r.turn_word s.homes s.views id v left r.turn at tt tt) tt;
      }

  -- 6: a seat is joined into another, which keeps what it knew
  pub joins_at : (id other : ℕ) (m n : Known E) (k j : List (Known E)) → Joins Rule id (pass m k Away) other (pass n j Away) (pass m (n ∷ j ++ k) Away) spent
  joins_at id other m n k j s r at apart there =
      let v = pass m k Away in
      let w = pass n j Away in
      let both = pass m (n ∷ j ++ k) Away in
      let there' : get_elem? s.views other ≡ some w = sym (set_else s.views id other both apart) ∙ there in
      let mine = fitting s r id m k Away at in
      let theirs = fitting s r other n j Away there' in
      let ins = λ (f : Known E → ℕ). total_set f s.views id v both at in
      let outs = λ (f : Known E → ℕ). total_set f (set s.views id both) other w spent there in
      let appends = λ (f : Known E → ℕ). weigh-append f j k in
      record {
        log = r.log;
        turn_word = r.turn_word;
        words = r.words;
        fitting = r.fitting;
        fair = r.fair;
        each_view = members_set (λ _ u. ViewFits right o r.log u) (set s.views id both) other spent (record { shows = λ p e. absurd cc; each = tt })
            (λ i u ne there. members_set (λ _ u. ViewFits right o r.log u) s.views id both
            (fits_view r.log m (n ∷ j ++ k) Away (mine.0, (theirs.0, each-append (Fits right o r.log) j k theirs.1 mine.1))) (λ i u ne there. r.each_view i u there) i u there);
        names = λ n'. let a = ins (is n') in let b = outs (is n') in let d = appends (is n') in let c = r.names n' in omega arith;
        authors = λ p x there. let a = ins (is x.by) in let b = outs (is x.by) in let d = appends (is x.by) in let c = r.authors p x there in omega arith;
        lenders = λ n' i.
            let a = ins (is (n' ++ i ∷ [])) in let b = outs (is (n' ++ i ∷ [])) in let d = appends (is (n' ++ i ∷ [])) in
            let e = ins (lends n' i) in let f = outs (lends n' i) in let g = appends (lends n' i) in let c = r.lenders n' i in omega arith;
        turn = turn_stays opening entries o (history r.log) r.turn_word s.homes (set s.views id both) other w spent
            (turn_stays opening entries o (history r.log) r.turn_word s.homes s.views id v both r.turn at tt tt) there tt tt;
      }

  -- a seat that knows nothing comes in
  pub enters : (s : S) → Rule s → Rule record { words = s.words; homes = s.homes; views = s.views ++ spent ∷ [] }
  enters s r =
      let sums = λ (f : Known E → ℕ). total-snoc f s.views spent in
      record {
        log = r.log;
        turn_word = r.turn_word;
        words = r.words;
        fitting = r.fitting;
        fair = r.fair;
        each_view = members-snoc (λ _ u. ViewFits right o r.log u) s.views spent (λ _. record { shows = λ p e. absurd cc; each = tt }) r.each_view;
        names = λ n. let a = sums (is n) in let c = r.names n in omega arith;
        authors = λ p x there. let a = sums (is x.by) in let c = r.authors p x there in omega arith;
        lenders = λ n j. let a = sums (is (n ++ j ∷ [])) in let b = sums (lends n j) in let c = r.lenders n j in omega arith;
        turn = turn_grows opening entries o (history r.log) r.turn_word s.homes s.views spent r.turn tt;
      }

  -- the table at the start
  pub opens_at : (state : T) → opening state ≡ o → entries state ≡ [] → right o [] → Rule (start (0 ∷ 0 ∷ []) (Some state ∷ []) (newcomer o))
  opens_at state opening_is entries_are fit =
      let m : Known E = record { name = []; splits = 0; seen = []; own = [] } in
      record {
        log = [];
        turn_word = 0;
        words = refl;
        fitting = fit;
        fair = record { once = λ p q n x y there. absurd (nothing x there); opener = λ p n x there. absurd (nothing x there); single = λ p q n x y there. absurd (nothing x there) };
        each_view = members-snoc (λ _ u. ViewFits right o [] u) [] (newcomer o) (λ _. fits_view [] m [] Away (record { seen = ([], refl); fitting = fit; own = refl }, tt)) (λ j u there. absurd (nothing u there));
        names = λ n. most_one n m;
        authors = λ p x there. absurd (nothing x there);
        lenders = λ n j. nobody n j m refl;
        turn = inl record { word = refl; slot = (state, refl, opening_is, entries_are); all_away = members-snoc (λ _ u. IsAway u.turn) [] (newcomer o) (λ _. tt) (λ j u there. absurd (nothing u there)) };
      }

  -- the table at the end, where a seat keeps the turn for good
  pub closes_at : (s : S) (r : Rule s) (id : ℕ) (m : Known E) (k : List (Known E)) → get_elem? s.views id ≡ some (pass m k Shut) → HoldsState opening entries o m.seen s.homes
  closes_at s r id m k at =
      let h = holds_turn opening entries o (history r.log) r.turn_word s.homes s.views id (pass m k Shut) r.turn at (λ a. a) in
      let slot = h.1.1 in (slot.0, slot.1, slot.2, slot.3 ∙ sym h.1.0)
