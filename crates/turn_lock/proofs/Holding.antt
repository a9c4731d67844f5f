-- Who holds the turn, and whose names there are.
use Rattle.std.proofs.Common.{◌≡◌, ◌≢◌, ◌⊎◌, ℕ, zero, suc, ◌+◌, ◌-◌, ◌<◌, ◌≤◌, List, [], ◌∷◌, ◌++◌, set, sym, refl, ap, ◌∙◌, subst, inl, inr, ⊎_elim, arith, Option, Some, None}
use mathlib.Core.Logic.{dite}
use mathlib.Core.Option.{some, none, some-injective}
use mathlib.Core.Option as maybe
use native.Mathlib.Decide.{ℕ_discrete}
use lib.ListN.{get_elem?}
use Rattle.atomic_table.specs.Table.{State}
use Rattle.atomic_table.proofs.Lists.{set_else, at_longer, at_snoc}
use Rattle.turn_lock.specs.declared.view.Known.{Known}
use Rattle.turn_lock.specs.declared.view.Turn.{Turn}
use Rattle.turn_lock.specs.declared.view.Turn.TheVariants.{Away, Got, Held, Shut}
use Rattle.turn_lock.specs.declared.view.View.{View}
use Rattle.turn_lock.specs.Rule.{Signed, weigh, is, lends, history, total, people, IsAway, IsWhole, Stays, NobodyHolds, OneHolds, IsKept, IsTold}
use Rattle.turn_lock.proofs.Lists.{members_set, members-snoc, set_at, by_end, weigh_at, weigh_set, weigh_sum, weigh-append}
use Rattle.turn_lock.proofs.Names.{lends_is}

module _ {T E O : Type 0} (opening : T → O) (entries : T → List E) (o : O) where
  abbrev pub Homes : Type 0
  Homes = List (maybe.Option (Option T))

  abbrev pub TurnOf : List E → ℕ → Homes → List (View E O) → Type 0
  TurnOf list number homes views = NobodyHolds opening entries o list number homes views ⊎ OneHolds opening entries o list number homes views

  abbrev pub OthersAway : ℕ → List (View E O) → Type 0
  OthersAway id views = (j : ℕ) (u : View E O) → j ≢ id → get_elem? views j ≡ some u → IsAway u.turn

  -- a seat that isn't away holds the turn
  pub holds_turn : (list : List E) (number : ℕ) (homes : Homes) (views : List (View E O)) (id : ℕ) (v : View E O) → TurnOf list number homes views → get_elem? views id ≡ some v
      → (IsAway v.turn → ⊥) → (number ≡ 1) × Stays opening entries o list v.me.seen v.turn homes × OthersAway id views
  holds_turn list number homes views id v turn at out =
      ⊎_elim (λ (n : NobodyHolds opening entries o list number homes views). absurd (out (n.all_away id v at)))
      (λ (h : OneHolds opening entries o list number homes views). dite (ℕ_discrete id h.seat)
      (λ e.
      let same : h.view ≡ v = some-injective h.view v (sym h.at ∙ (ap (get_elem? views) (sym e) ∙ at)) in
      (h.word, subst (λ (u : View E O). Stays opening entries o list u.me.seen u.turn homes) same h.stays, λ j u ne there. h.others_away j u (λ f. ne (f ∙ sym e)) there))
      (λ ne. absurd (out (h.others_away id v ne at)))) turn

  pub others_still : (id : ℕ) (views : List (View E O)) (w : View E O) → OthersAway id views → OthersAway id (set views id w)
  others_still id views w away j u ne at = away j u ne (sym (set_else views id j w ne) ∙ at)

  stays_out : (list seen : List E) (homes : Homes) (t : Turn E) → Stays opening entries o list seen t homes → IsAway t → ⊥
  stays_out list seen homes Away stays away = stays
  stays_out list seen homes (Got got) stays away = away
  stays_out list seen homes Held stays away = away
  stays_out list seen homes Shut stays away = away

  -- a seat that is away isn't the one that holds the turn
  apart : (list : List E) (number : ℕ) (homes : Homes) (views : List (View E O)) (id : ℕ) (v : View E O) (h : OneHolds opening entries o list number homes views)
      → get_elem? views id ≡ some v → IsAway v.turn → h.seat ≢ id
  apart list number homes views id v h at away e =
      let same : v ≡ h.view = some-injective v h.view (sym at ∙ (ap (get_elem? views) (sym e) ∙ h.at)) in
      stays_out list h.view.me.seen homes h.view.turn h.stays (subst (λ (u : View E O). IsAway u.turn) same away)

  -- a seat that is away may change, if it stays away
  pub turn_stays : (list : List E) (number : ℕ) (homes : Homes) (views : List (View E O)) (id : ℕ) (v w : View E O) → TurnOf list number homes views → get_elem? views id ≡ some v
      → IsAway v.turn → IsAway w.turn → TurnOf list number homes (set views id w)
  turn_stays list number homes views id v w turn at away still =
      ⊎_elim (λ (n : NobodyHolds opening entries o list number homes views). inl record {
        word = n.word;
        slot = n.slot;
        all_away = members_set (λ j u. IsAway u.turn) views id w still (λ j u ne there. n.all_away j u there);
      })
      (λ (h : OneHolds opening entries o list number homes views). inr record {
        seat = h.seat;
        view = h.view;
        at = set_else views id h.seat w (apart list number homes views id v h at away) ∙ h.at;
        word = h.word;
        stays = h.stays;
        others_away = λ j u ne there. members_set (λ j u. j ≢ h.seat → IsAway u.turn) views id w (λ _. still) (λ j u nj there ns. h.others_away j u ns there) j u there ne;
      }) turn

  -- a seat that is away may come in
  pub turn_grows : (list : List E) (number : ℕ) (homes : Homes) (views : List (View E O)) (w : View E O) → TurnOf list number homes views → IsAway w.turn → TurnOf list number homes (views ++ w ∷ [])
  turn_grows list number homes views w turn still =
      ⊎_elim (λ (n : NobodyHolds opening entries o list number homes views). inl record {
        word = n.word;
        slot = n.slot;
        all_away = members-snoc (λ j u. IsAway u.turn) views w (λ _. still) n.all_away;
      })
      (λ (h : OneHolds opening entries o list number homes views). inr record {
        seat = h.seat;
        view = h.view;
        at = at_longer views (w ∷ []) h.seat h.view h.at;
        word = h.word;
        stays = h.stays;
        others_away = λ j u ne there. members-snoc (λ j u. j ≢ h.seat → IsAway u.turn) views w (λ _ _. still) (λ j u there ns. h.others_away j u ns there) j u there ne;
      }) turn

module _ {E : Type 0} where
  -- of those with a name, who didn't split off its k-th pass
  pub others : List ℕ → ℕ → Known E → ℕ
  others n k x = is n x - lends n k x

  pub others_rest : (n : List ℕ) (k : ℕ) (x : Known E) → others n k x + lends n k x ≡ is n x
  unfolding others
  others_rest n k x = let h = lends_is n k x in omega arith

-- weights of all that the seats speak for
module _ {E O : Type 0} where
  pub total_set : (f : Known E → ℕ) (views : List (View E O)) (id : ℕ) (v w : View E O) → get_elem? views id ≡ some v
      → total f (set views id w) + weigh f (people v) ≡ total f views + weigh f (people w)
  total_set f views id v w at = weigh_set (λ (u : View E O). weigh f (people u)) views id v w at

  pub total_at : (f : Known E → ℕ) (views : List (View E O)) (id : ℕ) (v : View E O) → get_elem? views id ≡ some v → weigh f (people v) ≤ total f views
  total_at f views id v at = weigh_at (λ (u : View E O). weigh f (people u)) views id v at

  pub total-snoc : (f : Known E → ℕ) (views : List (View E O)) (w : View E O) → total f (views ++ w ∷ []) ≡ total f views + weigh f (people w)
  total-snoc f views w = let h = weigh-append (λ (u : View E O). weigh f (people u)) views (w ∷ []) in omega arith

  pub total_sum : (f g h : Known E → ℕ) → ((x : Known E) → f x + g x ≡ h x) → (views : List (View E O)) → total f views + total g views ≡ total h views
  total_sum f g h e views = weigh_sum (λ (u : View E O). weigh f (people u)) (λ (u : View E O). weigh g (people u)) (λ (u : View E O). weigh h (people u)) (λ u. weigh_sum f g h e (people u)) views

  -- where one seat speaks for who has a name, it speaks for who split off the name's k-th pass
  pub lender_here : (views : List (View E O)) (id : ℕ) (v : View E O) (n : List ℕ) (k : ℕ) → get_elem? views id ≡ some v → total (is n) views ≤ weigh (is n) (people v)
      → total (lends n k) views ≤ weigh (lends n k) (people v)
  lender_here views id v n k at all =
      let a = total_sum (others n k) (lends n k) (is n) (others_rest n k) views in
      let b = weigh_sum (others n k) (lends n k) (is n) (others_rest n k) (people v) in
      let c = total_at (others n k) views id v at in omega arith

  -- all with a name, less those that are there and didn't split off its k-th pass, bound those that did
  pub others_lend : (views : List (View E O)) (id : ℕ) (v : View E O) (n : List ℕ) (k : ℕ) → get_elem? views id ≡ some v
      → weigh (others n k) (people v) + total (lends n k) views ≤ total (is n) views
  others_lend views id v n k at =
      let a = total_sum (others n k) (lends n k) (is n) (others_rest n k) views in
      let c = total_at (others n k) views id v at in omega arith
