-- Who made each entry of a run, and how many numbers were drawn.
use Rattle.std.proofs.Common.{◌≡◌, ℕ, zero, suc, ◌+◌, ◌-◌, ◌<◌, ◌≤◌, List, [], ◌∷◌, ◌++◌, map, length, length-append, slice_get, Some, sym, refl, ap, ◌∙◌, subst, inl, inr, ⊎_elim, arith, mod-lt}
use Rattle.std.proofs.lemmas.Bool.{cases_lt}
use mathlib.Core.List.{IsPrefix}
use native.Mathlib.Bridge.{le_prop}
use Rattle.turn_lock.specs.declared.view.Known.{Known}
use Rattle.turn_lock.specs.declared.view.Placed as own
use Rattle.turn_lock.specs.History.{Stands, placed}
use Rattle.laws_history.specs.Records.{RunRecord, attempts, greatest}
use Rattle.laws_machine.specs.Entries.{Entry, Opening, reach_at}
use Rattle.laws_history.specs.Seen.{reach}
use Rattle.laws_history.specs.Runs.{IsRunBy, Served, dealt, is_dealt, opening_of}
use Rattle.laws_history.proofs.Lists.{many_stand, seen_in, stands_all, stands_filter, stands_front, stands_map, stands_rest}
use Rattle.laws_history.proofs.Reaches.{IsToldIn, begun_by, lasts_on, number_drawn}
use Rattle.laws_history.proofs.Makes.{IsEntryOf, drawn}
use Rattle.laws_history.proofs.Tells.{spare}
use Rattle.laws_history.proofs.Links.{IsLink, Link, Timeline, all_may_draw, all_new, few_drawn, few_tries, new_stands, timeline}
use Rattle.laws_history.proofs.Dealt.{all_below, drawn_below, draws_less, rest_of, stands_dealt}

-- the number stands where its entry stands
pub drawn_stands : (n : ℕ) (y : own.Placed Entry) (ys : List (own.Placed Entry)) → Stands y ys
    → Stands n (begun_by y.entry)
    → Stands n (drawn ys)
drawn_stands n y [] h k = absurd h
drawn_stands n y (z ∷ ys) (inl e) k =
    stands_front n (begun_by z.entry) (drawn ys) (subst (λ (x : own.Placed Entry). Stands n (begun_by x.entry)) e k)
drawn_stands n y (z ∷ ys) (inr h) k = stands_rest n (begun_by z.entry) (drawn ys) (drawn_stands n y ys h k)

-- what stands in a mapped list comes of one that stands in the list
pub stands_mapped : {A B : Type 0} (f : A → B) (y : B) (xs : List A) → Stands y (map f xs)
    → (x : A) × Stands x xs × (f x ≡ y)
stands_mapped f y [] h = absurd h
stands_mapped f y (x ∷ xs) (inl e) = (x, inl refl, sym e)
stands_mapped f y (x ∷ xs) (inr h) = let r = stands_mapped f y xs h in (r.0, inr r.1, r.2)

module _ (t : RunRecord) (ss : List Served) (es : List Entry) (pass_of : ℕ → Known Entry)
    (r : IsRunBy t ss es pass_of) where
  abbrev o : Opening
  o = opening_of t

  pub line : (rest : ℕ) (low : rest < t.workers)
      → Timeline t es (dealt t.workers rest ss) (r.workers.worked rest low).start (pass_of rest)
  line rest low =
      timeline t es r.right r.after r.closed (dealt t.workers rest ss) (r.workers.worked rest low).start (pass_of rest)
      (r.workers.seen rest low) (r.workers.worked rest low).works

  pub own_new : (rest : ℕ) (low : rest < t.workers) → (pass_of rest).own ≡ all_new (line rest low).links
  own_new rest low =
      (line rest low).owns
      ∙ ap (λ (xs : List (own.Placed Entry)). xs ++ all_new (line rest low).links) (r.workers.worked rest low).owns_none

  -- ---- the job that made an entry

  pub record Owner (i : ℕ) (e : Entry) : Type 0 where
    pub rest : ℕ
    pub low : rest < t.workers
    pub link : Link
    pub among : Stands link (line rest low).links
    pub new : Stands (placed i e) link.new
    pub entry : IsEntryOf o link.served.placed link.served.outcome link.from link.until (placed i e)

  pub owner : (i : ℕ) (e : Entry) → slice_get es i ≡ Some e → Owner i e
  owner i e there =
      let k = r.workers.owned i e there in
      let ls : List Link = (line k.0 k.1).links in
      let of = new_stands (placed i e) ls
      (subst (λ (ys : List (own.Placed Entry)). Stands (placed i e) ys) (own_new k.0 k.1) k.2) in
      let is : IsLink t es of.0 = stands_all (IsLink t es) of.0 ls (line k.0 k.1).each of.1 in
      record {
        rest = k.0;
        low = k.1;
        link = of.0;
        among = of.1;
        new = of.2;
        entry = stands_all (IsEntryOf o (of.0).served.placed (of.0).served.outcome (of.0).from (of.0).until)
            (placed i e)
            (of.0).new is.entries of.2;
      }

  pub owner_at : (front : List Entry) (e : Entry) → IsPrefix (front ++ e ∷ []) es → Owner (length front) e
  owner_at front e p = owner (length front) e (seen_in front e es p)

  pub link_is : (rest : ℕ) (low : rest < t.workers) (l : Link) → Stands l (line rest low).links → IsLink t es l
  link_is rest low l h = stands_all (IsLink t es) l (line rest low).links (line rest low).each h

  pub link_dealt : (rest : ℕ) (low : rest < t.workers) (l : Link) → Stands l (line rest low).links
      → Stands l.served (dealt t.workers rest ss)
  link_dealt rest low l h =
      subst (λ (xs : List Served). Stands l.served xs) (line rest low).served
      (stands_map (λ (x : Link). x.served) l (line rest low).links h)

  pub link_served : (rest : ℕ) (low : rest < t.workers) (l : Link) → Stands l (line rest low).links → Stands l.served ss
  link_served rest low l h = stands_filter (is_dealt t.workers rest) l.served ss (link_dealt rest low l h)

  pub rest_low : (s : Served) → rest_of t.workers s < t.workers
  rest_low s = mod-lt s.placed.place.session r.some

  -- what is told of one job
  pub record Told (s : Served) : Type 0 where
    pub link : Link
    pub is : IsLink t es link
    pub served : link.served ≡ s

  pub told_job : (s : Served) → Stands s ss → Told s
  told_job s h =
      let rest : ℕ = rest_of t.workers s in
      let low : rest < t.workers = rest_low s in
      let found = stands_mapped (λ (x : Link). x.served) s (line rest low).links
      (subst (λ (xs : List Served). Stands s xs) (sym (line rest low).served) (stands_dealt t.workers s ss h)) in
      record { link = found.0; is = link_is rest low found.0 found.1; served = found.2 }

  -- the jobs of one worker, whichever way its number is known to be one
  pub same_line : (rest other : ℕ) (low : rest < t.workers) (less : other < t.workers) (l : Link) → other ≡ rest
      → Stands l (line other less).links → Stands l (line rest low).links
  same_line rest other low less l e h =
      subst (λ n. (k : n < t.workers) → Stands l (line n k).links) e
      (λ k. subst (λ (j : other < t.workers). Stands l (line other j).links) (le_prop less k) h) low

  -- ---- how many numbers were drawn

  -- by the workers of the rests below this one
  abbrev all_drawn : ℕ → List ℕ
  all_drawn zero = []
  all_drawn (suc n) = drawn (pass_of n).own ++ all_drawn n

  stands_below : (n m rest : ℕ) → rest < n → Stands m (drawn (pass_of rest).own) → Stands m (all_drawn n)
  stands_below zero m rest low h = absurd (omega (arith, low))
  stands_below (suc n) m rest low h =
      ⊎_elim
      (λ (less : rest < n). stands_rest m (drawn (pass_of n).own) (all_drawn n) (stands_below n m rest less h))
      (λ (most : n ≤ rest).
      let same : rest ≡ n = omega (arith, low, most) in
      stands_front m (drawn (pass_of n).own) (all_drawn n)
      (subst (λ k. Stands m (drawn (pass_of k).own)) same h))
      (cases_lt rest n)

  few_below : (n : ℕ) → n ≤ t.workers → length (all_drawn n) ≤ drawn_below t.workers n ss
  few_below zero low = omega arith
  few_below (suc n) low =
      let less : n < t.workers = low in
      let all : length (all_drawn (suc n)) ≡ length (drawn (pass_of n).own) + length (all_drawn n) =
      length-append (drawn (pass_of n).own) (all_drawn n) in
      let ls : List Link = (line n less).links in
      let own : length (drawn (pass_of n).own) ≡ length (drawn (all_new ls)) =
      ap (λ (ys : List (own.Placed Entry)). length (drawn ys)) (own_new n less) in
      let drew = few_drawn t es ls (line n less).each in
      let tried = few_tries t es ls (line n less).each in
      let jobs : all_may_draw (map (λ (l : Link). l.served) ls) ≡ all_may_draw (dealt t.workers n ss) =
      ap all_may_draw (line n less).served in
      let rest = few_below n (omega (arith, low)) in
      omega (arith, all, own, drew, tried, jobs, rest)

  number_stands : (n : ℕ) → (reach o []).last < n → n ≤ (reach o es).last → Stands n (all_drawn t.workers)
  number_stands n low high =
      let told : IsToldIn begun_by es n = number_drawn (reach_at o) es n r.right.run low high in
      let k = r.workers.owned told.place told.entry told.there in
      stands_below t.workers n k.0 k.1
      (drawn_stands n (placed told.place told.entry) (pass_of k.0).own k.2 told.tells)

  pub bound : (s : Served) → Stands s ss
      → (reach o es).last + spare s.outcome ≤ greatest t.mask t.before + attempts t.jobs
  bound s h =
      let later : greatest t.mask t.before ≤ (reach o es).last = lasts_on (reach_at o) [] es (es, refl) r.right.run in
      let many = many_stand ((reach o es).last - greatest t.mask t.before) (greatest t.mask t.before + 1)
      (all_drawn t.workers) (λ m low high. number_stands m (omega (arith, low)) (omega (arith, high, later))) in
      let few = few_below t.workers (omega arith) in
      let below = all_below t.workers t.workers ss in
      let less = draws_less s ss h in
      let jobs : attempts t.jobs ≡ attempts (map (λ (x : Served). x.placed) ss) = ap attempts r.jobs in
      omega (arith, later, many, few, below, less, jobs)
