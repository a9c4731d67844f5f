-- Where the job of session 0 was run alone and then with all others as one run, its block comes first.
use Rattle.std.proofs.Common.{◌≡◌, ◌∙◌, ℕ, zero, suc, ◌<◌, List, [], ◌∷◌, ◌++◌, drop, length, slice_get, Some, Contains, refl, sym, ap, subst, inl, inr, arith}
use Rattle.std.specs.List.{AllByRecursion}
use Rattle.ql_types.specs.declared.Place.{Place}
use Rattle.ledger_model.specs.declared.block.Block.{Block}
use Rattle.ledger_model.specs.declared.outcome.Outcome.TheVariants.{Committed}
use Rattle.ledger_model.specs.declared.outcome.PlacedOutcome.{PlacedOutcome}
use Rattle.ledger_model.specs.Script.{Placed}
use Rattle.turn_lock.specs.History.{Stands}
use Rattle.laws_history.specs.Records.{RunRecord, InSessionOrder, IsOfSomeJob}
use Rattle.laws_history.specs.Claims.{EachHolds, Fits, Holds}
use Rattle.laws_history.proofs.Fitting.{contains_stands}
use Rattle.laws_history.proofs.Lists.{stands_all}
use Rattle.laws_history.proofs.Made.{blocks_are_told}
use Rattle.cli_model.specs.Making.{ComesFirst}

-- ---- lists

each_at : {A : Type 0} (P : A → Type 0) (xs : List A) → ((i : ℕ) (x : A) → slice_get xs i ≡ Some x → P x) → AllByRecursion P xs
each_at P [] f = tt
each_at P (x ∷ xs) f = (f 0 x refl, each_at P xs (λ i y there. f (suc i) y there))

-- ---- the run of one job

-- it makes one block at the most
one_block : (p : Placed) (bs : List Block) (k : ℕ) (b : Block) → AllByRecursion (IsOfSomeJob (p ∷ [])) bs → InSessionOrder bs
    → slice_get bs k ≡ Some b → k ≡ 0
one_block p [] k b of_jobs once there = let bad : ⊥ = cc there in absurd bad
one_block p (x ∷ bs) zero b of_jobs once there = refl
one_block p (x ∷ []) (suc k) b of_jobs once there = let bad : ⊥ = cc there in absurd bad
one_block p (x ∷ y ∷ bs) (suc k) b of_jobs once there =
    let first = place_is x of_jobs.0 in
    let second = place_is y of_jobs.1.0 in
    let less = once.0.0 (ap (λ (q : Place). q.session) (first ∙ sym second)) in
    let same : x.info.place.transaction ≡ y.info.place.transaction = ap (λ (q : Place). q.transaction) (first ∙ sym second) in
    absurd (omega (arith, less, same))
  where
    place_is : (c : Block) → IsOfSomeJob (p ∷ []) c → c.info.place ≡ p.place
    place_is c h = h.of_job.place ∙ ap (λ (q : Placed). q.place) (by (contains_stands (p ∷ []) h.placed h.among))
      where
        by : Stands h.placed (p ∷ []) → h.placed ≡ p
        by (inl same) = same
        by (inr bad) = absurd bad

-- ---- the run of all

-- an outcome is that of a job
place_of : (t : RunRecord) (done : List PlacedOutcome) (ps : List Placed) (os : List PlacedOutcome) (x : PlacedOutcome)
    → EachHolds t done ps os → Stands x os → (p : Placed) × Stands p ps × (x.place ≡ p.place)
place_of t done [] [] x h among = absurd among
place_of t done [] (o ∷ os) x h among = absurd h
place_of t done (p ∷ ps) [] x h among = absurd among
place_of t done (p ∷ ps) (o ∷ os) x h (inl same) = (p, inl refl, ap (λ (y : PlacedOutcome). y.place) same ∙ h.0)
place_of t done (p ∷ ps) (o ∷ os) x h (inr among) =
    let r = place_of t (done ++ o ∷ []) ps os x h.3 among in (r.0, inr r.1, r.2)

module _ (t alone : RunRecord) (p : Placed) (jobs : List Placed) (o : PlacedOutcome) (os : List PlacedOutcome) (none : t.before ≡ [])
    (jobs_are : t.jobs ≡ p ∷ jobs) (outcomes_are : t.outcomes ≡ o ∷ os)
    (behind : AllByRecursion (λ (q : Placed). 0 < q.place.session) jobs) (fits : Fits t) (before_none : alone.before ≡ [])
    (job_is : alone.jobs ≡ p ∷ []) (outcome_is : alone.outcomes ≡ o ∷ []) (alone_fits : Fits alone) where
  all_hold : EachHolds t [] (p ∷ jobs) (o ∷ os)
  all_hold =
      subst (λ (ps : List Placed). EachHolds t [] ps (o ∷ os)) jobs_are
      (subst (λ (xs : List PlacedOutcome). EachHolds t [] t.jobs xs) outcomes_are fits.outcomes)

  first_holds : Holds alone p o.outcome
  first_holds =
      (subst (λ (ps : List Placed). EachHolds alone [] ps (o ∷ [])) job_is
      (subst (λ (xs : List PlacedOutcome). EachHolds alone [] alone.jobs xs) outcome_is alone_fits.outcomes)).1

  -- an outcome of session 0 is that of the first job
  is_first : (x : PlacedOutcome) → Stands x (o ∷ os) → x.place.session ≡ 0 → x ≡ o
  is_first x (inl same) zeroth = same
  is_first x (inr among) zeroth =
      let r = place_of t (o ∷ []) jobs os x all_hold.3 among in
      let some = stands_all (λ (q : Placed). 0 < q.place.session) r.0 jobs behind r.1 in
      let none : r.0.place.session ≡ 0 = ap (λ (q : Place). q.session) (sym r.2) ∙ zeroth in
      absurd (omega (arith, some, none))

  -- whose block is the first one
  committed_first : (x : PlacedOutcome) (k : ℕ) (b : Block) → x ≡ o
      → x.outcome ≡ Committed b.header.tx k → k ≡ 0
  committed_first x k b same is =
      let holds = subst (Holds alone p) (ap (λ (y : PlacedOutcome). y.outcome) (sym same) ∙ is) first_holds in
      let whole : (n : ℕ) → n ≡ 0 → drop n alone.after ≡ alone.after = λ n e. ap (λ m. drop m alone.after) e in
      let all = whole (length alone.before) (ap length before_none) in
      one_block p alone.after k holds.sealed
      (subst (λ (ps : List Placed). AllByRecursion (IsOfSomeJob ps) alone.after) job_is
      (subst (λ (bs : List Block). AllByRecursion (IsOfSomeJob alone.jobs) bs) all alone_fits.blocks.of_jobs))
      (subst InSessionOrder all alone_fits.blocks.once) holds.there

  abbrev told_as : Block → ℕ → PlacedOutcome
  told_as b k = record { place = b.info.place; outcome = Committed b.header.tx k }

  is_told : (k : ℕ) (b : Block) → slice_get t.after (suc k) ≡ Some b → Stands (told_as b (suc k)) (o ∷ os)
  is_told k b there =
      let low : length t.before ≡ 0 = ap length none in
      let told = blocks_are_told t (suc k) b fits (omega (arith, low)) there in
      contains_stands (o ∷ os) (told_as b (suc k))
      (subst (λ (xs : List PlacedOutcome). Contains xs (told_as b (suc k))) outcomes_are told)

  some_session : (k : ℕ) (b : Block) → Stands (told_as b (suc k)) (o ∷ os) → (n : ℕ) → b.info.place.session ≡ n
      → 0 < b.info.place.session
  some_session k b among zero is =
      let bad : suc k ≡ 0 =
      committed_first (told_as b (suc k)) (suc k) b (is_first (told_as b (suc k)) among is) refl in
      absurd (omega (arith, bad))
  some_session k b among (suc n) is = omega (arith, is)

  no_later : (k : ℕ) (b : Block) → slice_get t.after (suc k) ≡ Some b → 0 < b.info.place.session
  no_later k b there = some_session k b (is_told k b there) b.info.place.session refl

  pub comes_first : ComesFirst t.after
  comes_first = by t.after refl
    where
      by : (bs : List Block) → t.after ≡ bs → ComesFirst bs
      by [] is = tt
      by (b ∷ bs) is =
          each_at _ bs (λ i c there. no_later i c (subst (λ (xs : List Block). slice_get xs (suc i) ≡ Some c) (sym is) there))
