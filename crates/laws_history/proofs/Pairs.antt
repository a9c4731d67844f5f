-- The claim of a run, read as what it says of each job and of each pair of jobs.
use Rattle.std.proofs.Common.{◌≡◌, ◌⊎◌, ℕ, zero, suc, ◌+◌, ◌<◌, false, List, [], ◌∷◌, ◌++◌, map, length, drop, slice_get, Some, sym, refl, ap, ◌∙◌, subst, inl, inr, arith}
use Rattle.std.specs.List.{AllByRecursion}
use Rattle.ql_types.specs.declared.Place.{Place}
use Rattle.ledger_model.specs.declared.block.Block.{Block}
use Rattle.ledger_model.specs.declared.outcome.Outcome.{Outcome}
use Rattle.ledger_model.specs.declared.outcome.Outcome.TheVariants.{Committed, Conflict, Refused, DigestDiffers, StoreFault, JournalFull, IdsSpent, Aborted, Denied, OutOfMemory}
use Rattle.ledger_model.specs.declared.outcome.PlacedOutcome.{PlacedOutcome}
use Rattle.ledger_model.specs.Script.{Placed}
use Rattle.turn_lock.specs.History.{Stands}
use Rattle.laws_validity.proofs.Lists.{all_front, all_like, all_rest}
use Rattle.laws_history.specs.Records.{RunRecord, Before, HasNoBlock, HaveOneWorker, InSessionOrder}
use Rattle.laws_history.specs.Claims.{AllBefore, EachHolds, Holds, RunsBefore}
use Rattle.laws_history.specs.Runs.{Served, told_of}
use Rattle.laws_history.proofs.Lists.{stands_all}
use Rattle.laws_history.proofs.Makes.{is_committed}

-- ---- lists by place

pub got : {A : Type 0} (P : A → Type 0) (xs : List A) (k : ℕ) (x : A) → AllByRecursion P xs → slice_get xs k ≡ Some x
    → P x
got P [] k x h e = let bad : ⊥ = cc e in absurd bad
got P (y ∷ xs) zero x h e = let same : y ≡ x = cc e in subst P same h.0
got P (y ∷ xs) (suc k) x h e = got P xs k x h.1 e

pub get_some : {A : Type 0} (xs : List A) (k : ℕ) → k < length xs → (x : A) × (slice_get xs k ≡ Some x)
get_some [] k low = absurd (omega (arith, low))
get_some (x ∷ xs) zero low = (x, refl)
get_some (x ∷ xs) (suc k) low = get_some xs k (omega (arith, low))

pub get_behind : {A : Type 0} (n : ℕ) (xs : List A) (k : ℕ) → slice_get (drop n xs) k ≡ slice_get xs (n + k)
get_behind zero xs k = let same : k ≡ 0 + k = omega arith in ap (slice_get xs) same
get_behind (suc n) [] k = refl
get_behind (suc n) (x ∷ xs) k =
    let same : suc (n + k) ≡ suc n + k = omega arith in get_behind n xs k ∙ ap (slice_get (x ∷ xs)) same

not_before : (x c : Block) → Before x.info.place c → x.info.place ≡ c.info.place → ⊥
not_before x c less same =
    let low : x.info.place.transaction < c.info.place.transaction = less (ap (λ (y : Place). y.session) same) in
    let one : x.info.place.transaction ≡ c.info.place.transaction = ap (λ (y : Place). y.transaction) same in
    omega (arith, low, one)

-- no two blocks are of one place
pub once_at : (xs : List Block) (i j : ℕ) (b c : Block) → InSessionOrder xs → slice_get xs i ≡ Some b
    → slice_get xs j ≡ Some c
    → b.info.place ≡ c.info.place → i ≡ j
once_at [] i j b c h e f same = let bad : ⊥ = cc e in absurd bad
once_at (x ∷ xs) zero zero b c h e f same = refl
once_at (x ∷ xs) zero (suc j) b c h e f same =
    let first : x ≡ b = cc e in
    absurd (not_before x c (got (Before x.info.place) xs j c h.0 f) (ap (λ (y : Block). y.info.place) first ∙ same))
once_at (x ∷ xs) (suc i) zero b c h e f same =
    let first : x ≡ c = cc f in
    absurd (not_before x b (got (Before x.info.place) xs i b h.0 e) (ap (λ (y : Block). y.info.place) first ∙ sym same))
once_at (x ∷ xs) (suc i) (suc j) b c h e f same = ap suc (once_at xs i j b c h.1 e f same)

-- ---- jobs with their outcomes

-- each of two served jobs with one worker is over before a later one begins
abbrev pub AreInOrder : RunRecord → List Served → Type 0
AreInOrder t [] = Unit {0}
AreInOrder t (s ∷ ss) =
    AllByRecursion
    (λ (r : Served). HaveOneWorker t.workers s.placed.place.session r.placed.place.session
    → RunsBefore t s.outcome r.placed r.outcome) ss
    × AreInOrder t ss

pub record AreServed (t : RunRecord) (done : List PlacedOutcome) (ps : List Placed)
    (os : List PlacedOutcome) : Type 0 where
  pub all : List Served
  pub jobs : map (λ (s : Served). s.placed) all ≡ ps
  pub outcomes : map told_of all ≡ os
  pub hold : AllByRecursion (λ (s : Served). Holds t s.placed s.outcome) all
  pub behind : AllByRecursion (λ (s : Served). AllBefore t done s.placed s.outcome) all
  pub in_order : AreInOrder t all

one_served : (t : RunRecord) (done : List PlacedOutcome) (p : Placed) (ps : List Placed) (o : PlacedOutcome)
    (os : List PlacedOutcome) → o.place ≡ p.place → Holds t p o.outcome → AllBefore t done p o.outcome
    → AreServed t (done ++ o ∷ []) ps os → AreServed t done (p ∷ ps) (o ∷ os)
one_served t done p ps o os place h before rest =
    let s : Served = record { placed = p; outcome = o.outcome } in
    record {
      all = s ∷ rest.all;
      jobs = ap (λ (xs : List Placed). p ∷ xs) rest.jobs;
      outcomes = λ i. record { place = sym place i; outcome = o.outcome } ∷ rest.outcomes i;
      hold = (h, rest.hold);
      behind = (
        before,
        all_like (λ (r : Served). AllBefore t (done ++ o ∷ []) r.placed r.outcome)
            (λ (r : Served). AllBefore t done r.placed r.outcome)
            (λ r b. all_front
            (λ (d : PlacedOutcome). HaveOneWorker t.workers d.place.session r.placed.place.session
            → RunsBefore t d.outcome r.placed r.outcome) done (o ∷ []) b) rest.all rest.behind,
      );
      in_order = (
        all_like (λ (r : Served). AllBefore t (done ++ o ∷ []) r.placed r.outcome)
            (λ (r : Served). HaveOneWorker t.workers p.place.session r.placed.place.session
            → RunsBefore t o.outcome r.placed r.outcome)
            (λ r b same.
            (all_rest
            (λ (d : PlacedOutcome). HaveOneWorker t.workers d.place.session r.placed.place.session
            → RunsBefore t d.outcome r.placed r.outcome) done (o ∷ []) b).0
            (subst (λ (x : Place). HaveOneWorker t.workers x.session r.placed.place.session)
            (sym place) same)) rest.all rest.behind,
        rest.in_order,
      );
    }

pub all_served : (t : RunRecord) (done : List PlacedOutcome) (ps : List Placed) (os : List PlacedOutcome)
    → EachHolds t done ps os → AreServed t done ps os
all_served t done [] [] h = record { all = []; jobs = refl; outcomes = refl; hold = tt; behind = tt; in_order = tt }
all_served t done (p ∷ ps) (o ∷ os) h =
    one_served t done p ps o os h.0 h.1 h.2 (all_served t (done ++ o ∷ []) ps os h.3)
all_served t done [] (o ∷ os) h = absurd h
all_served t done (p ∷ ps) [] h = absurd h

-- of two of them they are one, or the one is over before the other begins
pub one_first : (t : RunRecord) (ss : List Served) (s r : Served) → AreInOrder t ss → Stands s ss → Stands r ss
    → HaveOneWorker t.workers s.placed.place.session r.placed.place.session
    → HaveOneWorker t.workers r.placed.place.session s.placed.place.session
    → (s ≡ r)
    ⊎ (RunsBefore t s.outcome r.placed r.outcome ⊎ RunsBefore t r.outcome s.placed s.outcome)
one_first t [] s r h a b one other = absurd a
one_first t (x ∷ ss) s r h (inl a) (inl b) one other = inl (a ∙ sym b)
one_first t (x ∷ ss) s r h (inl a) (inr b) one other =
    inr (inl (subst (λ (y : Served). RunsBefore t y.outcome r.placed r.outcome) (sym a)
    (stands_all
    (λ (y : Served). HaveOneWorker t.workers x.placed.place.session y.placed.place.session
    → RunsBefore t x.outcome y.placed y.outcome) r ss h.0 b
    (subst (λ (y : Served). HaveOneWorker t.workers y.placed.place.session r.placed.place.session) a one))))
one_first t (x ∷ ss) s r h (inr a) (inl b) one other =
    inr (inr (subst (λ (y : Served). RunsBefore t y.outcome s.placed s.outcome) (sym b)
    (stands_all
    (λ (y : Served). HaveOneWorker t.workers x.placed.place.session y.placed.place.session
    → RunsBefore t x.outcome y.placed y.outcome) s ss h.0 a
    (subst (λ (y : Served). HaveOneWorker t.workers y.placed.place.session s.placed.place.session) b other))))
one_first t (x ∷ ss) s r h (inr a) (inr b) one other = one_first t ss s r h.1 a b one other

-- a job that isn't committed has no block
pub no_block : (t : RunRecord) (p : Placed) (x : Outcome) → Holds t p x → is_committed x ≡ false → HasNoBlock t p
no_block t p (Committed tx block) h e = let bad : ⊥ = cc e in absurd bad
no_block t p (Conflict tx since named) h e = h.blockless
no_block t p (Refused tx since statement cause) h e = h.blockless
no_block t p (DigestDiffers tx since mine given) h e = h.blockless
no_block t p (StoreFault tx count) h e = (h.0).blockless
no_block t p (JournalFull tx blocks) h e = (h.0).blockless
no_block t p (IdsSpent last) h e = h.blockless
no_block t p (Aborted tx since) h e = h.blockless
no_block t p (Denied statement action table rule) h e = h.blockless
no_block t p OutOfMemory h e = h
