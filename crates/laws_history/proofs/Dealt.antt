-- How jobs are dealt to workers, and how many numbers all of them may draw.
use Rattle.std.proofs.Common.{◌≡◌, ◌⊎◌, ℕ, zero, suc, ◌+◌, ◌%◌, ◌≤◌, Bool, true, false, cond, List, [], ◌∷◌, map, sym, refl, ap, ◌∙◌, inl, inr, arith, eqb-true, eq-eqb, ne_eqb}
use Rattle.std.specs.List.{AllByRecursion, filter}
use Rattle.ledger_model.specs.declared.outcome.Outcome.{Outcome}
use Rattle.ledger_model.specs.declared.outcome.Outcome.TheVariants.{Committed, Conflict, Refused, DigestDiffers, StoreFault, JournalFull, IdsSpent, Aborted, Denied, OutOfMemory}
use Rattle.ledger_model.specs.Script.{Placed}
use Rattle.turn_lock.specs.History.{Stands}
use Rattle.laws_history.specs.Records.{attempts, InOrder, IsBehind}
use Rattle.laws_history.proofs.Places.{behind_differs}
use Rattle.laws_history.specs.Runs.{Served, dealt, is_dealt}
use Rattle.laws_history.proofs.Lists.{stands_all, stands_map}
use Rattle.laws_history.proofs.Links.{all_may_draw, may_draw}
use Rattle.laws_history.proofs.Tells.{draws, spare}

-- ---- one job

-- which worker runs it
abbrev pub rest_of : ℕ → Served → ℕ
rest_of workers s = s.placed.place.session % workers

rest_by : (workers rest : ℕ) (s r : Served) (ss : List Served) (b : Bool) → is_dealt workers rest r ≡ b
    → Stands s (cond b (r ∷ dealt workers rest ss) (dealt workers rest ss))
    → (Stands s (dealt workers rest ss) → rest_of workers s ≡ rest) → rest_of workers s ≡ rest
rest_by workers rest s r ss true e (inl same) f =
    ap (λ (x : Served). rest_of workers x) same ∙ eqb-true (rest_of workers r) rest e
rest_by workers rest s r ss true e (inr h) f = f h
rest_by workers rest s r ss false e h f = f h

pub dealt_rest : (workers rest : ℕ) (s : Served) (ss : List Served) → Stands s (dealt workers rest ss)
    → rest_of workers s ≡ rest
dealt_rest workers rest s [] h = absurd h
dealt_rest workers rest s (r ∷ ss) h =
    rest_by workers rest s r ss (is_dealt workers rest r) refl h (dealt_rest workers rest s ss)

kept_by : {A : Type 0} (test : A → Bool) (x y : A) (xs : List A) (b : Bool) → test y ≡ b → test x ≡ true
    → (x ≡ y) ⊎ Stands x xs
    → (Stands x xs → Stands x (filter test xs)) → Stands x (cond b (y ∷ filter test xs) (filter test xs))
kept_by test x y xs true e t (inl same) f = inl same
kept_by test x y xs true e t (inr h) f = inr (f h)
kept_by test x y xs false e t (inl same) f = let bad : ⊥ = cc (sym e ∙ ap test (sym same) ∙ t) in absurd bad
kept_by test x y xs false e t (inr h) f = f h

stands_kept : {A : Type 0} (test : A → Bool) (x : A) (xs : List A) → test x ≡ true → Stands x xs
    → Stands x (filter test xs)
stands_kept test x [] t h = absurd h
stands_kept test x (y ∷ xs) t h = kept_by test x y xs (test y) refl t h (stands_kept test x xs t)

pub own_dealt : (workers : ℕ) (s : Served) → is_dealt workers (rest_of workers s) s ≡ true
own_dealt workers s = eq-eqb (rest_of workers s) (rest_of workers s) refl

-- each job is dealt to its worker
pub stands_dealt : (workers : ℕ) (s : Served) (ss : List Served) → Stands s ss
    → Stands s (dealt workers (rest_of workers s) ss)
stands_dealt workers s ss h = stands_kept (is_dealt workers (rest_of workers s)) s ss (own_dealt workers s) h

-- no two jobs have one place
pub same_served : (ss : List Served) → InOrder (map (λ (s : Served). s.placed) ss) → (s r : Served) → Stands s ss
    → Stands r ss
    → s.placed.place ≡ r.placed.place → s ≡ r
same_served [] order s r h k e = absurd h
same_served (x ∷ ss) order s r (inl a) (inl b) e = a ∙ sym b
same_served (x ∷ ss) order s r (inl a) (inr k) e =
    absurd (behind_differs x.placed.place r.placed
    (stands_all (IsBehind x.placed.place) r.placed (map (λ (y : Served). y.placed) ss) order.0
    (stands_map (λ (y : Served). y.placed) r ss k)) (ap (λ (y : Served). y.placed.place) (sym a) ∙ e))
same_served (x ∷ ss) order s r (inr h) (inl b) e =
    absurd (behind_differs x.placed.place s.placed
    (stands_all (IsBehind x.placed.place) s.placed (map (λ (y : Served). y.placed) ss) order.0
    (stands_map (λ (y : Served). y.placed) s ss h)) (ap (λ (y : Served). y.placed.place) (sym b) ∙ sym e))
same_served (x ∷ ss) order s r (inr h) (inr k) e = same_served ss order.1 s r h k e

-- what holds of all holds of those that are dealt, and their order stays
behind_by : (P : Placed → Type 0) (s : Served) (kept : List Served) (b : Bool) → P s.placed
    → AllByRecursion P (map (λ (x : Served). x.placed) kept)
    → AllByRecursion P (map (λ (x : Served). x.placed) (cond b (s ∷ kept) kept))
behind_by P s kept true h k = (h, k)
behind_by P s kept false h k = k

all_dealt : (P : Placed → Type 0) (workers rest : ℕ) (ss : List Served)
    → AllByRecursion P (map (λ (x : Served). x.placed) ss)
    → AllByRecursion P (map (λ (x : Served). x.placed) (dealt workers rest ss))
all_dealt P workers rest [] h = tt
all_dealt P workers rest (s ∷ ss) h =
    behind_by P s (dealt workers rest ss) (is_dealt workers rest s) h.0 (all_dealt P workers rest ss h.1)

order_by : (s : Served) (kept : List Served) (b : Bool)
    → AllByRecursion (IsBehind s.placed.place) (map (λ (x : Served). x.placed) kept)
    → InOrder (map (λ (x : Served). x.placed) kept) → InOrder (map (λ (x : Served). x.placed) (cond b (s ∷ kept) kept))
order_by s kept true h k = (h, k)
order_by s kept false h k = k

pub dealt_in_order : (workers rest : ℕ) (ss : List Served) → InOrder (map (λ (s : Served). s.placed) ss)
    → InOrder (map (λ (s : Served). s.placed) (dealt workers rest ss))
dealt_in_order workers rest [] h = tt
dealt_in_order workers rest (s ∷ ss) h =
    order_by s (dealt workers rest ss) (is_dealt workers rest s)
    (all_dealt (IsBehind s.placed.place) workers rest ss h.0)
    (dealt_in_order workers rest ss h.1)

-- ---- how many numbers may be drawn

-- by the workers whose rests are below this one
abbrev pub drawn_below : ℕ → ℕ → List Served → ℕ
drawn_below workers zero ss = 0
drawn_below workers (suc n) ss = all_may_draw (dealt workers n ss) + drawn_below workers n ss

more_by : (workers n : ℕ) (s : Served) (ss : List Served) (b : Bool) → is_dealt workers n s ≡ b
    → all_may_draw (cond b (s ∷ dealt workers n ss) (dealt workers n ss))
    ≡ cond b (may_draw s + all_may_draw (dealt workers n ss)) (all_may_draw (dealt workers n ss))
more_by workers n s ss true e = refl
more_by workers n s ss false e = refl

-- a job isn't counted below its own worker
not_below : (workers n : ℕ) (s : Served) (ss : List Served) → n ≤ rest_of workers s
    → drawn_below workers n (s ∷ ss) ≡ drawn_below workers n ss
not_below workers zero s ss low = refl
not_below workers (suc n) s ss low =
    let other : is_dealt workers n s ≡ false = ne_eqb (rest_of workers s) n (λ e. omega (arith, e, low)) in
    let here : all_may_draw (dealt workers n (s ∷ ss)) ≡ all_may_draw (dealt workers n ss) =
    ap (λ (b : Bool). all_may_draw (cond b (s ∷ dealt workers n ss) (dealt workers n ss))) other in
    let rest = not_below workers n s ss (omega (arith, low)) in
    omega (arith, here, rest)

counted_by : (workers n : ℕ) (s : Served) (ss : List Served) (b : Bool) → is_dealt workers n s ≡ b
    → drawn_below workers n (s ∷ ss) ≤ may_draw s + drawn_below workers n ss
    → all_may_draw (cond b (s ∷ dealt workers n ss) (dealt workers n ss)) + drawn_below workers n (s ∷ ss)
    ≤ may_draw s + (all_may_draw (dealt workers n ss) + drawn_below workers n ss)
counted_by workers n s ss true e low =
    let own : rest_of workers s ≡ n = eqb-true (rest_of workers s) n e in
    let none = not_below workers n s ss (omega (arith, own)) in
    omega (arith, none)
counted_by workers n s ss false e low = omega (arith, low)

counted_once : (workers n : ℕ) (s : Served) (ss : List Served)
    → drawn_below workers n (s ∷ ss) ≤ may_draw s + drawn_below workers n ss
counted_once workers zero s ss = omega arith
counted_once workers (suc n) s ss =
    counted_by workers n s ss (is_dealt workers n s) refl (counted_once workers n s ss)

none_below : (workers n : ℕ) → drawn_below workers n [] ≡ 0
none_below workers zero = refl
none_below workers (suc n) = let rest = none_below workers n in omega (arith, rest)

pub all_below : (workers n : ℕ) (ss : List Served) → drawn_below workers n ss ≤ all_may_draw ss
all_below workers n [] = let none = none_below workers n in omega (arith, none)
all_below workers n (s ∷ ss) =
    let one = counted_once workers n s ss in let rest = all_below workers n ss in omega (arith, one, rest)

one_more : (x : Outcome) → draws x + spare x ≡ 1
one_more (Committed tx block) = refl
one_more (Conflict tx since named) = refl
one_more (Refused tx since statement cause) = refl
one_more (DigestDiffers tx since mine given) = refl
one_more (StoreFault tx count) = refl
one_more (JournalFull tx blocks) = refl
one_more (IdsSpent last) = refl
one_more (Aborted tx since) = refl
one_more (Denied statement action table rule) = refl
one_more OutOfMemory = refl

pub draws_most : (ss : List Served) → all_may_draw ss ≤ attempts (map (λ (s : Served). s.placed) ss)
draws_most [] = omega arith
draws_most (s ∷ ss) = omega (arith, draws_most ss, one_more s.outcome)

-- and one less where an outcome says so
pub draws_less : (s : Served) (ss : List Served) → Stands s ss
    → all_may_draw ss + spare s.outcome ≤ attempts (map (λ (r : Served). r.placed) ss)
draws_less s [] h = absurd h
draws_less s (r ∷ ss) (inl e) =
    let same : spare s.outcome ≡ spare r.outcome = ap (λ (x : Served). spare x.outcome) e in
    omega (arith, draws_most ss, one_more r.outcome, same)
draws_less s (r ∷ ss) (inr h) = omega (arith, draws_less s ss h, one_more r.outcome)
