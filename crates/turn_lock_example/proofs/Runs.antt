-- Which numbers a run has drawn.
use Rattle.std.proofs.Common.{◌≡◌, ◌⊎◌, ℕ, zero, suc, ◌+◌, ◌<◌, ◌≤◌, Bool, true, false, cond, eqb, List, [], ◌∷◌, ◌++◌, length, sym, refl, ap, ◌∙◌, subst, inl, inr, ⊎_elim, arith, Option, Some, None, slice_get, nat_lt}
use Rattle.std.proofs.lemmas.Bool.{eq-eqb}
use Rattle.std.proofs.lemmas.Bool.Decides.{nat_tests}
use mathlib.Core.List.{IsPrefix}
use Rattle.turn_lock.specs.declared.view.Placed.{Placed}
use Rattle.turn_lock.specs.History.{Stands, Opened, MayAdd, IsPartFrom, placed}
use Rattle.turn_lock.proofs.Own.{stands_end, stands-snoc, part_at}
use Rattle.turn_lock_example.specs.declared.tally.Mark.{Mark}
use Rattle.turn_lock_example.specs.declared.tally.Mark.TheVariants.{Drawn, Back}
use Rattle.turn_lock_example.specs.Marks.{run, opened_by, used_by, IsUnused}

-- a choice that gives something took its first branch
chosen : (b : Bool) (r : Option ℕ) (k : ℕ) → cond b r None ≡ Some k → (b ≡ true) × (r ≡ Some k)
chosen true r k h = (refl, h)
chosen false r k h = absurd cc

same_number : (m n : ℕ) → eqb m n ≡ true → m ≡ n
same_number m n h = grind (arith, nat_tests)

less_number : (m n : ℕ) → nat_lt m n ≡ true → m < n
less_number m n h = grind (arith, nat_tests)

number_less : (m n : ℕ) → m < n → nat_lt m n ≡ true
number_less m n h = grind (arith, nat_tests)

run_rises : (n k : ℕ) (marks : List Mark) → run n marks ≡ Some k → n ≤ k
run_rises n k [] h = let e : n ≡ k = cc in omega arith
run_rises n k (Drawn m ∷ marks) h = let c = chosen (eqb m n) (run (n + 1) marks) k h in let r = run_rises (n + 1) k marks c.1 in omega arith
run_rises n k (Back m ∷ marks) h = let c = chosen (nat_lt m n) (run n marks) k h in run_rises n k marks c.1

pass_through : (b : Bool) (r r' : Option ℕ) (k j : ℕ) → cond b r None ≡ Some k → (r ≡ Some k → r' ≡ Some j) → cond b r' None ≡ Some j
pass_through true r r' k j h f = f h
pass_through false r r' k j h f = absurd cc

drawn_at_once : (n : ℕ) → run n (Drawn n ∷ []) ≡ Some (n + 1)
drawn_at_once n = ap (λ (b : Bool). cond b (Some (n + 1)) None) (eq-eqb n n refl)

back_at_once : (m n : ℕ) → m < n → run n (Back m ∷ []) ≡ Some n
back_at_once m n lt = ap (λ (b : Bool). cond b (Some n) None) (number_less m n lt)

-- the next number was drawn
pub run_drawn : (n k : ℕ) (marks : List Mark) → run n marks ≡ Some k → run n (marks ++ Drawn k ∷ []) ≡ Some (k + 1)
run_drawn n k [] h = let e : n ≡ k = cc in subst (λ (x : ℕ). run n (Drawn x ∷ []) ≡ Some (x + 1)) e (drawn_at_once n)
run_drawn n k (Drawn m ∷ marks) h = pass_through (eqb m n) (run (n + 1) marks) (run (n + 1) (marks ++ Drawn k ∷ [])) k (k + 1) h (λ r. run_drawn (n + 1) k marks r)
run_drawn n k (Back m ∷ marks) h = pass_through (nat_lt m n) (run n marks) (run n (marks ++ Drawn k ∷ [])) k (k + 1) h (λ r. run_drawn n k marks r)

-- a number that was drawn is given back
pub run_back : (n k m : ℕ) (marks : List Mark) → run n marks ≡ Some k → m < k → run n (marks ++ Back m ∷ []) ≡ Some k
run_back n k m [] h lt = let e : n ≡ k = cc in subst (λ (x : ℕ). run n (Back m ∷ []) ≡ Some x) e (back_at_once m n (omega arith))
run_back n k m (Drawn d ∷ marks) h lt = pass_through (eqb d n) (run (n + 1) marks) (run (n + 1) (marks ++ Back m ∷ [])) k k h (λ r. run_back (n + 1) k m marks r lt)
run_back n k m (Back d ∷ marks) h lt = pass_through (nat_lt d n) (run n marks) (run n (marks ++ Back m ∷ [])) k k h (λ r. run_back n k m marks r lt)

pub run_kept : (b : Bool) (k m : ℕ) (marks : List Mark) → run 0 marks ≡ Some k → m < k → run 0 (cond b (marks ++ Back m ∷ []) marks) ≡ Some k
run_kept true k m marks h lt = run_back 0 k m marks h lt
run_kept false k m marks h lt = h

abbrev pub Names : Mark → ℕ → Type 0
Names (Drawn n) m = n ≡ m
Names (Back n) m = n ≡ m

pub opened_names : (e : Mark) (m : ℕ) → opened_by e ≡ Some m → Names e m
opened_names (Drawn n) m h = cc
opened_names (Back n) m h = absurd cc

pub used_names : (e : Mark) (m : ℕ) → used_by e ≡ Some m → Names e m
used_names (Drawn n) m h = absurd cc
used_names (Back n) m h = cc

-- each number that a run names is below the next one
pub below : (n k : ℕ) (marks : List Mark) (p : ℕ) (e : Mark) (m : ℕ) → run n marks ≡ Some k → slice_get marks p ≡ Some e → Names e m → m < k
below n k [] p e m h at names = absurd cc
below n k (Drawn d ∷ marks) zero e m h at names =
    let c = chosen (eqb d n) (run (n + 1) marks) k h in let s = same_number d n c.0 in let r = run_rises (n + 1) k marks c.1 in
    let q : Drawn d ≡ e = cc in let same : d ≡ m = subst (λ x. Names x m) (sym q) names in omega arith
below n k (Back d ∷ marks) zero e m h at names =
    let c = chosen (nat_lt d n) (run n marks) k h in let s = less_number d n c.0 in let r = run_rises n k marks c.1 in
    let q : Back d ≡ e = cc in let same : d ≡ m = subst (λ x. Names x m) (sym q) names in omega arith
below n k (Drawn d ∷ marks) (suc p) e m h at names = let c = chosen (eqb d n) (run (n + 1) marks) k h in below (n + 1) k marks p e m c.1 at names
below n k (Back d ∷ marks) (suc p) e m h at names = let c = chosen (nat_lt d n) (run n marks) k h in below n k marks p e m c.1 at names

module _ (seen : List Mark) (own : List (Placed Mark)) where
  -- the next number may be drawn
  pub may_draw : (n k : ℕ) → run 0 seen ≡ Some k → n ≡ k → MayAdd opened_by used_by seen own (Drawn n)
  may_draw n k h e =
      (λ m p old opens at opens_old. let lt = below 0 k seen p old m h at (opened_names old m opens_old) in let same : n ≡ m = cc in omega arith, λ m used. absurd cc)

  -- a number that was drawn with the pass and not given back may be given back
  pub may_give : (n : ℕ) → Opened opened_by used_by own n → IsUnused own n → MayAdd opened_by used_by seen own (Back n)
  may_give n opened unused =
      (λ m p old opens. absurd cc, λ m used. let same : n ≡ m = cc in subst (λ (i : ℕ). Opened opened_by used_by own i × IsUnused own i) same (opened, unused))

-- each number of an own list is below the next one
pub own_below : (seen : List Mark) (own : List (Placed Mark)) (x : Placed Mark) (m k : ℕ) → IsPartFrom 0 seen own → run 0 seen ≡ Some k → Stands x own → Names x.entry m → m < k
own_below seen own x m k part h there names = below 0 k seen x.place x.entry m h (part_at 0 seen own x part there) names

-- the number that was drawn stands in the own list, unused
pub drawn_here : (seen : List Mark) (own : List (Placed Mark)) (n k p : ℕ) → IsPartFrom 0 seen own → run 0 seen ≡ Some k → n ≡ k → Opened opened_by used_by (own ++ placed p (Drawn n) ∷ []) n × IsUnused (own ++ placed p (Drawn n) ∷ []) n
drawn_here seen own n k p part h e = (
  (placed p (Drawn n), stands_end own (placed p (Drawn n)), refl),
  (λ x there used. ⊎_elim (λ (old : Stands x own). let lt = own_below seen own x n k part h old (used_names x.entry n used) in omega arith)
      (λ (new : x ≡ placed p (Drawn n)). let none : used_by (Drawn n) ≡ Some n = subst (λ (z : Placed Mark). used_by z.entry ≡ Some n) new used in absurd cc) (stands-snoc own (placed p (Drawn n)) x there)),
)

pub opened_below : (seen : List Mark) (own : List (Placed Mark)) (n k : ℕ) → IsPartFrom 0 seen own → run 0 seen ≡ Some k → Opened opened_by used_by own n → n < k
opened_below seen own n k part h opened = own_below seen own opened.0 n k part h opened.1 (opened_names opened.0.entry n opened.2)

pub drawn_still : (own own' : List (Placed Mark)) (n : ℕ) → own' ≡ own → Opened opened_by used_by own n × IsUnused own n → Opened opened_by used_by own' n × IsUnused own' n
drawn_still own own' n e h = subst (λ (l : List (Placed Mark)). Opened opened_by used_by l n × IsUnused l n) (sym e) h
