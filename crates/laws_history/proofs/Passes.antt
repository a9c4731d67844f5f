-- The passes of a run's workers, by the rests of their sessions.
use Rattle.std.proofs.Common.{◌≡◌, ℕ, zero, suc, ◌+◌, ◌-◌, ◌%◌, ◌<◌, ◌≤◌, List, [], ◌∷◌, slice_get, slice_index_or, Some, sym, refl, ap, ◌∙◌, subst, ⊎_elim, arith, mod-eq_of_lt, mod-lt}
use Rattle.std.proofs.Math.Nat.{mod_self}
use Rattle.std.proofs.lemmas.Bool.{cases_lt}
use Rattle.std.proofs.lemmas.Option.{slice_get_within}
use mathlib.Core.List.{IsPrefix}
use Rattle.turn_lock.specs.declared.view.Known.{Known}
use Rattle.turn_lock.specs.History.{Stands, newborn, placed}
use Rattle.laws_machine.specs.Entries.{Entry, Opening}
use Rattle.laws_history.specs.Passes.{ArePasses, PassesWork, pass_in, place_of}
use Rattle.laws_history.specs.Runs.{HasWorked, Served}
use Rattle.laws_history.proofs.Pairs.{get_some, got}

get_or : {A : Type 0} (xs : List A) (i : ℕ) (x d : A) → slice_get xs i ≡ Some x → slice_index_or xs i d ≡ x
get_or [] i x d e = let bad : ⊥ = cc e in absurd bad
get_or (y ∷ xs) zero x d e = cc e
get_or (y ∷ xs) (suc i) x d e = get_or xs i x d e

-- ---- the rests of the workers

place_low : (workers rest : ℕ) → rest < workers → place_of workers rest < workers
place_low workers zero low = omega (arith, low)
place_low workers (suc n) low = omega (arith, low)

-- the worker at the rest's place has this rest
rest_again : (workers rest : ℕ) → rest < workers → (place_of workers rest + 1) % workers ≡ rest
rest_again workers zero low =
    let all : workers - 1 + 1 ≡ workers = omega (arith, low) in ap (λ n. n % workers) all ∙ mod_self workers
rest_again workers (suc n) low =
    let next : n + 1 ≡ suc n = omega arith in ap (λ m. m % workers) next ∙ mod-eq_of_lt low

-- and its rest has this place
place_again : (workers i : ℕ) → i < workers → place_of workers ((i + 1) % workers) ≡ i
place_again workers i low =
    ⊎_elim
    (λ (less : i + 1 < workers).
    let next : i + 1 ≡ suc i = omega arith in
    ap (place_of workers) (mod-eq_of_lt less ∙ next))
    (λ (most : workers ≤ i + 1).
    let all : i + 1 ≡ workers = omega (arith, low, most) in
    let one : workers - 1 ≡ i = omega (arith, all) in
    ap (place_of workers) (ap (λ n. n % workers) all ∙ mod_self workers) ∙ one)
    (cases_lt (i + 1) workers)

module _ (o : Opening) (workers : ℕ) (ss : List Served) (entries : List Entry) (passes : List (Known Entry))
    (some : 0 < workers) (r : ArePasses o workers ss entries passes) where
  pass_at : (i : ℕ) (k : Known Entry) → slice_get passes i ≡ Some k → (rest : ℕ) → place_of workers rest ≡ i
      → pass_in passes rest ≡ k
  pass_at i k there rest e =
      ap (λ n. slice_index_or passes (place_of n rest) newborn) r.as_many
      ∙ ap (λ n. slice_index_or passes n newborn) e ∙ get_or passes i k newborn there

  found : (rest : ℕ) → rest < workers → (k : Known Entry) × (slice_get passes (place_of workers rest) ≡ Some k)
  found rest low = get_some passes (place_of workers rest)
      (let less = place_low workers rest low in omega (arith, less, r.as_many))

  works : (rest : ℕ) → rest < workers → HasWorked o workers rest ss (pass_in passes rest)
  works rest low =
      let k = found rest low in
      subst (λ (p : Known Entry). HasWorked o workers rest ss p)
      (sym (pass_at (place_of workers rest) k.0 k.1 rest refl))
      (subst (λ n. HasWorked o workers n ss k.0) (rest_again workers rest low)
      (r.worked (place_of workers rest) k.0 k.1))

  sees : (rest : ℕ) → rest < workers → IsPrefix (pass_in passes rest).seen entries
  sees rest low =
      let k = found rest low in
      subst (λ (p : Known Entry). IsPrefix p.seen entries) (sym (pass_at (place_of workers rest) k.0 k.1 rest refl))
      (got (λ (p : Known Entry). IsPrefix p.seen entries) passes (place_of workers rest) k.0 r.seen k.1)

  owns : (i : ℕ) (e : Entry) → slice_get entries i ≡ Some e
      → (rest : ℕ) × (rest < workers) × Stands (placed i e) (pass_in passes rest).own
  owns i e there =
      let w = r.owned i e there in
      let less : w.0 < workers = let low = slice_get_within passes w.0 w.1 w.2 in omega (arith, low, r.as_many) in (
        (w.0 + 1) % workers,
        mod-lt (w.0 + 1) some,
        subst (λ (p : Known Entry). Stands (placed i e) p.own)
            (sym (pass_at w.0 w.1 w.2 ((w.0 + 1) % workers) (place_again workers w.0 less))) w.3,
      )

pub passes_work : PassesWork
passes_work o workers ss entries passes some r = record {
  worked = works o workers ss entries passes some r;
  seen = sees o workers ss entries passes some r;
  owned = owns o workers ss entries passes some r;
}
