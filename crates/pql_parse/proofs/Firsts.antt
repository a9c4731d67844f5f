-- One source more in front of those whose names a table has.
use Rattle.std.proofs.Common.{◌≡◌, ℕ, zero, suc, ◌+◌, ◌≤◌, ◌||◌, Bool, true, false, cond, List, ◌∷◌, take, Option, Some, None, refl, sym, ap, ◌∙◌, arith}
use Rattle.std.specs.List.{list_any}
use Rattle.std.proofs.lemmas.Bool.Decides.{nat_tests}
use Rattle.pql_model.specs.declared.statement.Source.{Source}
use Rattle.pql_parse.specs.Ruled.{is_below}

below_less : (a b : ℕ) (o : Option ℕ) → b ≤ a → is_below a o ≡ false → is_below b o ≡ false
below_less a b None h e = refl
below_less a b (Some k) h e = grind (arith, nat_tests)

none_before : (at : ℕ) (hit : Bool) (old : Option ℕ) → is_below (at + 1) old ≡ false → false ≡ is_below at (cond hit (Some at) old)
none_before at true old e = grind (arith, nat_tests)
none_before at false old e = sym (below_less (at + 1) at old (omega arith) e)

chosen : (at n : ℕ) (hit others : Bool) (old : Option ℕ) → others ≡ is_below (at + suc n) old → (hit || others) ≡ is_below (at + suc n) (cond hit (Some at) old)
chosen at n true others old e = grind (arith, nat_tests)
chosen at n false others old e = e

-- the table that has the source at this place too
pub put_first : (test : Source → Bool) (s : Source) (ss : List Source) (at : ℕ) (old : Option ℕ) →
    ((m : ℕ) → list_any test (take m ss) ≡ is_below (at + 1 + m) old) →
    (n : ℕ) → list_any test (take n (s ∷ ss)) ≡ is_below (at + n) (cond (test s) (Some at) old)
put_first test s ss at old same zero =
    let here : at + 0 ≡ at = omega arith in
    let next : at + 1 + 0 ≡ at + 1 = omega arith in
    none_before at (test s) old (sym (same 0 ∙ ap (λ k. is_below k old) next)) ∙ ap (λ k. is_below k (cond (test s) (Some at) old)) (sym here)
put_first test s ss at old same (suc n) =
    let next : at + 1 + n ≡ at + suc n = omega arith in
    chosen at n (test s) (list_any test (take n ss)) old (same n ∙ ap (λ k. is_below k old) next)
