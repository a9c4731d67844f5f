-- Which numbers an i128 holds, as contracts of code say it and as the definitions do.
use Rattle.std.proofs.Common.{◌≡◌, ℕ, ◌<◌, ◌^◌, ℤ, pos, negsuc, ◌≤ℤ◌, FitsSigned, Bool, true, false, arith, refl, SomeIff, ap, sym, ◌∙◌, nat_lt}
use Rattle.std.specs.declared.option.Option.{Option}
use Rattle.std.specs.declared.option.Option.TheVariants.{None, Some}
use Rattle.std.proofs.lemmas.Bool.Decides.{nat_tests}
use Rattle.std.specs.Int.{w128}
use Rattle.ion_values.specs.Within.{int_within, exponent_within}
use Rattle.ion_order.specs.Numbers.{fitting}

pub held : (n : ℤ) → FitsSigned w128 n → int_within n ≡ true
held (pos n) h = let s = h.sfits in grind (arith, nat_tests)
held (negsuc n) h = let s = h.sfits in grind (arith, nat_tests)

at_least : (n limit : ℕ) → (n < limit → ⊥) → nat_lt n limit ≡ false
at_least n limit h = grind (arith, nat_tests)

pub not_held : (n : ℤ) → (FitsSigned w128 n → ⊥) → int_within n ≡ false
not_held (pos n) h = at_least n (2 ^ 127) (λ less. h (record { sfits = less }))
not_held (negsuc n) h = at_least n (2 ^ 127) (λ less. h (record { sfits = less }))

pub is_fitting : (r : Option ℤ) (n : ℤ) → SomeIff r (FitsSigned w128 n) n → r ≡ fitting n
is_fitting None n h = rw (not_held n h) refl
is_fitting (Some m) n h = rw (held n h.0) (ap Some h.1)
