-- The number that `parse` reads from decimal digits.
use Rattle.std.proofs.Common.{◌≡◌, ℕ, ◌<◌, ◌==◌, ◌^◌, ◌&&◌, Bool, true, false, not, List, [], ◌∷◌, length, Some, None, refl, ap, arith, rules}
use Rattle.std.specs.Prelude.{Result, Ok, Err, nat_lt, if◌then◌else◌}
use Rattle.std.specs.Result.{OkIff, result_ok}
use Rattle.std.specs.Char.{is_ascii_digit}
use Rattle.std.specs.List.{list_all}
use Rattle.std.specs.Str.Parse.{ParsesUnsigned, digits_value}
use Rattle.std.proofs.lemmas.Bool.{and_parts, false≢true, lt-ltb, ltb-true}
use Rattle.std.proofs.lemmas.Str.Parse.{IsNumeralModel, numerals_by_value, parse_digits}
use Rattle.cli_args.specs.Numbers.{has_zero_in_front, is_number, number_of}

digits : IsNumeralModel (λ ds. list_all is_ascii_digit ds ≡ true) (digits_value 10)
digits = numerals_by_value _ (search rules)

-- a value that is there exactly where a test passes, behind another that has passed
some_where : {E P : Type 0} (first test : Bool) (r : Result ℕ E) (x : ℕ) → first ≡ true → (P → test ≡ true)
    → (test ≡ true → P) → OkIff r P x
    → result_ok r ≡ (if first && test then Some x else None)
some_where true true (Ok y) x passed to from h = ap Some h.1
some_where true true (Err e) x passed to from h = absurd (h (from refl))
some_where true false (Ok y) x passed to from h = absurd (false≢true (to h.0))
some_where true false (Err e) x passed to from h = refl
some_where false test r x passed to from h = absurd (false≢true passed)

not_empty : (word : List ℕ) → not (length word == 0) ≡ true → 0 < length word
not_empty [] h = absurd (false≢true h)
not_empty (c ∷ word) h = omega arith

pub parsed : {E : Type 0} (bits : ℕ) (word : List ℕ) (r : Result ℕ E) → ParsesUnsigned bits 10 word r
    → is_number word ≡ true → result_ok r ≡ number_of bits word
unfolding number_of
parsed bits word r h is =
    let parts = and_parts (not (length word == 0) && list_all is_ascii_digit word) (not (has_zero_in_front word)) is in
    let both = and_parts (not (length word == 0)) (list_all is_ascii_digit word) parts.0 in
    some_where {P = (0 < length word) × (digits_value 10 word < 2 ^ bits)} (is_number word)
    (nat_lt (digits_value 10 word) (2 ^ bits)) r (digits_value 10 word) is
    (λ p. lt-ltb _ _ p.1) (λ e. (not_empty word both.0, ltb-true _ _ e))
    (parse_digits digits bits word r h both.1)
