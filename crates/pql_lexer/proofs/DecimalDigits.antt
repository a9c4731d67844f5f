-- Decimal digits that are read one by one, the first one first.
use Rattle.std.proofs.Common.{◌≡◌, ℕ, ◌+◌, ◌-◌, ◌*◌, ◌<◌, ◌≤◌, cond, true, List, [], ◌∷◌, drop, length, get_or, filter, ap, ◌∙◌, sym, arith}
use Rattle.std.specs.Char.{digit_value, is_ascii_digit}
use Rattle.std.specs.Str.Parse.{digits_value_after}
use Rattle.std.proofs.lemmas.Bool.Decides.{nat_tests}
use Rattle.std.proofs.lemmas.List.{drop_more}

-- what was read is no more than the whole
pub at_least : (n : ℕ) (ds : List ℕ) → n ≤ digits_value_after 10 n ds
at_least n [] = omega arith
at_least n (d ∷ ds) = omega (arith, at_least (n * 10 + digit_value d) ds)

digit_is : (b : ℕ) → is_ascii_digit b ≡ true → digit_value b ≡ b - 48
digit_is b h = grind (arith, nat_tests)

-- one digit more
pub taken : (n i m : ℕ) (text : List ℕ) → i < length text → is_ascii_digit (get_or text i 0) ≡ true → m ≡ n * 10 + (get_or text i 0 - 48) →
    digits_value_after 10 n (filter is_ascii_digit (drop i text)) ≡ digits_value_after 10 m (filter is_ascii_digit (drop (i + 1) text))
taken n i m text h digit e =
    let b : ℕ = get_or text i 0 in
    let rest : List ℕ = filter is_ascii_digit (drop (i + 1) text) in
    ap (λ z. digits_value_after 10 n (filter is_ascii_digit z)) (drop_more text i 0 h)
    ∙ ap (λ t. digits_value_after 10 n (cond t (b ∷ rest) rest)) digit
    ∙ ap (λ k. digits_value_after 10 k rest) (ap (λ d. n * 10 + d) (digit_is b digit) ∙ sym e)
