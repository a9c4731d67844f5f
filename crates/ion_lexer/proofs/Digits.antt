-- Digits that are read one by one, the first one first.
use Rattle.std.proofs.Common.{◌≡◌, ◌+◌, ◌*◌, ◌<◌, ◌≤◌, ℕ, suc, cond, true, false, List, [], ◌∷◌, length, drop, get_or, drop-cons, ap, sym, subst, ◌∙◌, arith}
use Rattle.std.proofs.Math.Nat.{mul-le-mul_left}
use Rattle.std.specs.Char.{digit_value, is_digit}
use Rattle.std.specs.Str.Parse.{digits_value_after}
use Rattle.std.proofs.lemmas.Bool.Decides.{nat_tests}
use Rattle.ion_model.specs.Numbers.{digits_in}

grows : (base n d : ℕ) → 2 ≤ base → n ≤ n * base + d
grows base n d h =
    let one : 1 ≤ base = omega arith in
    omega (arith, mul-le-mul_left n one)

-- what was read is no more than the whole
pub at_least : (base n : ℕ) (ds : List ℕ) → 2 ≤ base → n ≤ digits_value_after base n ds
at_least base n [] h = omega arith
at_least base n (d ∷ ds) h = omega (arith, grows base n (digit_value d) h, at_least base (n * base + digit_value d) ds h)

is_taken : (base d : ℕ) → digit_value d < base → is_digit d base ≡ true
is_taken base d h = grind (arith, nat_tests)

is_passed : (base d : ℕ) → base ≤ digit_value d → is_digit d base ≡ false
is_passed base d h = grind (arith, nat_tests)

-- one digit more
pub digit_taken : (base n i : ℕ) (text : List ℕ) → i < length text → digit_value (get_or text i 0) < base →
    digits_value_after base n (digits_in base (drop i text))
    ≡ digits_value_after base (n * base + digit_value (get_or text i 0)) (digits_in base (drop (i + 1) text))
digit_taken base n i text h small =
    let e : suc i ≡ i + 1 = omega arith in
    ap (λ xs. digits_value_after base n (digits_in base xs)) (drop-cons text i 0 h)
    ∙ ap (λ b. digits_value_after base n (cond b (get_or text i 0 ∷ digits_in base (drop (suc i) text)) (digits_in base (drop (suc i) text)))) (is_taken base (get_or text i 0) small)
    ∙ ap (λ k. digits_value_after base (n * base + digit_value (get_or text i 0)) (digits_in base (drop k text))) e

-- no digit
pub byte_passed : (base i : ℕ) (text : List ℕ) → i < length text → base ≤ digit_value (get_or text i 0) →
    digits_in base (drop i text) ≡ digits_in base (drop (i + 1) text)
byte_passed base i text h large =
    let e : suc i ≡ i + 1 = omega arith in
    ap (λ xs. digits_in base xs) (drop-cons text i 0 h)
    ∙ ap (λ b. cond b (get_or text i 0 ∷ digits_in base (drop (suc i) text)) (digits_in base (drop (suc i) text))) (is_passed base (get_or text i 0) large)
    ∙ ap (λ k. digits_in base (drop k text)) e

-- the same of a byte that was read as a character, and of the digit and the number that were made of it
pub taken : (base n i c d m : ℕ) (text : List ℕ) → i < length text → c ≡ get_or text i 0 → digit_value c < base → d ≡ digit_value c → m ≡ n * base + d →
    digits_value_after base n (digits_in base (drop i text)) ≡ digits_value_after base m (digits_in base (drop (i + 1) text))
taken base n i c d m text h ec small ed em =
    let small' : digit_value (get_or text i 0) < base = subst (λ (x : ℕ). digit_value x < base) ec small in
    let same : n * base + digit_value (get_or text i 0) ≡ m = ap (λ x. n * base + digit_value x) (sym ec) ∙ ap (λ x. n * base + x) (sym ed) ∙ sym em in
    digit_taken base n i text h small'
    ∙ ap (λ x. digits_value_after base x (digits_in base (drop (i + 1) text))) same

pub passed : (base n i c m : ℕ) (text : List ℕ) → i < length text → c ≡ get_or text i 0 → (digit_value c < base → ⊥) → m ≡ n →
    digits_value_after base n (digits_in base (drop i text)) ≡ digits_value_after base m (digits_in base (drop (i + 1) text))
passed base n i c m text h ec large em =
    let large' : digit_value (get_or text i 0) < base → ⊥ = subst (λ (x : ℕ). digit_value x < base → ⊥) ec large in
    ap (λ xs. digits_value_after base n xs) (byte_passed base i text h (omega arith))
    ∙ ap (λ x. digits_value_after base x (digits_in base (drop (i + 1) text))) (sym em)
