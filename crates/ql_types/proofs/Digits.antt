-- The digits of an id, from the last to the first, and which bytes they are.
use Rattle.std.proofs.Common.{◌≡◌, ◌∙◌, ℕ, zero, suc, ◌+◌, ◌*◌, ◌/◌, ◌%◌, ◌^◌, ◌<◌, Bool, true, List, [], ◌∷◌, ◌++◌, length, get_or, set, drop, ap, sym, arith, refl, append-nil, append_assoc, add-one, length-append}
use Rattle.std.proofs.Math.Arith.{mod-mul}
use Rattle.std.proofs.Math.Nat.{div-div-eq-div-mul, pow-suc, pow-succ'}
use Rattle.std.proofs.lemmas.Nat.{div-mul-add, mod-mul-add}
use Rattle.std.specs.Prelude.{nat_lt}
use Rattle.std.specs.List.{All, AllPass, list_all}
use Rattle.std.proofs.lemmas.List.{drop-set}
use Rattle.std.proofs.lemmas.List.Folds.{list_all-append}
use Rattle.std.proofs.lemmas.List.Sums.{AllPass-from_list_all}
use Rattle.std.proofs.lemmas.Bool.Decides.{nat_tests}
use Rattle.ql_types.specs.Ids.{alphabet, digits_of, id_text, is_letter_or_digit}

-- one digit more before those that stand in the text
pub digits-more : (text : List ℕ) (place count number less all at more : ℕ) → less ≡ count → all ≡ suc count → at ≡ place → more ≡ suc place
    → place < length text
    → digits_of less (number / 62) ++ drop at (set text place (get_or alphabet (number % 62) 0)) ≡ digits_of all number ++ drop more text
unfolding digits_of
digits-more text place count number less all at more e f g h room =
    let digit = get_or alphabet (number % 62) 0 in
    rw (e, f, g, h, drop-set text place digit room, add-one, append_assoc) refl

-- no digits more
pub digits-none : (text all : List ℕ) (from at left number : ℕ) → left ≡ 0 → at ≡ from → digits_of left number ++ drop at text ≡ all → drop from text ≡ all
unfolding digits_of
digits-none text all from at left number e f so_far =
    ap (λ k. drop k text) (sym f) ∙ ap (λ k. digits_of k number ++ drop at text) (sym e) ∙ so_far

-- the count of digits
pub length-digits_of : (count number : ℕ) → length (digits_of count number) ≡ count
unfolding digits_of
length-digits_of zero number = refl
length-digits_of (suc count) number =
    let before = length-digits_of count (number / 62) in rw (length-append, before) (omega arith)

-- ---- digits in parts

some-pow : (n : ℕ) → 0 < 62 ^ n
some-pow zero = omega arith
some-pow (suc n) = let before = some-pow n in let e = pow-suc 62 n in omega (arith, before, e)

-- the digits of a number are those of its front, and then its last ones
pub in_parts : (m n number : ℕ) → digits_of (m + n) number ≡ digits_of m (number / 62 ^ n) ++ digits_of n (number % 62 ^ n)
unfolding digits_of
in_parts m zero number =
    let count : m + 0 ≡ m = omega arith in
    let whole : number ≡ number / 62 ^ 0 = omega arith in
    ap (λ k. digits_of k number) count ∙ ap (λ k. digits_of m k) whole ∙ sym (append-nil (digits_of m (number / 62 ^ 0)))
in_parts m (suc n) number =
    let digit : ℕ → ℕ = λ k. get_or alphabet k 0 in
    let low = number % 62 ^ suc n in
    let middle = number / 62 % 62 ^ n in
    let last = number % 62 in
    let small : last < 62 = omega arith in
    let more : m + suc n ≡ suc (m + n) = omega arith in
    let some : 0 < 62 = omega arith in
    let split : low ≡ middle * 62 + last = ap (λ k. number % k) (pow-suc 62 n) ∙ mod-mul number (some-pow n) some in
    let front : number / 62 / 62 ^ n ≡ number / 62 ^ suc n = div-div-eq-div-mul number 62 (62 ^ n) ∙ ap (λ k. number / k) (sym (pow-succ' 62 n)) in
    let upper : middle ≡ low / 62 = sym (ap (λ k. k / 62) split ∙ div-mul-add middle 62 last small) in
    let lowest : last ≡ low % 62 = sym (ap (λ k. k % 62) split ∙ mod-mul-add middle 62 last small) in
    ap (λ k. digits_of k number) more
    ∙ ap (λ t. t ++ digit last ∷ []) (in_parts m n (number / 62))
    ∙ append_assoc (digits_of m (number / 62 / 62 ^ n)) (digits_of n middle) (digit last ∷ [])
    ∙ ap (λ k. digits_of m k ++ (digits_of n middle ++ digit last ∷ [])) front
    ∙ ap (λ k. digits_of m (number / 62 ^ suc n) ++ (digits_of n k ++ digit last ∷ [])) upper
    ∙ ap (λ k. digits_of m (number / 62 ^ suc n) ++ (digits_of n (low / 62) ++ digit k ∷ [])) lowest

-- the digits of an id in three parts, the last ones written first
pub three_parts : (raw front : ℕ) (none third second first : List ℕ) → front ≡ raw / 62 ^ 10 → none ≡ []
    → third ≡ digits_of 10 (raw % 62 ^ 10) ++ none → second ≡ digits_of 10 (front % 62 ^ 10) ++ third
    → first ≡ digits_of 2 (front / 62 ^ 10) ++ second → first ≡ id_text raw
three_parts raw front none third second first e empty is_third is_second is_first =
    let back = digits_of 10 (raw % 62 ^ 10) in
    let middle = digits_of 10 (front % 62 ^ 10) in
    let top = digits_of 2 (front / 62 ^ 10) in
    let last : third ≡ back = is_third ∙ ap (λ t. back ++ t) empty ∙ append-nil back in
    is_first ∙ ap (λ t. top ++ t) (is_second ∙ ap (λ t. middle ++ t) last) ∙ sym (append_assoc top middle back)
    ∙ ap (λ t. t ++ back) (sym (in_parts 2 10 front))
    ∙ ap (λ k. digits_of 12 k ++ back) e
    ∙ sym (in_parts 12 10 raw)

-- what each digit of the alphabet passes, each digit of a text passes
digits_of-list_all : (p : ℕ → Bool) → AllPass p alphabet → (count number : ℕ) → list_all p (digits_of count number) ≡ true
unfolding digits_of
digits_of-list_all p h zero number = refl
digits_of-list_all p h (suc count) number =
    let before = digits_of-list_all p h count (number / 62) in
    let last : p (get_or alphabet (number % 62) 0) ≡ true = h (number % 62) 0 (omega arith) in
    rw (list_all-append p, before, last) refl

-- each byte of an id's text is a letter or digit
pub id_text-letters : (raw : ℕ) → AllPass is_letter_or_digit (id_text raw)
id_text-letters raw =
    AllPass-from_list_all is_letter_or_digit (id_text raw)
    (digits_of-list_all is_letter_or_digit (AllPass-from_list_all is_letter_or_digit alphabet refl) 22 raw)

-- each byte of an id's text is ASCII
pub id_text-ascii : (raw : ℕ) → All (λ byte. byte < 128) (id_text raw)
id_text-ascii raw k d h =
    let test : ℕ → Bool = λ byte. nat_lt byte 128 in
    let passes = AllPass-from_list_all test (id_text raw)
    (digits_of-list_all test (AllPass-from_list_all test alphabet refl) 22 raw) k d h in
    grind (arith, nat_tests, passes)
