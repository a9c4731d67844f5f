-- Texts with something behind them: a run of bytes ends where the next one is of another sort, so numbers are told by
-- their digits, and ids by their 22.
use Rattle.std.proofs.Common.{◌≡◌, ◌∙◌, ◌<◌, ◌==◌, ℕ, suc, ℤ, pos, negsuc, Bool, true, false, List, [], ◌∷◌, ◌++◌, drop, length, slice_index, codes, Some, refl, sym, ap, subst, arith, append_assoc}
use Rattle.std.specs.Char.{digit_value, is_ascii_digit}
use Rattle.std.specs.Fmt.{decimal, signed_decimal}
use Rattle.std.specs.List.{list_all}
use Rattle.std.specs.Str.Parse.{AllDigits, digits_value}
use Rattle.std.proofs.lemmas.Bool.{and_from, and_parts, both_ways}
use Rattle.std.proofs.lemmas.Bool.Decides.{nat_tests}
use Rattle.std.proofs.lemmas.Fmt.{decimal_is_IsNumeral_wide}
use Rattle.ql_types.specs.Ids.{id_in, id_text}
use Rattle.ql_types.proofs.Digits.{length-digits_of}
use Rattle.ql_types.proofs.Spelled.{id_in-text}
use Rattle.ion_text.specs.RoundTrip.{MayFollow, may_follow}
use Rattle.ledger_model.specs.ItemText.{quoted_id}
use Rattle.laws_report.specs.Writable.{IsInt, IsNumber}

-- ---- pieces of a text

-- what stands behind a piece of this length
abbrev pub behind : List ℕ → List ℕ → List ℕ
behind piece = drop (length piece)

-- a piece with others put to its end, one by one
abbrev pub left : List ℕ → List (List ℕ) → List ℕ
left x [] = x
left x (piece ∷ more) = left (x ++ piece) more

-- others in front of what stands behind them
abbrev pub right : List (List ℕ) → List ℕ → List ℕ
right [] r = r
right (piece ∷ more) r = piece ++ right more r

in_front : (x : List ℕ) (pieces : List (List ℕ)) (r : List ℕ) → left x pieces ++ r ≡ x ++ right pieces r
in_front x [] r = refl
in_front x (piece ∷ more) r = in_front (x ++ piece) more r ∙ append_assoc x piece (right more r)

-- the pieces come one by one
pub parted : (x u : List ℕ) (xs us : List (List ℕ)) (r s : List ℕ) → left x xs ++ r ≡ left u us ++ s → x ++ right xs r ≡ u ++ right us s
parted x u xs us r s e = sym (in_front x xs r) ∙ e ∙ in_front u us s

pub same_lengths : (x u r s : List ℕ) → length x ≡ length u → x ++ r ≡ u ++ s → (x ≡ u) × (r ≡ s)
same_lengths [] [] r s h e = (refl, e)
same_lengths [] (b ∷ u) r s h e = absurd (omega arith)
same_lengths (a ∷ x) [] r s h e = absurd (omega arith)
same_lengths (a ∷ x) (b ∷ u) r s h e =
    let first : a ≡ b = ap (λ l. slice_index l 0) e in
    let rest = same_lengths x u r s (omega arith) (ap (drop 1) e) in
    (λ i. first i ∷ rest.0 i, rest.1)

-- two numbers are not one
pub apart : {m n : ℕ} → m ≡ n → (m == n) ≡ false → ⊥
apart e h = grind (arith, nat_tests)

-- ---- runs

-- a byte that fails the test stands in front, or nothing
abbrev pub Ends : (ℕ → Bool) → List ℕ → Type 0
Ends test [] = Unit {0}
Ends test (b ∷ z) = test b ≡ false

pub run_tells : (test : ℕ → Bool) (x u r s : List ℕ) → list_all test x ≡ true → list_all test u ≡ true → Ends test r → Ends test s
    → x ++ r ≡ u ++ s → (x ≡ u) × (r ≡ s)
run_tells test [] [] r s h k p q e = (refl, e)
run_tells test [] (b ∷ u) r s h k p q e =
    absurd (both_ways (test b) (subst (Ends test) e p) (and_parts (test b) (list_all test u) k).0)
run_tells test (a ∷ x) [] r s h k p q e =
    absurd (both_ways (test a) (subst (Ends test) (sym e) q) (and_parts (test a) (list_all test x) h).0)
run_tells test (a ∷ x) (b ∷ u) r s h k p q e =
    let first : a ≡ b = ap (λ l. slice_index l 0) e in
    let rest = run_tells test x u r s (and_parts (test a) (list_all test x) h).1 (and_parts (test b) (list_all test u) k).1 p q (ap (drop 1) e) in
    (λ i. first i ∷ rest.0 i, rest.1)

-- ---- numbers

a_digit : (c : ℕ) → digit_value c < 10 → is_ascii_digit c ≡ true
a_digit c h = grind (arith, nat_tests)

all_digits : (ds : List ℕ) → AllDigits 10 ds → list_all is_ascii_digit ds ≡ true
all_digits [] h = refl
all_digits (c ∷ cs) h = and_from (is_ascii_digit c) (list_all is_ascii_digit cs) (a_digit c h.0) (all_digits cs h.1)

pub decimal_digits : (n : ℕ) → IsNumber n → list_all is_ascii_digit (decimal n) ≡ true
decimal_digits n h = all_digits (decimal n) (decimal_is_IsNumeral_wide n (omega arith)).0.1

no_digit : (b : ℕ) → may_follow b ≡ true → is_ascii_digit b ≡ false
no_digit b h = grind (arith, nat_tests)

-- a number ends where a value may
pub digits_end : (r : List ℕ) → MayFollow r → Ends is_ascii_digit r
digits_end [] h = tt
digits_end (b ∷ z) h = no_digit b h

pub digits_tell : (m n : ℕ) (r s : List ℕ) → IsNumber m → IsNumber n → Ends is_ascii_digit r → Ends is_ascii_digit s
    → decimal m ++ r ≡ decimal n ++ s → (m ≡ n) × (r ≡ s)
digits_tell m n r s h k p q e =
    let run = run_tells is_ascii_digit (decimal m) (decimal n) r s (decimal_digits m h) (decimal_digits n k) p q e in
    let one = decimal_is_IsNumeral_wide m (omega arith) in
    let other = decimal_is_IsNumeral_wide n (omega arith) in
    (sym one.1 ∙ ap (digits_value 10) run.0 ∙ other.1, run.1)

pub number_tells : (m n : ℕ) (r s : List ℕ) → IsNumber m → IsNumber n → MayFollow r → MayFollow s
    → decimal m ++ r ≡ decimal n ++ s → (m ≡ n) × (r ≡ s)
number_tells m n r s h k p q e = digits_tell m n r s h k (digits_end r p) (digits_end s q) e

-- a number begins with a digit
digits_begin : (ds r : List ℕ) → AllDigits 10 ds → 0 < length ds → is_ascii_digit (slice_index (ds ++ r) 0) ≡ true
digits_begin [] r h some = absurd (omega arith)
digits_begin (d ∷ ds) r h some = a_digit d h.0

pub decimal_begins : (n : ℕ) (r : List ℕ) → IsNumber n → is_ascii_digit (slice_index (decimal n ++ r) 0) ≡ true
decimal_begins n r h =
    let numeral = decimal_is_IsNumeral_wide n (omega arith) in
    digits_begin (decimal n) r numeral.0.1 numeral.0.0

-- no number below zero is one above it
no_sign : (n : ℕ) (r z : List ℕ) → IsNumber n → decimal n ++ r ≡ 45 ∷ z → ⊥
no_sign n r z h e =
    both_ways (is_ascii_digit (slice_index (decimal n ++ r) 0)) (ap (λ l. is_ascii_digit (slice_index l 0)) e) (decimal_begins n r h)

pub signed_tells : (a b : ℤ) (r s : List ℕ) → IsInt a → IsInt b → Ends is_ascii_digit r → Ends is_ascii_digit s
    → signed_decimal a ++ r ≡ signed_decimal b ++ s → (a ≡ b) × (r ≡ s)
signed_tells (pos m) (pos n) r s h k p q e = let both = digits_tell m n r s h k p q e in (ap pos both.0, both.1)
signed_tells (negsuc m) (negsuc n) r s h k p q e =
    let both = digits_tell (suc m) (suc n) r s h k p q (ap (drop 1) e) in
    let same : m ≡ n = omega (arith, both.0) in
    (ap negsuc same, both.1)
signed_tells (pos m) (negsuc n) r s h k p q e = absurd (no_sign m r (decimal (suc n) ++ s) h e)
signed_tells (negsuc m) (pos n) r s h k p q e = absurd (no_sign n s (decimal (suc m) ++ r) k (sym e))

-- ---- ids

quoted : (n : ℕ) (r : List ℕ) → behind (codes "\"") (quoted_id n ++ r) ≡ id_text n ++ 34 ∷ r
quoted n r = append_assoc (id_text n) (34 ∷ []) r

pub id_tells : (m n : ℕ) (r s : List ℕ) → IsNumber m → IsNumber n → quoted_id m ++ r ≡ quoted_id n ++ s → (m ≡ n) × (r ≡ s)
id_tells m n r s h k e =
    let long : length (id_text m) ≡ length (id_text n) = length-digits_of 22 m ∙ sym (length-digits_of 22 n) in
    let both = same_lengths (id_text m) (id_text n) (34 ∷ r) (34 ∷ s) long (sym (quoted m r) ∙ ap (behind (codes "\"")) e ∙ quoted n s) in
    let read : Some m ≡ Some n = sym (id_in-text m h) ∙ ap id_in both.0 ∙ id_in-text n k in
    let same : m ≡ n = cc in
    (same, ap (drop 1) both.1)
