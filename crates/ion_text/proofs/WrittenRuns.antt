-- A text of digits, signs, points, colons and the letters T, Z and d is read as one number (Ion 1.0, "Text encoding").
use Rattle.std.proofs.Common.{◌≡◌, ◌==◌, ◌&&◌, ◌||◌, ◌-◌, ℕ, Bool, true, false, not, nat_eq, List, [], ◌∷◌, ◌++◌, length, slice_index, codes, Ok, inl, inr, if◌then◌else◌, refl, ap, sym, ◌∙◌, arith}
use Rattle.std.specs.Char.{is_ascii_digit}
use Rattle.std.specs.Str.{byte}
use Rattle.std.specs.List.{list_all, list_any, position_or_len, prefix_len}
use Rattle.std.proofs.lemmas.Bool.{and_parts, and_right, both_ways, eqb-true, ne_eqb, not_from_false, or_cases}
use Rattle.std.proofs.lemmas.Bool.Decides.{nat_tests}
use Rattle.std.proofs.lemmas.List.{take_at, append-nil}
use Rattle.ion_model.specs.Blanks.{is_space}
use Rattle.ion_model.specs.Lex.{lex, begins_number}
use Rattle.ion_model.specs.Numbers.{has_prefix, is_stop, is_float_mark, lex_number, number_in, plain_in, unsigned_in}
use Rattle.ion_model.specs.Timestamps.{is_dated, time_in}
use Rattle.ion_model.specs.declared.Scalar.{Scalar}
use Rattle.ion_model.specs.declared.Token.TheVariants as token
use Rattle.ion_model.specs.declared.Lexed.TheVariants as lexed
use Rattle.ion_text.specs.RoundTrip.{may_follow, MayFollow, ReadsAs}

-- a test tells two bytes apart
pub differs : (test : ℕ → Bool) (a b : ℕ) → test a ≡ true → test b ≡ false → (a == b) ≡ false
differs test a b h k = ne_eqb a b (λ e. both_ways (test a) (ap test e ∙ k) h)

-- ---- the first byte at which a test holds

-- a count of bytes that pass, if the next one doesn't
pub pass_behind :
    (test kept : ℕ → Bool) → ((b : ℕ) → kept b ≡ true → test b ≡ true) → (xs ys : List ℕ) → list_all kept xs ≡ true → prefix_len test ys ≡ 0 →
    prefix_len test (xs ++ ys) ≡ length xs
pass_behind test kept same [] ys all next = next
pass_behind test kept same (b ∷ xs) ys all next =
    let both = and_parts (kept b) (list_all kept xs) all in
    let rest : prefix_len test (xs ++ ys) ≡ length xs = pass_behind test kept same xs ys both.1 next in
    rw (same b both.0, rest) (omega arith)

-- the first one stands behind the bytes for which the test doesn't hold
pub first_behind :
    (test kept : ℕ → Bool) → ((b : ℕ) → kept b ≡ true → test b ≡ false) → (xs ys : List ℕ) → list_all kept xs ≡ true → position_or_len test ys ≡ 0 →
    position_or_len test (xs ++ ys) ≡ length xs
first_behind test kept other = pass_behind (λ b. not (test b)) kept (λ b h. not_from_false (test b) (other b h))

-- or there is none
pub none_first :
    (test kept : ℕ → Bool) → ((b : ℕ) → kept b ≡ true → test b ≡ false) → (xs : List ℕ) → list_all kept xs ≡ true → position_or_len test xs ≡ length xs
none_first test kept other xs all = ap (position_or_len test) (sym (append-nil xs)) ∙ first_behind test kept other xs [] all refl

pub none_passes :
    (test kept : ℕ → Bool) → ((b : ℕ) → kept b ≡ true → test b ≡ false) → (xs : List ℕ) → list_all kept xs ≡ true → list_any test xs ≡ false
none_passes test kept other [] all = refl
none_passes test kept other (b ∷ xs) all =
    let both = and_parts (kept b) (list_all kept xs) all in
    rw (other b both.0, none_passes test kept other xs both.1) refl

-- ---- the bytes of written numbers and timestamps

abbrev pub is_written : ℕ → Bool
is_written b = is_ascii_digit b || list_any (λ s. s == b) (codes "+-.:TZd")

no_stop : (b : ℕ) → is_written b ≡ true → is_stop b ≡ false
no_stop b h = grind (arith, nat_tests)

no_float_mark : (b : ℕ) → is_written b ≡ true → is_float_mark b ≡ false
no_float_mark b h = grind (arith, nat_tests)

a_stop : (b : ℕ) → may_follow b ≡ true → is_stop b ≡ true
a_stop b h = grind (arith, nat_tests)

stops_here : (rest : List ℕ) → MayFollow rest → position_or_len is_stop rest ≡ 0
stops_here [] h = refl
stops_here (b ∷ z) h = rw (a_stop b h) refl

-- ---- the run

run_read :
    (text rest : List ℕ) (s : Scalar) → list_all is_written text ≡ true → number_in text ≡ Ok s → MayFollow rest →
    lex_number (text ++ rest) ≡ lexed.Token (token.Scalar s) (length text - 1)
unfolding lex_number
run_read text rest s all is h =
    let end : position_or_len is_stop (text ++ rest) ≡ length text = first_behind is_stop is_written no_stop text rest all (stops_here rest h) in
    rw (end, take_at text rest (length text) refl, is) refl

no_space : (b : ℕ) → is_ascii_digit b ≡ true → is_space b ≡ false
no_space b h = grind (arith, nat_tests)

-- it is a number whose first byte is a digit, or a minus before a digit
digit_first : (b : ℕ) (z : List ℕ) → is_ascii_digit b ≡ true → lex (b ∷ z) ≡ lex_number (b ∷ z)
unfolding lex
digit_first b z h =
    let apart : (c : ℕ) → is_ascii_digit c ≡ false → (b == c) ≡ false = λ c k. differs is_ascii_digit b c h k in
    let apart_from : (c : ℕ) → is_ascii_digit c ≡ false → (c == b) ≡ false = λ c k. differs (λ x. not (is_ascii_digit x)) c b (ap not k) (ap not h) in
    rw (no_space b h, apart_from 47 refl, apart_from 123 refl, apart 34 refl, apart_from 39 refl, apart 39 refl, h) refl

minus_first : (d : ℕ) (z : List ℕ) → is_ascii_digit d ≡ true → lex (45 ∷ d ∷ z) ≡ lex_number (45 ∷ d ∷ z)
unfolding lex
minus_first d z h = rw h refl

-- ---- what such a run is

second_apart : (text : List ℕ) (c : ℕ) → is_written c ≡ false → nat_eq 0 c ≡ false → list_all is_written text ≡ true → (slice_index text 1 == c) ≡ false
second_apart [] c h k all = k
second_apart (a ∷ []) c h k all = k
second_apart (a ∷ b ∷ z) c h k all =
    let later = and_parts (is_written a) (list_all is_written (b ∷ z)) all in
    differs is_written b c (and_parts (is_written b) (list_all is_written z) later.1).0 h

no_prefix : (small large : ℕ) (text : List ℕ) → is_written small ≡ false → nat_eq 0 small ≡ false → is_written large ≡ false → nat_eq 0 large ≡ false → list_all is_written text ≡ true → has_prefix small large text ≡ false
no_prefix small large text h hz k kz all =
    rw (second_apart text small h hz all, second_apart text large k kz all) (and_right (slice_index text 0 == 0x30) false refl)

pub unsigned_is :
    (minus : Bool) (text : List ℕ) → list_all is_written text ≡ true →
    unsigned_in minus text ≡ (if not minus && is_dated text then time_in text else plain_in minus text)
unsigned_is minus text all =
    rw (no_prefix 0x78 0x58 text refl refl refl refl all, none_passes is_float_mark is_written no_float_mark text all, no_prefix 0x62 0x42 text refl refl refl refl all) refl

-- ---- numbers in front

-- a digit in front, or a minus before one
abbrev pub starts : List ℕ → Bool
starts [] = false
starts (b ∷ z) = begins_number b (b ∷ z)

minus_before : (b : ℕ) (z rest : List ℕ) → (b == 45) ≡ true → is_ascii_digit (slice_index z 0) ≡ true → lex ((b ∷ z) ++ rest) ≡ lex_number ((b ∷ z) ++ rest)
minus_before b [] rest h k = absurd (both_ways false refl k)
minus_before b (d ∷ z) rest h k = rw (eqb-true b 45 h) (minus_first d (z ++ rest) k)

number_first : (b : ℕ) (z rest : List ℕ) → begins_number b (b ∷ z) ≡ true → lex ((b ∷ z) ++ rest) ≡ lex_number ((b ∷ z) ++ rest)
number_first b z rest h =
    elim (or_cases (is_ascii_digit b) (b == byte "-" && is_ascii_digit (slice_index (b ∷ z) 1)) h) [
      | inl digit ↦ digit_first b (z ++ rest) digit
      | inr minus ↦
          let both = and_parts (b == 45) (is_ascii_digit (slice_index (b ∷ z) 1)) minus in
          minus_before b z rest both.0 both.1
    ]

pub number_read : (text : List ℕ) (s : Scalar) → starts text ≡ true → list_all is_written text ≡ true → number_in text ≡ Ok s → ReadsAs text (token.Scalar s)
number_read [] s h all is rest k = both_ways false refl h
number_read (b ∷ z) s h all is rest k = number_first b z rest h ∙ run_read (b ∷ z) rest s all is k ∙ ap (lexed.Token (token.Scalar s)) (omega arith)
