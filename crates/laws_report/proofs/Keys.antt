-- The text of a key tells it.
use Rattle.std.proofs.Common.{◌≡◌, ◌∙◌, ◌==◌, ◌||◌, ◌/◌, ◌%◌, ◌+◌, ℕ, ℤ, pos, negsuc, Bool, true, false, List, [], ◌∷◌, ◌++◌, drop, slice_index, if◌then◌else◌, refl, sym, ap, append_assoc}
use Rattle.std.specs.Char.{is_ascii_digit}
use Rattle.std.specs.Fmt.{decimal, signed_decimal}
use Rattle.std.specs.List.{list_all}
use Rattle.std.proofs.lemmas.Bool.{both_ways, cond-true, or_left}
use Rattle.ion_values.specs.Time.{is_in_years}
use Rattle.ion_values.specs.declared.value.Key.{Key}
use Rattle.ion_values.specs.declared.value.Key.TheVariants as key
use Rattle.ion_model.specs.Timestamp.{four_digits, timestamp_text}
use Rattle.ion_text.specs.RoundTrip.{MayFollow}
use Rattle.ledger_model.specs.ItemText.{key_text, number_text}
use Rattle.ledger_model.specs.Moment.{day_number, minutes_of, moment_text, utc_time, year_of}
use Rattle.laws_report.specs.Writable.{IsInt, IsKey}
use Rattle.laws_report.proofs.Runs.{apart, decimal_begins, decimal_digits, digits_end, parted, run_tells, signed_tells}
use Rattle.laws_report.proofs.Tokens.{blob_tells, bool_tells, clob_tells, no_clob_is_blob, text_tells}
use Rattle.laws_report.proofs.Moments.{form, moment_tells, year_digit}

-- ---- numbers

pub pair_tells : (c x d y : ℤ) (r s : List ℕ) → IsInt c → IsInt x → IsInt d → IsInt y → MayFollow r → MayFollow s
    → number_text c x ++ r ≡ number_text d y ++ s → (c ≡ d) × (x ≡ y) × (r ≡ s)
pair_tells c x d y r s hc hx hd hy u v e =
    let first = signed_tells c d ((100 ∷ signed_decimal x) ++ r) ((100 ∷ signed_decimal y) ++ s) hc hd refl refl
    (parted (signed_decimal c) (signed_decimal d) ((100 ∷ signed_decimal x) ∷ []) ((100 ∷ signed_decimal y) ∷ []) r s e) in
    let second = signed_tells x y r s hx hy (digits_end r u) (digits_end s v) (ap (drop 1) first.1) in
    (first.0, second.0, second.1)

-- ---- the first byte

-- a digit, a minus or the letter before the number of a moment
abbrev counts : ℕ → Bool
counts b = is_ascii_digit b || (b == 45 || b == 109)

-- the sort of a key that begins with a byte, which numbers and moments share
abbrev sort : ℕ → ℕ
sort b = if counts b then 1 else (if b == 34 then 2 else (if b == 123 then 3 else 0))

digit_sort : (b : ℕ) → is_ascii_digit b ≡ true → sort b ≡ 1
digit_sort b h = cond-true (counts b) 1 _ (or_left (is_ascii_digit b) _ h)

signed_sort : (z : ℤ) (r : List ℕ) → IsInt z → sort (slice_index (signed_decimal z ++ r) 0) ≡ 1
signed_sort (pos n) r h = digit_sort (slice_index (decimal n ++ r) 0) (decimal_begins n r h)
signed_sort (negsuc n) r h = refl

form_sort : (m : ℤ) (r : List ℕ) (years : Bool) → sort (slice_index (form m years ++ r) 0) ≡ 1
form_sort m r true = digit_sort (48 + year_of (day_number m) / 100 / 10 % 10) (year_digit (year_of (day_number m) / 100 / 10))
form_sort m r false = refl

abbrev sort_of : Key → ℕ
sort_of (key.Bool truth) = 0
sort_of (key.Number coefficient exponent) = 1
sort_of (key.Text text) = 2
sort_of (key.Moment moment) = 1
sort_of (key.Clob bytes) = 3
sort_of (key.Blob bytes) = 3

first_byte : (k : Key) (r : List ℕ) → IsKey k → sort (slice_index (key_text k ++ r) 0) ≡ sort_of k
first_byte (key.Bool true) r h = refl
first_byte (key.Bool false) r h = refl
first_byte (key.Number c x) r h =
    ap (λ l. sort (slice_index l 0)) (append_assoc (signed_decimal c) (100 ∷ signed_decimal x) r) ∙ signed_sort c ((100 ∷ signed_decimal x) ++ r) h.0
first_byte (key.Text text) r h = refl
first_byte (key.Moment m) r h = form_sort m r (is_in_years (minutes_of m))
first_byte (key.Clob bytes) r h = refl
first_byte (key.Blob bytes) r h = refl

same_sort : (a b : Key) (r s : List ℕ) → IsKey a → IsKey b → key_text a ++ r ≡ key_text b ++ s → sort_of a ≡ sort_of b
same_sort a b r s h k e = sym (first_byte a r h) ∙ ap (λ l. sort (slice_index l 0)) e ∙ first_byte b s k

-- ---- no number is a moment

four : (y : ℕ) → list_all is_ascii_digit (four_digits y) ≡ true
four y = rw (year_digit (y / 100 / 10), year_digit (y / 100), year_digit (y / 10), year_digit y) refl

minus_or_digit : ℕ → Bool
minus_or_digit b = is_ascii_digit b || b == 45

signed_begins : (z : ℤ) (r : List ℕ) → IsInt z → minus_or_digit (slice_index (signed_decimal z ++ r) 0) ≡ true
unfolding minus_or_digit
signed_begins (pos n) r h = or_left (is_ascii_digit (slice_index (decimal n ++ r) 0)) _ (decimal_begins n r h)
signed_begins (negsuc n) r h = refl

no_year : (c m : ℤ) (r s : List ℕ) → IsInt c → signed_decimal c ++ 100 ∷ r ≡ timestamp_text (utc_time m) ++ s → ⊥
no_year (pos n) m r s h e =
    let y = year_of (day_number m) in
    let rest : List ℕ = drop 5 (timestamp_text (utc_time m) ++ s) in
    let run = run_tells is_ascii_digit (decimal n) (four_digits y) (100 ∷ r) (45 ∷ rest) (decimal_digits n h) (four y) refl refl e in
    apart (ap (λ l. slice_index l 0) run.1) refl
no_year (negsuc n) m r s h e =
    both_ways (is_ascii_digit (slice_index (timestamp_text (utc_time m) ++ s) 0)) (sym (ap (λ l. is_ascii_digit (slice_index l 0)) e))
    (year_digit (year_of (day_number m) / 100 / 10))

no_form : (c m : ℤ) (r s : List ℕ) (years : Bool) → IsInt c → signed_decimal c ++ 100 ∷ r ≡ form m years ++ s → ⊥
unfolding minus_or_digit
no_form c m r s true h e = no_year c m r s h e
no_form c m r s false h e =
    both_ways (minus_or_digit (slice_index (signed_decimal c ++ 100 ∷ r) 0)) (ap (λ l. minus_or_digit (slice_index l 0)) e) (signed_begins c (100 ∷ r) h)

no_moment : (c x m : ℤ) (r s : List ℕ) → IsInt c → number_text c x ++ r ≡ moment_text m ++ s → ⊥
no_moment c x m r s h e =
    no_form c m (signed_decimal x ++ r) s (is_in_years (minutes_of m)) h (sym (append_assoc (signed_decimal c) (100 ∷ signed_decimal x) r) ∙ e)

-- ---- keys

pub key_tells : (a b : Key) (r s : List ℕ) → IsKey a → IsKey b → MayFollow r → MayFollow s → key_text a ++ r ≡ key_text b ++ s → (a ≡ b) × (r ≡ s)
key_tells (key.Bool a) (key.Bool b) r s h k u v e = let both = bool_tells a b r s u v e in (ap key.Bool both.0, both.1)
key_tells (key.Number c x) (key.Number d y) r s h k u v e =
    let all = pair_tells c x d y r s h.0 h.1 k.0 k.1 u v e in (λ i. key.Number (all.0 i) (all.1 i), all.2)
key_tells (key.Text a) (key.Text b) r s h k u v e = let both = text_tells a b r s h k e in (ap key.Text both.0, both.1)
key_tells (key.Moment a) (key.Moment b) r s h k u v e = let both = moment_tells a b r s h k u v e in (ap key.Moment both.0, both.1)
key_tells (key.Clob a) (key.Clob b) r s h k u v e = let both = clob_tells a b r s h k e in (ap key.Clob both.0, both.1)
key_tells (key.Blob a) (key.Blob b) r s h k u v e = let both = blob_tells a b r s h k e in (ap key.Blob both.0, both.1)
key_tells (key.Number c x) (key.Moment m) r s h k u v e = absurd (no_moment c x m r s h.0 e)
key_tells (key.Moment m) (key.Number c x) r s h k u v e = absurd (no_moment c x m s r k.0 (sym e))
key_tells (key.Clob a) (key.Blob b) r s h k u v e = absurd (no_clob_is_blob a b r s h k e)
key_tells (key.Blob a) (key.Clob b) r s h k u v e = absurd (no_clob_is_blob b a s r k h (sym e))
key_tells a b r s h k u v e = absurd (apart (same_sort a b r s h k e) refl)
