-- Timestamps are read back (Ion 1.0, "Text encoding", timestamps).
use Rattle.std.proofs.Common.{◌≡◌, ◌==◌, ◌+◌, ◌-◌, ◌*◌, ◌/◌, ◌%◌, ◌^◌, ◌<◌, ◌≤◌, ◌&&◌, ◌||◌, true, false, ℕ, ℤ, pos, negsuc, zero, suc, Option, Some, None, nat_le, nat_lt, List, [], ◌∷◌, ◌++◌, codes, length, take, drop, slice_index, Ok, inl, inr, refl, ap, sym, ◌∙◌, arith}
use Rattle.std.specs.Prelude.{int_lt, is_none}
use Rattle.std.specs.Char.{is_ascii_digit}
use Rattle.std.specs.List.{list_all}
use Rattle.std.proofs.lemmas.Bool.{and_parts, both_ways, cases_eq, cond-true, eq-eqb, eqb-true, le-ltb, leb-true, lt-ltb, ltb-true, ne_eqb, or_from, or_left}
use Rattle.std.proofs.lemmas.Bool.Decides.{nat_tests}
use Rattle.std.proofs.lemmas.List.{get_or-append-add, length-append, take_at, drop_at}
use Rattle.std.proofs.lemmas.List.Folds.{list_all-append}
use Rattle.ion_values.specs.Time as time
use Rattle.ion_values.specs.Time.{is_time}
use Rattle.ion_values.specs.declared.time.Precision.{Precision}
use Rattle.ion_values.specs.declared.time.Precision.TheVariants as p
use Rattle.ion_values.specs.declared.time.TimeParts.{TimeParts}
use Rattle.ion_model.specs.Timestamp.{digit, two_digits, four_digits, first_digits, fraction_text, clock_text, offset_text, month_text, day_text, minute_text, text_to, timestamp_text}
use Rattle.ion_model.specs.Numbers.{number_in}
use Rattle.ion_model.specs.Timestamps.{has_shape, is_dated, is_day, is_fraction, has_seconds, is_offset, offset_at, digit_of, two_at, four_at, nanos_of, offset_of, year_parts, month_parts, day_parts, minute_parts, second_parts, moment, offset_moment, clock_in, time_in}
use Rattle.ion_model.specs.declared.Scalar.TheVariants as scalar
use Rattle.ion_model.specs.declared.Token.TheVariants as token
use Rattle.ion_text.specs.RoundTrip.{ReadsAs}
use Rattle.ion_text.proofs.WrittenRuns.{differs, is_written, number_read, starts, unsigned_is}

-- ---- digits

digit_is : (n : ℕ) → is_ascii_digit (digit n) ≡ true
digit_is n = grind (arith, nat_tests)

digit_value : (n : ℕ) → digit_of (digit n) ≡ n % 10
digit_value n = rw (digit_is n) (omega arith)

-- wherever they stand in a text
two_value : (n : ℕ) → n < 100 → two_at (two_digits n) 0 ≡ n
two_value n h = omega (arith, digit_value)

four_value : (n : ℕ) → n < 10000 → four_at (four_digits n) 0 ≡ n
four_value n h = omega (arith, digit_value)

digit_written : (n : ℕ) → is_written (digit n) ≡ true
digit_written n = or_left (is_ascii_digit (digit n)) _ (digit_is n)

two_written : (n : ℕ) (rest : List ℕ) → list_all is_written (two_digits n ++ rest) ≡ list_all is_written rest
two_written n rest = rw (digit_written (n / 10), digit_written n) refl

four_written : (n : ℕ) (rest : List ℕ) → list_all is_written (four_digits n ++ rest) ≡ list_all is_written rest
four_written n rest = two_written (n / 100) (two_digits n ++ rest) ∙ two_written n rest

-- ---- shapes

digit_shape : (b : ℕ) (text shape : List ℕ) → is_ascii_digit b ≡ true → has_shape (b ∷ text) (48 ∷ shape) ≡ has_shape text shape
unfolding has_shape
digit_shape b text shape h = rw h refl

two_shape : (n : ℕ) (text shape : List ℕ) → has_shape (two_digits n ++ text) (codes "00" ++ shape) ≡ has_shape text shape
two_shape n text shape = digit_shape (digit (n / 10)) (digit n ∷ text) (48 ∷ shape) (digit_is (n / 10)) ∙ digit_shape (digit n) text shape (digit_is n)

-- a byte that stands for itself
mark_shape : (b : ℕ) (text shape : List ℕ) → (b == 48) ≡ false → has_shape (b ∷ text) (b ∷ shape) ≡ has_shape text shape
unfolding has_shape
mark_shape b text shape h = rw (h, eq-eqb b b refl) refl

marked_shape : (b n : ℕ) (text shape : List ℕ) → (b == 48) ≡ false → has_shape (b ∷ two_digits n ++ text) (b ∷ codes "00" ++ shape) ≡ has_shape text shape
marked_shape b n text shape h = mark_shape b (two_digits n ++ text) (codes "00" ++ shape) h ∙ two_shape n text shape

nothing_left : has_shape [] [] ≡ true
unfolding has_shape
nothing_left = refl

other_mark : (a b : ℕ) (text shape : List ℕ) → (b == 48) ≡ false → (a == b) ≡ false → has_shape (a ∷ text) (b ∷ shape) ≡ false
unfolding has_shape
other_mark a b text shape h k = rw (h, k) refl

too_long : (b : ℕ) (text : List ℕ) → has_shape (b ∷ text) [] ≡ false
unfolding has_shape
too_long b text = refl

same_end : (b : ℕ) → (b == 48) ≡ false → has_shape (b ∷ []) (b ∷ []) ≡ true
same_end b h = mark_shape b [] [] h ∙ nothing_left

-- ---- the parts of a text, up to the second

year_shape : (y : ℕ) (text shape : List ℕ) → has_shape (four_digits y ++ text) (codes "0000" ++ shape) ≡ has_shape text shape
year_shape y text shape = two_shape (y / 100) (two_digits y ++ text) (codes "00" ++ shape) ∙ two_shape y text shape

month_shape : (t : TimeParts) (text shape : List ℕ) → has_shape (month_text t ++ text) (codes "0000-00" ++ shape) ≡ has_shape text shape
month_shape t text shape = year_shape t.year (45 ∷ two_digits t.month ++ text) (codes "-00" ++ shape) ∙ marked_shape 45 t.month text shape refl

day_shape : (t : TimeParts) (text shape : List ℕ) → has_shape (day_text t ++ text) (codes "0000-00-00" ++ shape) ≡ has_shape text shape
day_shape t text shape = month_shape t (45 ∷ two_digits t.day ++ text) (codes "-00" ++ shape) ∙ marked_shape 45 t.day text shape refl

minute_shape : (t : TimeParts) (text shape : List ℕ) → has_shape (minute_text t ++ text) (codes "0000-00-00T00:00" ++ shape) ≡ has_shape text shape
minute_shape t text shape =
    day_shape t (84 ∷ two_digits t.hour ++ 58 ∷ two_digits t.minute ++ text) (codes "T00:00" ++ shape)
    ∙ marked_shape 84 t.hour (58 ∷ two_digits t.minute ++ text) (codes ":00" ++ shape) refl ∙ marked_shape 58 t.minute text shape refl

-- how a text with a second begins
abbrev to_second : TimeParts → List ℕ
to_second t = minute_text t ++ 58 ∷ two_digits t.second

second_shape : (t : TimeParts) → has_shape (to_second t) (codes "0000-00-00T00:00:00") ≡ true
second_shape t = minute_shape t (58 ∷ two_digits t.second) (codes ":00") ∙ marked_shape 58 t.second [] [] refl ∙ nothing_left

not_year : (t : TimeParts) (text : List ℕ) → has_shape (month_text t ++ text) (codes "0000T") ≡ false
not_year t text = year_shape t.year (45 ∷ two_digits t.month ++ text) (84 ∷ []) ∙ other_mark 45 84 (two_digits t.month ++ text) [] refl refl

not_month : (t : TimeParts) (text : List ℕ) → has_shape (day_text t ++ text) (codes "0000-00T") ≡ false
not_month t text = month_shape t (45 ∷ two_digits t.day ++ text) (84 ∷ []) ∙ other_mark 45 84 (two_digits t.day ++ text) [] refl refl

not_day : (t : TimeParts) (text : List ℕ) → is_day (minute_text t ++ text) ≡ false
not_day t text =
    let clock : List ℕ = two_digits t.hour ++ 58 ∷ two_digits t.minute ++ text in
    or_from (has_shape (minute_text t ++ text) (codes "0000-00-00")) (has_shape (minute_text t ++ text) (codes "0000-00-00T"))
    (day_shape t (84 ∷ clock) [] ∙ too_long 84 clock)
    (day_shape t (84 ∷ clock) (84 ∷ []) ∙ mark_shape 84 clock [] refl ∙ too_long (digit (t.hour / 10)) (digit t.hour ∷ 58 ∷ two_digits t.minute ++ text))

-- ---- offsets

-- the distance from UTC that is read back from its text
record Offset (o : Option ℤ) (text : List ℕ) : Type 0 where
  pub shape : is_offset text ≡ true
  pub minutes : nat_lt (two_at text 4) 60 ≡ true
  pub value : offset_of text ≡ o
  pub place : (front : List ℕ) → offset_at (front ++ text) ≡ length front
  pub bytes : list_all is_written text ≡ true

-- the last byte tells how many there are
last_of : (front text : List ℕ) (n : ℕ) → length text ≡ suc n → slice_index (front ++ text) (length (front ++ text) - 1) ≡ slice_index text n
last_of front text n h =
    ap (slice_index (front ++ text)) (let at : length (front ++ text) - 1 ≡ length front + n = omega (arith, length-append front text) in at) ∙ get_or-append-add front text n 0

place_of_one : (front : List ℕ) → offset_at (front ++ 90 ∷ []) ≡ length front
place_of_one front = rw (last_of front (90 ∷ []) 0 refl) (omega (arith, length-append front (90 ∷ [])))

place_of_six : (front : List ℕ) (a b c d e f : ℕ) → (f == 90) ≡ false → offset_at (front ++ a ∷ b ∷ c ∷ d ∷ e ∷ f ∷ []) ≡ length front
place_of_six front a b c d e f h =
    rw (last_of front (a ∷ b ∷ c ∷ d ∷ e ∷ f ∷ []) 5 refl, h) (omega (arith, length-append front (a ∷ b ∷ c ∷ d ∷ e ∷ f ∷ [])))

utc : Offset (Some (pos 0)) (codes "Z")
unfolding is_offset has_shape
utc = record { shape = refl; minutes = refl; value = refl; place = place_of_one; bytes = refl }

unknown : Offset None (codes "-00:00")
unfolding is_offset has_shape
unknown = record { shape = refl; minutes = refl; value = refl; place = λ front. place_of_six front 45 48 48 58 48 48 refl; bytes = refl }

-- ---- offsets with a sign, of less than a day

clock_shape : (sign n : ℕ) → (sign == 48) ≡ false → has_shape (sign ∷ clock_text n) (sign ∷ codes "00:00") ≡ true
clock_shape sign n h = marked_shape sign (n / 60) (58 ∷ two_digits (n % 60)) (codes ":00") h ∙ marked_shape 58 (n % 60) [] [] refl ∙ nothing_left

clock_minutes : (sign n : ℕ) → nat_lt (two_at (sign ∷ clock_text n) 4) 60 ≡ true
clock_minutes sign n = lt-ltb _ 60 (omega (arith, two_value (n % 60) (omega arith)))

clock_value : (sign n : ℕ) → n < 1440 → two_at (sign ∷ clock_text n) 1 * 60 + two_at (sign ∷ clock_text n) 4 ≡ n
clock_value sign n h = omega (arith, two_value (n / 60) (omega arith), two_value (n % 60) (omega arith))

clock_written : (sign n : ℕ) → is_written sign ≡ true → list_all is_written (sign ∷ clock_text n) ≡ true
clock_written sign n h = rw h (two_written (n / 60) (58 ∷ two_digits (n % 60)) ∙ two_written (n % 60) [])

clock_place : (sign n : ℕ) (front : List ℕ) → offset_at (front ++ sign ∷ clock_text n) ≡ length front
clock_place sign n front =
    place_of_six front sign (digit (n / 60 / 10)) (digit (n / 60)) 58 (digit (n % 60 / 10)) (digit (n % 60))
    (differs is_ascii_digit (digit (n % 60)) 90 (digit_is (n % 60)) refl)

east : (n : ℕ) → n < 1440 → Offset (Some (pos n)) (43 ∷ clock_text n)
unfolding is_offset
east n h = record {
  shape = rw (other_mark 43 90 (clock_text n) [] refl refl, clock_shape 43 n refl) refl;
  minutes = clock_minutes 43 n;
  value = ap (λ m. Some (pos m)) (clock_value 43 n h);
  place = clock_place 43 n;
  bytes = clock_written 43 n refl;
}

west : (n : ℕ) → suc n < 1440 → Offset (Some (negsuc n)) (45 ∷ clock_text (suc n))
unfolding is_offset
west n h = record {
  shape =
      rw (other_mark 45 90 (clock_text (suc n)) [] refl refl, other_mark 45 43 (clock_text (suc n)) (codes "00:00") refl refl, clock_shape 45 (suc n) refl) refl;
  minutes = clock_minutes 45 (suc n);
  value = rw (clock_value 45 (suc n) h, ne_eqb (suc n) 0 (λ e. omega arith)) refl;
  place = clock_place 45 (suc n);
  bytes = clock_written 45 (suc n) refl;
}

offset_read : (o : Option ℤ) → time.is_offset o ≡ true → Offset o (offset_text o)
offset_read None h = unknown
offset_read (Some (pos n)) h =
    elim (cases_eq n 0) [
      | inl none ↦ rw none utc
      | inr some ↦ rw (ne_eqb n 0 some) (east n (ltb-true n 1440 (and_parts (int_lt (negsuc 1439) (pos n)) (int_lt (pos n) (pos 1440)) h).1))
    ]
offset_read (Some (negsuc n)) h =
    let small : n < 1439 = ltb-true n 1439 (and_parts (int_lt (negsuc 1439) (negsuc n)) (int_lt (negsuc n) (pos 1440)) h).0 in
    west n (omega arith)

-- ---- fractions

-- the fraction that is read back from its text
record Fraction (count nanos : ℕ) (text : List ℕ) : Type 0 where
  pub shape : is_fraction text ≡ true
  pub digits : length (drop 1 text) ≡ count
  pub value : nanos_of (drop 1 text) ≡ nanos
  pub bytes : list_all is_written text ≡ true

digits_length : (count n : ℕ) → length (first_digits count n) ≡ count
digits_length zero n = refl
digits_length (suc count) n = ap suc (digits_length count (n % 100_000_000 * 10))

digits_are : (count n : ℕ) → list_all is_ascii_digit (first_digits count n) ≡ true
digits_are zero n = refl
digits_are (suc count) n = rw (digit_is (n / 100_000_000)) (digits_are count (n % 100_000_000 * 10))

digits_written : (count n : ℕ) → list_all is_written (first_digits count n) ≡ true
digits_written zero n = refl
digits_written (suc count) n = rw (digit_written (n / 100_000_000)) (digits_written count (n % 100_000_000 * 10))

-- by the number of digits, of which there are at most nine
nanos_value : (count n : ℕ) → count ≤ 9 → n < 10 ^ 9 → n % 10 ^ (9 - count) ≡ 0 → nanos_of (first_digits count n) ≡ n
nanos_value zero n fits small ends = omega (arith, digit_value)
nanos_value (suc zero) n fits small ends = omega (arith, digit_value)
nanos_value (suc (suc zero)) n fits small ends = omega (arith, digit_value)
nanos_value (suc (suc (suc zero))) n fits small ends = omega (arith, digit_value)
nanos_value (suc (suc (suc (suc zero)))) n fits small ends = omega (arith, digit_value)
nanos_value (suc (suc (suc (suc (suc zero))))) n fits small ends = omega (arith, digit_value)
nanos_value (suc (suc (suc (suc (suc (suc zero)))))) n fits small ends = omega (arith, digit_value)
nanos_value (suc (suc (suc (suc (suc (suc (suc zero))))))) n fits small ends = omega (arith, digit_value)
nanos_value (suc (suc (suc (suc (suc (suc (suc (suc zero)))))))) n fits small ends = omega (arith, digit_value)
nanos_value (suc (suc (suc (suc (suc (suc (suc (suc (suc zero))))))))) n fits small ends = omega (arith, digit_value)
nanos_value (suc (suc (suc (suc (suc (suc (suc (suc (suc (suc count)))))))))) n fits small ends = absurd (omega arith)

some_fraction : (count n : ℕ) → nanos_of (first_digits (suc count) n) ≡ n → Fraction (suc count) n (46 ∷ first_digits (suc count) n)
some_fraction count n value = record {
  shape = rw (digits_length (suc count) n, ne_eqb (suc count) 0 (λ e. omega arith)) (digits_are (suc count) n);
  digits = digits_length (suc count) n;
  value = value;
  bytes = digits_written (suc count) n;
}

fraction_of : (count n : ℕ) → nanos_of (first_digits count n) ≡ n → Fraction count n (fraction_text count n)
fraction_of zero n value = record { shape = refl; digits = refl; value = value; bytes = refl }
fraction_of (suc count) n value = rw (ne_eqb (suc count) 0 (λ e. omega arith)) (some_fraction count n value)

fraction_read : (count nanos : ℕ) → time.is_fraction count nanos ≡ true → Fraction count nanos (fraction_text count nanos)
fraction_read count nanos h =
    let all = and_parts (nat_le count 9 && nat_lt nanos (10 ^ 9)) (nanos % 10 ^ (9 - count) == 0) h in
    let both = and_parts (nat_le count 9) (nat_lt nanos (10 ^ 9)) all.0 in
    fraction_of count nanos (nanos_value count nanos (leb-true count 9 both.0) (ltb-true nanos (10 ^ 9) both.1) (eqb-true (nanos % 10 ^ (9 - count)) 0 all.1))

-- ---- the ranges of a time

record Ranges (t : TimeParts) : Type 0 where
  pub year : t.year < 10000
  pub month : t.month < 100
  pub day : t.day < 100
  pub hour : t.hour < 100
  pub minute : t.minute < 100
  pub second : t.second < 100
  pub offset : time.is_offset t.offset ≡ true
  pub digits : t.digits ≤ 9
  pub fraction : time.is_fraction t.digits t.nanos ≡ true
  pub ends : time.ends_at t.precision t ≡ true

year_in : (y m d : ℕ) → time.is_date y m d ≡ true → y < 10000
year_in y m d h = grind (arith, nat_tests)

month_in : (y m d : ℕ) → time.is_date y m d ≡ true → m < 100
month_in y m d h = grind (arith, nat_tests)

day_in : (y m d : ℕ) → time.is_date y m d ≡ true → d < 100
day_in y m d h = grind (arith, nat_tests)

ranges : (t : TimeParts) → is_time t ≡ true → Ranges t
unfolding is_time
ranges t h =
    let date = time.is_date t.year t.month t.day in
    let fraction = time.is_fraction t.digits t.nanos in
    let ends = time.ends_at t.precision t in
    let a = and_parts (date && time.is_clock t && time.is_offset t.offset && fraction && ends) (time.is_in_years (time.utc_minutes t)) h in
    let b = and_parts (date && time.is_clock t && time.is_offset t.offset && fraction) ends a.0 in
    let c = and_parts (date && time.is_clock t && time.is_offset t.offset) fraction b.0 in
    let d = and_parts (date && time.is_clock t) (time.is_offset t.offset) c.0 in
    let e = and_parts date (time.is_clock t) d.0 in
    let clock = and_parts (nat_lt t.hour 24 && nat_lt t.minute 60) (nat_lt t.second 60) e.1 in
    let hours = and_parts (nat_lt t.hour 24) (nat_lt t.minute 60) clock.0 in
    let digits = and_parts (nat_le t.digits 9 && nat_lt t.nanos (10 ^ 9)) (t.nanos % 10 ^ (9 - t.digits) == 0) c.1 in
    record {
      year = year_in t.year t.month t.day e.0;
      month = month_in t.year t.month t.day e.0;
      day = day_in t.year t.month t.day e.0;
      hour = omega (arith, ltb-true t.hour 24 hours.0);
      minute = omega (arith, ltb-true t.minute 60 hours.1);
      second = omega (arith, ltb-true t.second 60 clock.1);
      offset = d.1;
      digits = leb-true t.digits 9 (and_parts (nat_le t.digits 9) (nat_lt t.nanos (10 ^ 9)) digits.0).0;
      fraction = c.1;
      ends = b.1;
    }

same_parts :
    (s t : TimeParts) → s.precision ≡ t.precision → s.year ≡ t.year → s.month ≡ t.month → s.day ≡ t.day → s.hour ≡ t.hour → s.minute ≡ t.minute →
    s.second ≡ t.second → s.digits ≡ t.digits → s.nanos ≡ t.nanos → s.offset ≡ t.offset → s ≡ t
same_parts s t precision year month day hour minute second digits nanos offset =
    λ i. record {
      precision = precision i;
      year = year i;
      month = month i;
      day = day i;
      hour = hour i;
      minute = minute i;
      second = second i;
      digits = digits i;
      nanos = nanos i;
      offset = offset i;
    }

-- ---- what the precision leaves out

none_is : (o : Option ℤ) → is_none o ≡ true → None ≡ o
none_is None h = refl
none_is (Some minutes) h = absurd (both_ways false refl h)

zero_is : (n : ℕ) → (n == 0) ≡ true → 0 ≡ n
zero_is n h = sym (eqb-true n 0 h)

record NoSecond (t : TimeParts) : Type 0 where
  pub second : 0 ≡ t.second
  pub digits : 0 ≡ t.digits
  pub nanos : 0 ≡ t.nanos

no_second : (t : TimeParts) → time.lacks_second t ≡ true → NoSecond t
no_second t h =
    let a = and_parts (t.second == 0) (time.lacks_fraction t) h in
    let b = and_parts (t.digits == 0) (t.nanos == 0) a.1 in
    record { second = zero_is t.second a.0; digits = zero_is t.digits b.0; nanos = zero_is t.nanos b.1 }

record NoClock (t : TimeParts) : Type 0 where
  pub hour : 0 ≡ t.hour
  pub minute : 0 ≡ t.minute
  pub offset : None ≡ t.offset
  pub rest : NoSecond t

no_clock : (t : TimeParts) → time.lacks_clock t ≡ true → NoClock t
no_clock t h =
    let a = and_parts ((t.hour == 0) && (t.minute == 0) && is_none t.offset) (time.lacks_second t) h in
    let b = and_parts ((t.hour == 0) && (t.minute == 0)) (is_none t.offset) a.0 in
    let c = and_parts (t.hour == 0) (t.minute == 0) b.0 in
    record { hour = zero_is t.hour c.0; minute = zero_is t.minute c.1; offset = none_is t.offset b.1; rest = no_second t a.1 }

-- ---- the parts that are read

module _ (t : TimeParts) (r : Ranges t) where
  year_parts_are : p.Year ≡ t.precision → 1 ≡ t.month → 1 ≡ t.day → NoClock t → year_parts (four_digits t.year ++ codes "T") ≡ t
  year_parts_are precision month day none =
      same_parts _ t precision (four_value t.year r.year) month day none.hour none.minute none.rest.second none.rest.digits none.rest.nanos none.offset

  month_parts_are : p.Month ≡ t.precision → 1 ≡ t.day → NoClock t → month_parts (month_text t ++ codes "T") ≡ t
  month_parts_are precision day none =
      same_parts _ t precision (four_value t.year r.year) (two_value t.month r.month) day none.hour none.minute none.rest.second none.rest.digits none.rest.nanos
      none.offset

  day_parts_are : p.Day ≡ t.precision → NoClock t → day_parts (day_text t) ≡ t
  day_parts_are precision none =
      same_parts _ t precision (four_value t.year r.year) (two_value t.month r.month) (two_value t.day r.day) none.hour none.minute none.rest.second
      none.rest.digits none.rest.nanos none.offset

  minute_parts_are : (offset : List ℕ) → p.Minute ≡ t.precision → NoSecond t → Offset t.offset offset → minute_parts (minute_text t) offset ≡ t
  unfolding minute_parts
  minute_parts_are offset precision none o =
      same_parts _ t precision (four_value t.year r.year) (two_value t.month r.month) (two_value t.day r.day) (two_value t.hour r.hour)
      (two_value t.minute r.minute) none.second none.digits none.nanos o.value

  second_parts_are :
      (fraction offset : List ℕ) → p.Second ≡ t.precision → Fraction t.digits t.nanos fraction → Offset t.offset offset →
      second_parts (to_second t ++ fraction) (drop 1 fraction) offset ≡ t
  unfolding second_parts minute_parts
  second_parts_are fraction offset precision f o =
      same_parts _ t precision (four_value t.year r.year) (two_value t.month r.month) (two_value t.day r.day) (two_value t.hour r.hour)
      (two_value t.minute r.minute) (two_value t.second r.second) f.digits f.value o.value

-- ---- what the reader makes of a text

moment_is : (s t : TimeParts) → s ≡ t → is_time t ≡ true → moment s ≡ Ok (scalar.Timestamp t)
moment_is s t e h = ap moment e ∙ cond-true (is_time t) _ _ h

year_time : (t : TimeParts) → time_in (four_digits t.year ++ codes "T") ≡ moment (year_parts (four_digits t.year ++ codes "T"))
unfolding time_in
year_time t = rw (year_shape t.year (codes "T") (codes "T") ∙ same_end 84 refl) refl

month_time : (t : TimeParts) → time_in (month_text t ++ codes "T") ≡ moment (month_parts (month_text t ++ codes "T"))
unfolding time_in
month_time t = rw (not_year t (codes "T"), month_shape t (codes "T") (codes "T") ∙ same_end 84 refl) refl

day_time : (t : TimeParts) → time_in (day_text t) ≡ moment (day_parts (day_text t))
unfolding time_in
day_time t = rw (not_year t (45 ∷ two_digits t.day), not_month t [], day_shape t [] [] ∙ nothing_left) refl

-- the offset is cut off where it stands
cut_off : (front offset : List ℕ) (n : ℕ) → n ≡ length front → clock_in (take n (front ++ offset)) (drop n (front ++ offset)) ≡ clock_in front offset
cut_off front offset n h = λ i. clock_in (take_at front offset n (sym h) i) (drop_at front offset n (sym h) i)

clock_time : (t : TimeParts) (more offset : List ℕ) → Offset t.offset offset → time_in (minute_text t ++ more ++ offset) ≡ clock_in (minute_text t ++ more) offset
unfolding time_in
clock_time t more offset o =
    rw (
      not_year t (45 ∷ two_digits t.day ++ 84 ∷ two_digits t.hour ++ 58 ∷ two_digits t.minute ++ more ++ offset),
      not_month t (84 ∷ two_digits t.hour ++ 58 ∷ two_digits t.minute ++ more ++ offset),
      not_day t (more ++ offset),
    )
    (cut_off (minute_text t ++ more) offset (offset_at (minute_text t ++ more ++ offset)) (o.place (minute_text t ++ more)))

minute_time : (t : TimeParts) (offset : List ℕ) → Offset t.offset offset → clock_in (minute_text t) offset ≡ moment (minute_parts (minute_text t) offset)
unfolding offset_moment
minute_time t offset o = rw (o.shape, minute_shape t [] [] ∙ nothing_left, o.minutes) refl

seconds_are : (t : TimeParts) (fraction : List ℕ) → is_fraction fraction ≡ true → has_seconds (to_second t ++ fraction) ≡ true
unfolding has_seconds
seconds_are t fraction h = rw (second_shape t, h) refl

second_time :
    (t : TimeParts) (fraction offset : List ℕ) → t.digits ≤ 9 → Fraction t.digits t.nanos fraction → Offset t.offset offset →
    clock_in (to_second t ++ fraction) offset ≡ moment (second_parts (to_second t ++ fraction) (drop 1 fraction) offset)
unfolding offset_moment
second_time t fraction offset few f o =
    let longer : has_shape (to_second t ++ fraction) (codes "0000-00-00T00:00") ≡ false =
    minute_shape t (58 ∷ two_digits t.second ++ fraction) [] ∙ too_long 58 (two_digits t.second ++ fraction) in
    let fits : nat_lt 9 (length (drop 1 fraction)) ≡ false = le-ltb 9 (length (drop 1 fraction)) (omega (arith, f.digits)) in
    rw (o.shape, longer, seconds_are t fraction f.shape, fits, o.minutes) refl

-- ---- runs

dated : (y mark : ℕ) (text : List ℕ) → is_ascii_digit mark ≡ false → (mark == 0x54 || mark == 0x2D) ≡ true → is_dated (four_digits y ++ mark ∷ text) ≡ true
dated y mark text h k = rw (digit_is (y / 100 / 10), digit_is (y / 100), digit_is (y / 10), digit_is y, h, k) refl

-- the time that is read back from its text
record Reads (t : TimeParts) (text : List ℕ) : Type 0 where
  pub front : starts text ≡ true
  pub bytes : list_all is_written text ≡ true
  pub number : number_in text ≡ Ok (scalar.Timestamp t)

reads :
    (t : TimeParts) (y mark : ℕ) (text : List ℕ) → is_ascii_digit mark ≡ false → (mark == 0x54 || mark == 0x2D) ≡ true →
    list_all is_written (mark ∷ text) ≡ true → time_in (four_digits y ++ mark ∷ text) ≡ Ok (scalar.Timestamp t) → Reads t (four_digits y ++ mark ∷ text)
reads t y mark text h k bytes time =
    let all : list_all is_written (four_digits y ++ mark ∷ text) ≡ true = four_written y (mark ∷ text) ∙ bytes in
    let first = digit_is (y / 100 / 10) in
    record {
      front = or_left (is_ascii_digit (digit (y / 100 / 10))) _ first;
      bytes = all;
      number =
          rw (differs is_ascii_digit (digit (y / 100 / 10)) 45 first refl)
          (unsigned_is false (four_digits y ++ mark ∷ text) all ∙ rw (dated y mark text h k) time);
    }

module _ (t : TimeParts) (h : is_time t ≡ true) (r : Ranges t) where
  year_reads : p.Year ≡ t.precision → time.lacks_month t ≡ true → Reads t (text_to p.Year t)
  year_reads precision ends =
      let a = and_parts (t.month == 1) (time.lacks_day t) ends in
      let b = and_parts (t.day == 1) (time.lacks_clock t) a.1 in
      let same = year_parts_are t r precision (sym (eqb-true t.month 1 a.0)) (sym (eqb-true t.day 1 b.0)) (no_clock t b.1) in
      reads t t.year 84 [] refl refl refl (year_time t ∙ moment_is _ t same h)

  month_reads : p.Month ≡ t.precision → time.lacks_day t ≡ true → Reads t (text_to p.Month t)
  month_reads precision ends =
      let b = and_parts (t.day == 1) (time.lacks_clock t) ends in
      let same = month_parts_are t r precision (sym (eqb-true t.day 1 b.0)) (no_clock t b.1) in
      reads t t.year 45 (two_digits t.month ++ codes "T") refl refl (two_written t.month (codes "T")) (month_time t ∙ moment_is _ t same h)

  day_reads : p.Day ≡ t.precision → time.lacks_clock t ≡ true → Reads t (text_to p.Day t)
  day_reads precision ends =
      reads t t.year 45 (two_digits t.month ++ 45 ∷ two_digits t.day) refl refl (two_written t.month (45 ∷ two_digits t.day) ∙ two_written t.day [])
      (day_time t ∙ moment_is _ t (day_parts_are t r precision (no_clock t ends)) h)

  -- the bytes behind the year where a clock is written
  clock_bytes : (more : List ℕ) → list_all is_written more ≡ true →
      list_all is_written (45 ∷ two_digits t.month ++ 45 ∷ two_digits t.day ++ 84 ∷ two_digits t.hour ++ 58 ∷ two_digits t.minute ++ more) ≡ true
  clock_bytes more bytes =
      two_written t.month (45 ∷ two_digits t.day ++ 84 ∷ two_digits t.hour ++ 58 ∷ two_digits t.minute ++ more)
      ∙ two_written t.day (84 ∷ two_digits t.hour ++ 58 ∷ two_digits t.minute ++ more)
      ∙ two_written t.hour (58 ∷ two_digits t.minute ++ more) ∙ two_written t.minute more ∙ bytes

  minute_reads : p.Minute ≡ t.precision → time.lacks_second t ≡ true → Reads t (text_to p.Minute t)
  minute_reads precision ends =
      let offset : List ℕ = offset_text t.offset in
      let o : Offset t.offset offset = offset_read t.offset r.offset in
      let rest : List ℕ = two_digits t.month ++ 45 ∷ two_digits t.day ++ 84 ∷ two_digits t.hour ++ 58 ∷ two_digits t.minute ++ offset in
      reads t t.year 45 rest refl refl (clock_bytes offset o.bytes)
      (clock_time t [] offset o ∙ minute_time t offset o ∙ moment_is _ t (minute_parts_are t r offset precision (no_second t ends) o) h)

  second_reads : p.Second ≡ t.precision → Reads t (text_to p.Second t)
  second_reads precision =
      let offset : List ℕ = offset_text t.offset in
      let o : Offset t.offset offset = offset_read t.offset r.offset in
      let fraction : List ℕ = fraction_text t.digits t.nanos in
      let f : Fraction t.digits t.nanos fraction = fraction_read t.digits t.nanos r.fraction in
      let more : List ℕ = 58 ∷ two_digits t.second ++ fraction ++ offset in
      let bytes : list_all is_written more ≡ true = two_written t.second (fraction ++ offset) ∙ list_all-append is_written fraction offset ∙ rw f.bytes o.bytes in
      let rest : List ℕ = two_digits t.month ++ 45 ∷ two_digits t.day ++ 84 ∷ two_digits t.hour ++ 58 ∷ two_digits t.minute ++ more in
      reads t t.year 45 rest refl refl (clock_bytes more bytes)
      (clock_time t (58 ∷ two_digits t.second ++ fraction) offset o ∙ second_time t fraction offset r.digits f o
      ∙ moment_is _ t (second_parts_are t r fraction offset precision f o) h)

  reads_to : (precision : Precision) → precision ≡ t.precision → time.ends_at precision t ≡ true → Reads t (text_to precision t)
  reads_to p.Year same ends = year_reads same ends
  reads_to p.Month same ends = month_reads same ends
  reads_to p.Day same ends = day_reads same ends
  reads_to p.Minute same ends = minute_reads same ends
  reads_to p.Second same ends = second_reads same

read_time : (t : TimeParts) → is_time t ≡ true → Reads t (timestamp_text t)
read_time t h = let r = ranges t h in reads_to t h r t.precision refl r.ends

pub time_written : (t : TimeParts) → is_time t ≡ true → list_all is_written (timestamp_text t) ≡ true
time_written t h = (read_time t h).bytes

-- a timestamp whose parts are in their ranges
pub time_read : (t : TimeParts) → is_time t ≡ true → ReadsAs (timestamp_text t) (token.Scalar (scalar.Timestamp t))
time_read t h =
    let read = read_time t h in
    number_read (timestamp_text t) (scalar.Timestamp t) read.front read.bytes read.number
